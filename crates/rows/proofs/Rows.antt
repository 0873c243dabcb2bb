-- Rows with nothing in them, rows cleared, and what a row has.
use Prim.Native.Nat.{ℕ, ◌+◌, ◌-◌, ◌*◌, ◌/◌, ◌%◌, ◌^◌, ◌≤◌, ◌<◌}
use mathlib.Core.Bool.{Bool, true, false, not, ◌&&◌, cond}
use mathlib.Core.List.{List, ◌++◌}
use mathlib.Core.Path.{◌≡◌, refl, sym, ap, ap₂, ◌∙◌}
use native.Mathlib.Omega.{arith}
use lib.Dec.{ltb}
use lib.ListN.{length, get_or, take, drop, replicate, length-replicate, length-append, length-drop, get_or-append, get_or-replicate}
use lib.Seq.{length-take-le, get_or-drop, get_or-append_right}
use borrow.Author.Tests.{ltb-true, ltb-false}
use Rattle.base.proofs.Bools.{never_true}
use Rattle.nodeset.specs.Words.{bit, has}
use Rattle.nodeset.proofs.Bits.{bit_zero}
use Rattle.nodeset.proofs.Sets.{has-drop, zeros, canonical}
use Rattle.model.specs.Limits.{max_nodes}
use Rattle.model.proofs.Repeats.{converse}
use Rattle.paths.specs.Images.{converse_if}
use Rattle.closure.specs.Rows.{between, rows_of, leads, Within}
use Rattle.closure.proofs.Rows.{zero_rows, length_of_rows, within-rows, has-rows, rows-node}

pub within_zeros : (n words : ℕ) {rows : List ℕ} → rows ≡ replicate words 0 → Within n rows
within_zeros n words e = within-rows n (λ v w. false) words (e ∙ zero_rows n words)

-- rows for all nodes: empty ones may be filled for n of them, and filled ones searched
pub empty-room : (n : ℕ) {rows : List ℕ} → n ≤ max_nodes → rows ≡ replicate (16 * max_nodes) 0 → (16 * n ≤ length rows) × Within n rows
empty-room n few e = (omega (arith, ap length e, length-replicate {A = ℕ} (16 * max_nodes) 0, few), within_zeros n (16 * max_nodes) e)

pub filled-room : (n : ℕ) (r : ℕ → ℕ → Bool) {rows : List ℕ} → n ≤ max_nodes → rows ≡ rows_of n r (16 * max_nodes) → (n ≤ max_nodes) × (16 * n ≤ length rows) × Within n rows
filled-room n r few e = (few, omega (arith, few, length_of_rows n r (16 * max_nodes) e), within-rows n r (16 * max_nodes) e)

-- rows that are filled from each node alone have what is followed the other way
pub turned : (back : Bool) (r : ℕ → ℕ → Bool) → converse (converse_if (not back) r) ≡ converse_if back r
turned true r = refl
turned false r = refl

-- row v, the words from 16 * v on
pub has-row : (n : ℕ) (r : ℕ → ℕ → Bool) (words : ℕ) {rows : List ℕ} → rows ≡ rows_of n r words → (v : ℕ) → 16 * v + 16 ≤ words → (w : ℕ) → w < max_nodes → has (drop (16 * v) rows) w ≡ between n r v w
has-row n r words {rows} e v room w l =
    has-drop rows (16 * v) w ∙ has-rows n r words e (16 * v * 64 + w) (omega arith)
    ∙ ap₂ (between n r) (let z : (16 * v * 64 + w) / max_nodes ≡ v = omega arith in z) (let z : (16 * v * 64 + w) % max_nodes ≡ w = omega arith in z)

-- ---- the rows of n nodes, cleared: nothing stands past them, so it is enough to clear these
module _ (n : ℕ) (rows : List ℕ) (room : 16 * n ≤ length rows) (past : Within n rows) {part : List ℕ} (none : part ≡ replicate (length (take (16 * n) rows)) 0) where
  few : length (take (16 * n) rows) ≡ 16 * n
  few = length-take-le (16 * n) rows room

  long : length part ≡ 16 * n
  long = ap length none ∙ length-replicate {A = ℕ} (length (take (16 * n) rows)) 0 ∙ few

  pub cleared : ((i : ℕ) → get_or (part ++ drop (16 * n) rows) i 0 < 2 ^ 64) → part ++ drop (16 * n) rows ≡ replicate (length rows) 0
  unfolding has
  cleared small = canonical (part ++ drop (16 * n) rows) (λ x. false) (length rows) (length-append part (drop (16 * n) rows) ∙ omega (arith, room, long, length-drop (16 * n) rows)) small (λ x l. go x (ltb (x / 64) (16 * n)) refl) ∙ sym (zeros (length rows))
    where
      go : (x : ℕ) (b : Bool) → ltb (x / 64) (16 * n) ≡ b → has (part ++ drop (16 * n) rows) x ≡ false
      go x true h =
          let l : x / 64 < 16 * n = ltb-true (x / 64) (16 * n) h in
          ap (λ (y : ℕ). bit y (x % 64)) (get_or-append part (drop (16 * n) rows) 0 (x / 64) (omega (arith, l, long)) ∙ ap (λ (ws : List ℕ). get_or ws (x / 64) 0) none ∙ get_or-replicate (length (take (16 * n) rows)) (x / 64) 0 0 (omega (arith, l, few))) ∙ bit_zero (x % 64)
      go x false h =
          let l : 16 * n ≤ x / 64 = ltb-false (x / 64) (16 * n) h in
          ap (λ (y : ℕ). bit y (x % 64)) (get_or-append_right part (drop (16 * n) rows) (x / 64) 0 (omega (arith, l, long)) ∙ get_or-drop (16 * n) rows (x / 64 - length part) 0 ∙ ap (λ (i : ℕ). get_or rows i 0) (let z : 16 * n + (x / 64 - length part) ≡ x / 64 = omega (arith, l, long) in z))
          ∙ never_true (has rows x) (λ e. let z : x / max_nodes < n = (rows-node n (leads rows) (length rows) past x e).0 in omega (arith, l, z))
