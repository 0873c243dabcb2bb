-- From what is known of the parts to what is known of an entry, for all nodes of a set.
use Prim.Native.Nat.{ℕ, ◌+◌, ◌≤◌, ◌<◌}
use mathlib.Core.List.{List}
use mathlib.Core.Bool.{Bool, true, false, not, cond, ◌&&◌, ◌||◌}
use mathlib.Core.Path.{◌≡◌, refl, sym, ap, ◌∙◌}
use native.Mathlib.Omega.{arith}
use lib.IntN.{ℤ}
use lib.ListN.{length, replicate, length-replicate}
use borrow.Author.Tests.{not-true}
use Rattle.base.specs.Bounded.{◌⇒◌, every}
use Rattle.base.proofs.Bools.{bool_cases, implies_true, true_implies}
use Rattle.base.proofs.Bounded.{every-at, every-all}
use Rattle.base.specs.Least.{next_from}
use Rattle.nodeset.specs.Words.{has, words_of, with}
use Rattle.nodeset.proofs.Sets.{has_of}
use Rattle.model.specs.Shapes.{conforms}
use Rattle.model.specs.Limits.{max_nodes, max_forms}
use Rattle.tables.specs.Layout.{node_count, form_count}
use Rattle.tables.specs.Decode.{graph_at, shape_at}
use Rattle.conditions.proofs.Members.{Passed, passed_none, passed_more, passed_all}
use Rattle.paths.specs.Facts.{Tables}
use Rattle.entries.proofs.Codes.{nodes_le, sound_of}
use Rattle.verdict.specs.Memo.{yes_place, no_place, settled, MemoRight, Ready, Decided, Settled, memo_count}
use Rattle.verdict.specs.Parts.{first_part, second_part, looks_at, PartsKnown}
use Rattle.verdict.proofs.Memo.{with_new, settled-grows, known-right, right-none, right-more, grows-more, settled-more}

-- ---- the loop over the nodes: n nodes, of which those before v are settled
pub record Filling (cs : List ℕ) (vs : List ℤ) (start memo : List ℕ) (e : ℕ) (nodes : List ℕ) (n v : ℕ) : Type 0 where
  pub count : n ≡ node_count cs
  pub size : length memo ≡ memo_count
  pub right : MemoRight cs vs memo
  pub grows : (m : ℕ) → has start m ≡ true → has memo m ≡ true
  pub passed : Passed (has nodes) (settled memo e) n v

-- a weaker test of the members
passed_weaker : (p q s : ℕ → Bool) (n v : ℕ) → ((x : ℕ) → q x ≡ true → s x ≡ true) → Passed p q n v → Passed p s n v
passed_weaker p q s n v h x = record {
  within = x.within;
  all = every-all (λ y. p y ⇒ s y) v (λ y l. true_implies (p y) (s y) (λ k. h y (implies_true (p y) (q y) (every-at (λ y. p y ⇒ q y) v x.all y l) k)));
  hit = x.hit;
}

module _ {cs : List ℕ} {vs : List ℤ} {start : List ℕ} {e : ℕ} {nodes : List ℕ} {n : ℕ} where
  pub filling_none : {index : List ℕ} {v : ℕ} → Ready cs index vs start e → n ≡ node_count cs → v ≡ next_from (has nodes) 0 n → Filling cs vs start start e nodes n v
  filling_none r en ev = record { count = en; size = r.size; right = r.right; grows = λ m h. h; passed = passed_none (has nodes) (settled start e) n ev }

  pub filling_more : {index memo new : List ℕ} {v w : ℕ} {b : Bool} → Filling cs vs start memo e nodes n v → Tables cs index → e < max_forms → v < n → b ≡ conforms (graph_at cs vs) (shape_at cs vs e) v
      → new ≡ with memo (cond b (yes_place e v) (no_place e v)) → length new ≡ length memo → w ≡ next_from (has nodes) (v + 1) n → Filling cs vs start new e nodes n w
  filling_more {index} {memo} {new} {v} {w} {b} f t le l eb en el ew =
      let lv : v < node_count cs = omega (arith, f.count) in
      let more = grows-more cs vs memo new e v b f.right lv (nodes_le cs t) eb en in
      record {
        count = f.count;
        size = el ∙ f.size;
        right = right-more cs vs memo new e v b f.right lv (nodes_le cs t) eb en;
        grows = λ m h. more m (f.grows m h);
        passed = passed_more (has nodes) (settled new e) n (passed_weaker (has nodes) (settled memo e) (settled new e) n v (λ x h. settled-grows memo new e x more h) f.passed) l (settled-more cs vs memo new e v b f.right lv (nodes_le cs t) eb en f.size le) ew;
      }

  pub filling_all : {memo : List ℕ} {v : ℕ} → Filling cs vs start memo e nodes n v → n ≤ v → Settled cs vs start memo e nodes
  filling_all {memo} {v} f l = record {
    right = f.right;
    grows = f.grows;
    all = λ x k h. implies_true (has nodes x) (settled memo e x) (every-at (λ y. has nodes y ⇒ settled memo e y) n (passed_all (has nodes) (settled memo e) n f.passed l) x (omega (arith, f.count))) h;
  }

-- ---- the nodes that are left to do
abbrev pub to_settle : List ℕ → ℕ → List ℕ → ℕ → Bool
to_settle memo e want v = (has want v && not (has memo (yes_place e v))) && not (has memo (no_place e v))

missing : (w y n : Bool) → w ≡ true → ((w && not y) && not n) ≡ false → (y || n) ≡ true
missing true true n e h = refl
missing true false true e h = refl
missing true false false e h = sym h
missing false y n e h = absurd (mathlib.Core.Bool.true≢false (sym e))

module _ {cs index : List ℕ} {vs : List ℤ} {memo : List ℕ} {e : ℕ} (r : Ready cs index vs memo e) (want : List ℕ) {nodes : List ℕ} (en : nodes ≡ words_of (to_settle memo e want) 16) where
  -- a node that is wanted and not to be done is settled
  done : (v : ℕ) → v < node_count cs → has want v ≡ true → has nodes v ≡ false → settled memo e v ≡ true
  unfolding settled
  done v l h k = missing (has want v) (has memo (yes_place e v)) (has memo (no_place e v)) h (sym (has_of (to_settle memo e want) 16 en v (omega (arith, nodes_le cs r.tables))) ∙ k)

  -- nothing is to be done
  pub settled-none : {n : ℕ} → n ≡ node_count cs → every (λ v. not (has nodes v)) n ≡ true → Settled cs vs memo memo e want
  settled-none {n} ec q = record {
    right = r.right;
    grows = λ m h. h;
    all = λ v l h. done v l h (not-true (has nodes v) (every-at (λ v. not (has nodes v)) n q v (omega (arith, ec))));
  }

  -- what is to be done was done
  pub settled-all : {mid after : List ℕ} → ((m : ℕ) → has memo m ≡ true → has mid m ≡ true) → Settled cs vs mid after e nodes → Settled cs vs memo after e want
  settled-all {mid} {after} g s = record {
    right = s.right;
    grows = λ m h. s.grows m (g m h);
    all = λ v l h. bool_cases (λ b. has nodes v ≡ b → settled after e v ≡ true) (has nodes v) (λ _ k. s.all v l k) (λ _ k. settled-grows memo after e v (λ m q. s.grows m (g m q)) (done v l h k)) refl;
  }

-- the parts are settled wherever the verdict on nodes looks
pub parts-settled : {cs : List ℕ} {vs : List ℤ} (e : ℕ) {a b : ℕ} (nodes : List ℕ) {ws one two three : List ℕ}
    → ((v w : ℕ) → v < node_count cs → w < node_count cs → has nodes v ≡ true → looks_at cs e v w ≡ true → has ws w ≡ true)
    → a ≡ first_part cs e → Settled cs vs one two a ws → b ≡ second_part cs e → Settled cs vs two three b ws → (v : ℕ) → v < node_count cs → has nodes v ≡ true → PartsKnown cs e three v
parts-settled {cs} {vs} e {a} {b} nodes {ws} {one} {two} {three} looks ea s eb t v l h p w lw k =
    let m : has ws w ≡ true = looks v w l lw h k in
    (ap (λ (a : ℕ). settled three a w) (sym ea) ∙ settled-grows two three a w t.grows (s.all w lw m), ap (λ (b : ℕ). settled three b w) (sym eb) ∙ t.all w lw m)

-- an entry's number
pub entry_lt : {cs index : List ℕ} {vs : List ℤ} {memo : List ℕ} {e : ℕ} → Ready cs index vs memo e → e < max_forms
entry_lt {cs} r = omega (arith, r.entry, (sound_of cs r.tables).forms)

-- ---- a question: at first nothing is known
pub ready-none : {cs index : List ℕ} {vs : List ℤ} {e : ℕ} → Tables cs index → e < form_count cs → Ready cs index vs (replicate memo_count 0) e
ready-none {cs} {index} {vs} t l = record { tables = t; size = length-replicate {A = ℕ} memo_count 0; right = right-none cs vs memo_count; entry = l }

-- the nodes of which it is known in the end that they conform
pub known-decided : {cs : List ℕ} {vs : List ℤ} {start memo : List ℕ} {e : ℕ} {want set : List ℕ} → Settled cs vs start memo e want → node_count cs ≤ max_nodes → set ≡ words_of (λ v. has memo (yes_place e v)) 16 → Decided cs vs e want set
known-decided {cs} {vs} {start} {memo} {e} s room es v l h = has_of (λ v. has memo (yes_place e v)) 16 es v (omega (arith, l, room)) ∙ known-right cs vs memo e v s.right (omega (arith, l, room)) (s.all v l h)

-- one node is wanted
pub one_wanted : {want : List ℕ} (v : ℕ) → want ≡ with (replicate 16 0) v → v < max_nodes → has want v ≡ true
one_wanted v e l = ap (λ (ws : List ℕ). has ws v) e ∙ with_new (replicate 16 0) v (omega (arith, length-replicate {A = ℕ} 16 0))
