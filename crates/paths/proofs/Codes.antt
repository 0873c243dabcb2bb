-- What `spread` does at a path entry of each code, in the terms of the code.
use Prim.Native.Nat.{ℕ, ◌*◌, ◌≤◌, ◌<◌}
use mathlib.Core.Bool.{Bool, true, false, not, cond}
use mathlib.Core.List.{List}
use mathlib.Core.Path.{◌≡◌, refl, sym, ap, ap₂, ◌∙◌}
use native.Mathlib.Omega.{arith}
use lib.ListN.{length, replicate}
use Rattle.nodeset.specs.Words.{has}
use Rattle.model.specs.Graph.{Triple}
use Rattle.model.specs.Paths.{Path}
use Rattle.model.specs.Limits.{max_nodes}
use Rattle.tables.specs.Codes as codes
use Rattle.tables.specs.Layout.{path_count, path_code_at, path_first_at, path_second_at}
use Rattle.tables.specs.Decode.{path_at}
use Rattle.tables.specs.WellFormed.{well_formed}
use Rattle.paths.specs.Facts.{triples_of, edges}
use Rattle.paths.specs.Images.{set_count, set_words, start_of, carried_on, MidOk, with_images, with_ends}
use Rattle.paths.specs.declared.Sets.{Sets}
use Rattle.paths.specs.declared.Sets.TheVariants.{One, Rows, Own}
use Rattle.paths.proofs.Paths.{ends-predicate, ends_inverse, ends_alternative, ends_sequence}
use Rattle.paths.proofs.Entries.{path_link_lem, path_inv_lem, path_seq_lem, path_alt_lem}

pub pos : (sets : Sets) → 0 < set_count sets
pos One = omega arith
pos Rows = omega arith
pos Own = omega arith

-- words for rows are words for sets side by side
pub mid_room : (sets : Sets) (n k : ℕ) → n ≤ max_nodes → max_nodes ≤ k → set_words sets n ≤ k → n * set_count sets ≤ 64 * k
mid_room One n k l m h = omega arith
mid_room Rows n k l m h = omega arith
mid_room Own n k l m h = omega arith

-- what a second part starts from is what the first has filled
carried_count : (sets : Sets) → set_count (carried_on sets) ≡ set_count sets
carried_count One = refl
carried_count Rows = refl
carried_count Own = refl

carried_start : (sets : Sets) (mid : List ℕ) → start_of (carried_on sets) mid ≡ has mid
carried_start One mid = refl
carried_start Rows mid = refl
carried_start Own mid = refl

module _ (cs : List ℕ) (ok : well_formed cs ≡ true) (e : ℕ) (l : e < path_count cs) (sets : Sets) (n : ℕ) (back : Bool) (from : ℕ → Bool) (into : List ℕ) where
  pub spread_link : (ss ps os : List ℕ) (count : ℕ) → path_code_at cs e ≡ codes.path_link → with_images (set_count sets) n (edges ss ps os (path_first_at cs e) back count) from into ≡ with_ends (set_count sets) n (triples_of ss ps os count) (path_at cs e) back from into
  spread_link ss ps os count q = ends-predicate (set_count sets) n back from into ss ps os (path_first_at cs e) count ∙ ap (λ (p : Path). with_ends (set_count sets) n (triples_of ss ps os count) p back from into) (sym (path_link_lem cs ok e l q))

  module _ (ts : List Triple) where
    pub spread_inv : path_code_at cs e ≡ codes.path_inv → with_ends (set_count sets) n ts (path_at cs (path_first_at cs e)) (not back) from into ≡ with_ends (set_count sets) n ts (path_at cs e) back from into
    spread_inv q = ends_inverse (set_count sets) n back from into ts (path_at cs (path_first_at cs e)) ∙ ap (λ (p : Path). with_ends (set_count sets) n ts p back from into) (sym (path_inv_lem cs ok e l q))

    pub spread_alt : path_code_at cs e ≡ codes.path_alt → with_ends (set_count sets) n ts (path_at cs (path_second_at cs e)) back from (with_ends (set_count sets) n ts (path_at cs (path_first_at cs e)) back from into) ≡ with_ends (set_count sets) n ts (path_at cs e) back from into
    spread_alt q = ends_alternative (set_count sets) n back from into ts (path_at cs (path_first_at cs e)) (path_at cs (path_second_at cs e)) ∙ ap (λ (p : Path). with_ends (set_count sets) n ts p back from into) (sym (path_alt_lem cs ok e l q))

    -- x is gone first, then y
    pub spread_seq : path_code_at cs e ≡ codes.path_seq → (x y : ℕ) → x ≡ cond back (path_second_at cs e) (path_first_at cs e) → y ≡ cond back (path_first_at cs e) (path_second_at cs e)
        → {mid now : List ℕ} → MidOk sets n mid → now ≡ with_ends (set_count sets) n ts (path_at cs x) back from mid → {next : Sets} → next ≡ carried_on sets
        → with_ends (set_count next) n ts (path_at cs y) back (start_of next now) into ≡ with_ends (set_count sets) n ts (path_at cs e) back from into
    spread_seq q x y ex ey {mid} {now} room filled {next} carry =
        ap (λ (x : Sets). with_ends (set_count x) n ts (path_at cs y) back (start_of x now) into) carry
        ∙ ap₂ (λ (w : ℕ) (s : ℕ → Bool). with_ends w n ts (path_at cs y) back s into) (carried_count sets) (carried_start sets now ∙ ap has (filled ∙ ap (with_ends (set_count sets) n ts (path_at cs x) back from) room.0))
        ∙ ap₂ (λ (c d : Path). with_ends (set_count sets) n ts c back (has (with_ends (set_count sets) n ts d back from (replicate (length mid) 0))) into)
        (ap (path_at cs) ey ∙ split back (path_first_at cs e) (path_second_at cs e)) (ap (path_at cs) ex ∙ split back (path_second_at cs e) (path_first_at cs e))
        ∙ ends_sequence (set_count sets) n back from into ts (path_at cs (path_first_at cs e)) (path_at cs (path_second_at cs e)) (length mid) (pos sets) room.2
        ∙ ap (λ (p : Path). with_ends (set_count sets) n ts p back from into) (sym (path_seq_lem cs ok e l q))
      where
        split : (b : Bool) (x y : ℕ) → path_at cs (cond b x y) ≡ cond b (path_at cs x) (path_at cs y)
        split true x y = refl
        split false x y = refl
