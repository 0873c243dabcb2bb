-- Parts of a text by position: what stands at an index, and a test of every byte.
use Prim.Native.Nat.{ℕ, zero, suc, ◌+◌, ◌-◌, ◌<◌, ◌≤◌, zero-le, suc-le-suc}
use mathlib.Core.Path.{◌≡◌, refl, sym, ap, ◌∙◌}
use mathlib.Core.List.{List, [], ◌∷◌}
use mathlib.Core.Bool.{Bool, ◌&&◌}
use native.Mathlib.Omega.{arith}
use lib.ListN.{length, get_or, take, drop}
use lib.Seq.{slice, get_or-drop, get_or-take}
use Rattle.std.proofs.lemmas.List.{drop-take}
use Rattle.std.specs.List.{list_all}
use Rattle.base.specs.Lists.{allb}

pub slice_at : (s : List ℕ) (f t j : ℕ) → f + j < t → get_or (slice f t s) j 0 ≡ get_or s (f + j) 0
slice_at s f t j h = get_or-drop f (take t s) j 0 ∙ get_or-take t s (f + j) 0 h

-- a part as the code cuts it
pub part_cut : (s : List ℕ) (f t : ℕ) → f ≤ t → take (t - f) (drop f s) ≡ slice f t s
part_cut s f t h = let e : f + (t - f) ≡ t = omega arith in sym (drop-take f (t - f) s) ∙ ap (λ (n : ℕ). drop f (take n s)) e

-- a byte that is not 0 stands in the text
pub inside : (s : List ℕ) (i : ℕ) → (get_or s i 0 ≡ 0 → ⊥) → i < length s
inside [] i n = absurd (n refl)
inside (b ∷ s) zero n = suc-le-suc zero-le
inside (b ∷ s) (suc i) n = suc-le-suc (inside s i n)

-- the library's test of every element is the one here
pub list_all-allb : (p : ℕ → Bool) (s : List ℕ) → list_all p s ≡ allb p s
unfolding allb
list_all-allb p [] = refl
list_all-allb p (x ∷ s) = ap (λ (b : Bool). p x && b) (list_all-allb p s)

-- and of the elements of a part, as the code cuts it
pub part-all : (p : ℕ → Bool) (s : List ℕ) (f t : ℕ) → f ≤ t → list_all p (take (t - f) (drop f s)) ≡ allb p (slice f t s)
part-all p s f t h = list_all-allb p (take (t - f) (drop f s)) ∙ ap (allb p) (part_cut s f t h)
