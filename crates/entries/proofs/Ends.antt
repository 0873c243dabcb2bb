-- The ends from one node and from a set, in words; and ends as the code has them.
use Prim.Native.Nat.{ℕ, ◌≤◌, ◌<◌}
use mathlib.Core.List.{List}
use mathlib.Core.Bool.{Bool, true, false, cond, ◌&&◌, ◌||◌, and-true}
use mathlib.Core.Path.{◌≡◌, refl, ap, ◌∙◌}
use native.Mathlib.Omega.{arith}
use lib.Dec.{eqb, ltb, leb}
use lib.ListN.{replicate, length-replicate}
use borrow.Author.Tests.{eqb-false, lt-ltb}
use Rattle.base.proofs.Bools.{bool_cases}
use Rattle.base.proofs.Bounded.{some_ext, some_eq}
use Rattle.nodeset.specs.Words.{has, words_of, with}
use Rattle.nodeset.proofs.Sets.{words_of_ext, has_of, has_zeros, single}
use Rattle.model.specs.Paths.{self, along}
use Rattle.model.specs.Limits.{max_nodes}
use Rattle.model.specs.Shapes.{within, at_most, unbounded}
use Rattle.tables.specs.Layout.{no_number, path_count}
use Rattle.tables.specs.WellFormed as tables
use Rattle.tables.specs.Decode.{path_at, end_at, upper_of}
use Rattle.paths.specs.Images.{image, with_image, converse_if}
use Rattle.paths.specs.Ends.{end_in, end_known}
use Rattle.paths.specs.declared.End.TheVariants.{Itself, Path}
use Rattle.entries.specs.Tables.{end_for}
use Rattle.entries.proofs.Codes.{end_below}

-- into an empty set
pub image_zeros : (n : ℕ) (r : ℕ → ℕ → Bool) (from : List ℕ) → with_image n (converse_if false r) from (replicate 16 0) ≡ words_of (image n r (has from)) 16
unfolding with_image image
image_zeros n r from = ap (words_of (λ w. has (replicate 16 0) w || image n r (has from) w)) (length-replicate {A = ℕ} 16 0) ∙ words_of_ext (λ w. has (replicate 16 0) w || image n r (has from) w) (image n r (has from)) 16 (λ w l. ap (λ (b : Bool). b || image n r (has from) w) (has_zeros 16 w))

pub image_single : (n : ℕ) (r : ℕ → ℕ → Bool) (from : List ℕ) (v : ℕ) → n ≤ max_nodes → v < n → from ≡ with (replicate 16 0) v → words_of (image n r (has from)) 16 ≡ words_of (r v) 16
unfolding image
image_single n r from v room l e = words_of_ext (image n r (has from)) (r v) 16 λ w _.
    some_ext (λ u. has from u && r u w) (λ u. eqb v u && r u w) n (λ u lu. ap (λ (b : Bool). b && r u w) (has_of (λ m. eqb v m) 16 (e ∙ single v 16) u (omega arith)))
    ∙ some_eq (λ u. r u w) v n l

-- the operand END, whatever the tables
pub end_in_lem : (cs : List ℕ) (p : ℕ) → end_in cs (end_for p) ≡ end_at cs p
unfolding end_in end_at end_for
end_in_lem cs p = bool_cases (λ b. eqb p no_number ≡ b → end_in cs (cond b Itself (Path p)) ≡ cond b self (along (path_at cs p))) (eqb p no_number) (λ _ _. refl) (λ _ _. refl) refl

pub end-ok : (cs : List ℕ) (p : ℕ) → tables.end_number_ok cs p ≡ true → end_known cs (end_for p) ≡ true
unfolding end_known end_for
end-ok cs p h = bool_cases (λ b. eqb p no_number ≡ b → end_known cs (cond b Itself (Path p)) ≡ true) (eqb p no_number) (λ _ _. refl) (λ _ q. end_below cs p (eqb-false p no_number q) h) refl

-- a path entry of the tables, as its number was read
pub path-ok : (cs : List ℕ) {p i : ℕ} → p ≡ i → i < path_count cs → end_known cs (Path p) ≡ true
unfolding end_known
path-ok cs {p} {i} e l = ap (λ (k : ℕ). ltb k (path_count cs)) e ∙ lt-ltb i (path_count cs) l

-- LO and HI
pub between_law : (lo hi k : ℕ) → (leb lo k && (eqb hi no_number || leb k hi)) ≡ within lo (upper_of hi) k
unfolding within upper_of
between_law lo hi k = bool_cases (λ b. (leb lo k && (b || leb k hi)) ≡ within lo (cond b unbounded (at_most hi)) k) (eqb hi no_number) (λ _. and-true (leb lo k)) (λ _. refl)
