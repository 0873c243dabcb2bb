-- Which nodes a rule on a class selects (document 02, Job 5), in words of logic; and which link says that a class is under another.
use Prim.Native.Nat.{ℕ, suc, ◌<◌}
use mathlib.Core.Bool.{Bool, true, false, ◌&&◌}
use mathlib.Core.List.{List, []}
use mathlib.Core.Logic.{◌⊎◌, inl, inr, ⊎_elim, ◌↔◌}
use mathlib.Core.Option.{Option}
use mathlib.Core.Path.{◌≡◌, refl, sym, ap, subst, ◌∙◌}
use lib.Dec.{eqb}
use lib.ListN.{length, get_or}
use borrow.Author.Tests.{eqb-true}
use Rattle.base.specs.Bounded.{some}
use Rattle.base.specs.Bytes.{eql}
use Rattle.base.specs.Lists.{anyb}
use Rattle.base.proofs.Bools.{and_left, and_right, and_both, or_cases, never_both, never_true}
use Rattle.base.proofs.Bounded.{some_at, some_witness}
use Rattle.base.proofs.Bytes.{eql_true, eql-refl}
use Rattle.base.proofs.Least.{least_of_iff, least_of_none}
use Rattle.model.specs.Graph.{Graph, rdf_type, has_triple}
use Rattle.model.specs.Repeats.{times, star, plus}
use Rattle.model.specs.Paths.{ends}
use Rattle.model.specs.Rules.{target_class, class_path, selects}
use Rattle.model.specs.Books.{Name, Book, links, names, number_in, under, sub_class_of}
use Rattle.model.proofs.Repeats.{star_self, star-plus, plus-star, plus_iff}

-- as document 01 has it: a fact by `a` straight to the class
abbrev pub straight : Graph → (c v : ℕ) → Bool
straight g c v = anyb (λ t. eqb t.subject v && (eqb t.predicate rdf_type && eqb t.object c)) g.triples

module _ (g : Graph) (c v : ℕ) where
  -- without the link this is all
  pub class_straight : selects Option.none g (target_class c) v ≡ straight g c v
  unfolding selects class_path ends has_triple
  class_straight = refl

  module _ (sub : ℕ) where
    -- a fact by the link leads from d to e
    abbrev by : ℕ → ℕ → Bool
    by d e = has_triple g.triples d sub e

    -- `a` leads from v to d
    abbrev is_a : ℕ → Bool
    is_a d = has_triple g.triples v rdf_type d

    -- with it: a fact by `a` to the class, or to one from which some number of facts by the link, from one on, lead to it
    pub class_iff : c < g.nodes → (selects (Option.some sub) g (target_class c) v ≡ true) ↔ ((is_a c ≡ true) ⊎ ((d k : ℕ) × (d < g.nodes) × (is_a d ≡ true) × (times by g.nodes (suc k) d c ≡ true)))
    unfolding selects class_path ends
    class_iff l = (there, λ h. ⊎_elim (λ e. back c l e (star_self by n c)) (λ h. back h.0 h.2 h.3 (plus-star by n h.0 c h.2 ((plus_iff by n h.0 c).1 (h.1, h.4)))) h)
      where
        n : ℕ
        n = g.nodes

        back : (d : ℕ) → d < n → is_a d ≡ true → star by n d c ≡ true → some (λ u. is_a u && star by n u c) n ≡ true
        back d ld e f = some_at (λ u. is_a u && star by n u c) n d ld (and_both (is_a d) (star by n d c) e f)

        there : some (λ u. is_a u && star by n u c) n ≡ true → (is_a c ≡ true) ⊎ ((d k : ℕ) × (d < n) × (is_a d ≡ true) × (times by n (suc k) d c ≡ true))
        there e =
            let (d, ld, q) = some_witness (λ u. is_a u && star by n u c) n e in
            let a : is_a d ≡ true = and_left (is_a d) (star by n d c) q in
            ⊎_elim (λ p. let (k, t) = (plus_iff by n d c).0 p in inr (d, k, ld, a, t)) (λ p. inl (subst (λ (x : ℕ). is_a x ≡ true) (eqb-true d c p) a)) (or_cases (plus by n d c) (eqb d c) (sym (star-plus by n d c ld) ∙ and_right (is_a d) (star by n d c) q))

-- ---- the number of a name: the lowest place at which it stands, or none where it stands nowhere
module _ (ws : List Name) (w : Name) where
  other : (k : ℕ) → eql w (get_or ws k []) ≡ false → get_or ws k [] ≡ w → ⊥
  other k e q = never_both (ap (eql w) q ∙ eql-refl w) e

  not-eql : (k : ℕ) → (get_or ws k [] ≡ w → ⊥) → eql w (get_or ws k []) ≡ false
  not-eql k ne = never_true (eql w (get_or ws k [])) (λ e. ne (sym (eql_true w (get_or ws k []) e)))

  pub number_in_iff : (k : ℕ) → (number_in ws w ≡ Option.some k) ↔ ((k < length ws) × (get_or ws k [] ≡ w) × ((j : ℕ) → j < k → get_or ws j [] ≡ w → ⊥))
  unfolding number_in
  number_in_iff k = (
    λ e. let h = (least_of_iff (λ k. eql w (get_or ws k [])) (length ws) k).0 e in (h.0, sym (eql_true w (get_or ws k []) h.1), λ j l. other j (h.2 j l)),
    λ h. (least_of_iff (λ k. eql w (get_or ws k [])) (length ws) k).1 (h.0, ap (eql w) h.1 ∙ eql-refl w, λ j l. not-eql j (h.2 j l)),
  )

  pub number_in_none : (number_in ws w ≡ Option.none) ↔ ((j : ℕ) → j < length ws → get_or ws j [] ≡ w → ⊥)
  unfolding number_in
  number_in_none = (λ e j l. other j ((least_of_none (λ k. eql w (get_or ws k [])) (length ws)).0 e j l), λ h. (least_of_none (λ k. eql w (get_or ws k [])) (length ws)).1 (λ j l. not-eql j (h j l)))

-- the link: the lowest of its name
pub sub_class_iff : (b : Book) (k : ℕ) → (sub_class_of b ≡ Option.some k) ↔ ((k < length (names links b)) × (get_or (names links b) k [] ≡ under) × ((j : ℕ) → j < k → get_or (names links b) j [] ≡ under → ⊥))
unfolding sub_class_of
sub_class_iff b k = number_in_iff (names links b) under k

-- a book in which no link has the name selects as before
pub without_under : (b : Book) → ((j : ℕ) → j < length (names links b) → get_or (names links b) j [] ≡ under → ⊥) → (g : Graph) (c v : ℕ) → selects (sub_class_of b) g (target_class c) v ≡ straight g c v
unfolding sub_class_of
without_under b none g c v = ap (λ (sub : Option ℕ). selects sub g (target_class c) v) ((number_in_none (names links b) under).1 none) ∙ class_straight g c v
