-- What it is to break a condition of Table 1, in the words of document 01. Each is said by itself, and not as the
-- contrary of the condition; that it is the contrary is proved (proofs/Complements).
use Rattle.std.specs.Prelude.{ℕ, List, Bool, true, not, ◌&&◌, ◌||◌, eqb}
use Rattle.std.proofs.Math.Option.{Option}
use Rattle.std.specs.Int.Signed.{lt_z, le_z}
use Rattle.base.specs.Bounded.{some}
use Rattle.base.specs.Lists.{member, anyb}
use Rattle.model.specs.Graph.{Term, Triple, value_of, datatype_of, language_of}
use Rattle.model.specs.Shapes.{Kind, an_iri, a_blank, a_literal, is_kind, Test, node_kind, datatype, language_in, min_inclusive, min_exclusive, max_inclusive, max_exclusive, same_lang}

-- ---- of single terms. There is no such attribute, or p holds of it
unfoldable pub lacks : {A : Type 0} → (A → Bool) → Option A → Bool
lacks p Option.none = true
lacks p (Option.some x) = p x

-- the term is of one of the other kinds
unfoldable pub other_kind : Kind → Term → Bool
other_kind an_iri a = is_kind a_blank a || is_kind a_literal a
other_kind a_blank a = is_kind an_iri a || is_kind a_literal a
other_kind a_literal a = is_kind an_iri a || is_kind a_blank a

-- the term fails a test
unfoldable pub fails_test : Test → Term → Bool
fails_test (node_kind k) a = other_kind k a
fails_test (datatype t) a = lacks (λ d. not (eqb t d)) (datatype_of a)
fails_test (language_in ls) a = lacks (λ l. not (member l ls)) (language_of a)
fails_test (min_inclusive x) a = lacks (λ y. lt_z y x) (value_of a)
fails_test (min_exclusive x) a = lacks (λ y. le_z y x) (value_of a)
fails_test (max_inclusive x) a = lacks (λ y. lt_z x y) (value_of a)
fails_test (max_exclusive x) a = lacks (λ y. le_z x y) (value_of a)

-- a pair fails `less` (`lesseq`): one of the two has no value, or the second's is ≤ (<) the first's
unfoldable pub not_less : Term → Term → Bool
not_less a b = lacks (λ x. lacks (λ y. le_z y x) (value_of b)) (value_of a)

unfoldable pub not_less_eq : Term → Term → Bool
not_less_eq a b = lacks (λ x. lacks (λ y. lt_z y x) (value_of b)) (value_of a)

-- ---- of sets of numbers below n: a number in exactly one, and that some is; some in both; some pair of members in r
abbrev pub in_one : (ℕ → Bool) → (ℕ → Bool) → ℕ → Bool
in_one a b x = (a x && not (b x)) || (b x && not (a x))

unfoldable pub some_in_one : ℕ → (ℕ → Bool) → (ℕ → Bool) → Bool
some_in_one n a b = some (in_one a b) n

unfoldable pub some_shared : ℕ → (ℕ → Bool) → (ℕ → Bool) → Bool
some_shared n a b = some (λ x. a x && b x) n

unfoldable pub some_pair : ℕ → (ℕ → Bool) → (ℕ → Bool) → (ℕ → ℕ → Bool) → Bool
some_pair n a b r = some (λ x. a x && some (λ y. b y && r x y) n) n

-- two different ends, one language
unfoldable pub clash : (ℕ → Term) → ℕ → ℕ → Bool
clash term x y = not (eqb x y) && same_lang (term x) (term y)

-- ---- of triples: some triple out of v has an unlisted predicate
unfoldable pub some_unlisted : List Triple → (ℕ → Bool) → ℕ → Bool
some_unlisted ts listed v = anyb (λ t. eqb t.subject v && not (listed t.predicate)) ts
