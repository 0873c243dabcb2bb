-- Shapes, and when a node conforms to one: Table 1 of source 000, a line for each row.
-- Document 01's words: a shape expression is a FORM, and a node that conforms meets it.
use Rattle.std.specs.Prelude.{ℕ, List, Bool, true, false, not, ◌&&◌, ◌||◌, eqb, leb, get_or, ℤ}
use Rattle.std.specs.Int.Signed.{lt_z, le_z}
use Rattle.base.specs.Bounded.{◌⇒◌, every, size}
use Rattle.base.specs.Lists.{member, allb}
use Rattle.model.specs.Graph.{Term, iri, blank_node, numeric, plain, tagged, Graph, value_of, datatype_of, language_of, holds, holds₂, Triple}
use Rattle.model.specs.Paths.{Path, predicate, End, ends, ends_of}

-- 01: kind thing, blank, literal
pub data Kind : Type 0 where
  an_iri a_blank a_literal : Kind

-- the tests of single terms; 01: kind, datatype, lang, from, above, to, below
pub data Test : Type 0 where
  node_kind : Kind → Test
  datatype : ℕ → Test
  language_in : List ℕ → Test
  min_inclusive min_exclusive max_inclusive max_exclusive : ℤ → Test

-- the upper end of a count; 01: HI or `*`
pub data Upper : Type 0 where
  at_most : ℕ → Upper
  unbounded : Upper

-- 01: true, shape, is, and, or, not, the tests, count, all, equal, apart, closed, less, lesseq, onelang
pub data Shape : Type 0 where
  top : Shape
  has_shape has_value : ℕ → Shape
  conj disj : Shape → Shape → Shape
  neg : Shape → Shape
  test : Test → Shape
  count : ℕ → Upper → Path → Shape → Shape
  for_all : Path → Shape → Shape
  equals disjoint : End → ℕ → Shape
  closed : List ℕ → Shape
  less_than less_than_eq : Path → ℕ → Shape
  unique_lang : Path → Shape

unfoldable pub is_kind : Kind → Term → Bool
is_kind an_iri iri = true
is_kind an_iri blank_node = false
is_kind an_iri (numeric t x) = false
is_kind an_iri (plain t) = false
is_kind an_iri (tagged l) = false
is_kind a_blank iri = false
is_kind a_blank blank_node = true
is_kind a_blank (numeric t x) = false
is_kind a_blank (plain t) = false
is_kind a_blank (tagged l) = false
is_kind a_literal iri = false
is_kind a_literal blank_node = false
is_kind a_literal (numeric t x) = true
is_kind a_literal (plain t) = true
is_kind a_literal (tagged l) = true

-- a term satisfies a test
unfoldable pub satisfies : Test → Term → Bool
satisfies (node_kind k) a = is_kind k a
satisfies (datatype t) a = holds (eqb t) (datatype_of a)
satisfies (language_in ls) a = holds (λ l. member l ls) (language_of a)
satisfies (min_inclusive x) a = holds (λ y. le_z x y) (value_of a)
satisfies (min_exclusive x) a = holds (λ y. lt_z x y) (value_of a)
satisfies (max_inclusive x) a = holds (λ y. le_z y x) (value_of a)
satisfies (max_exclusive x) a = holds (λ y. lt_z y x) (value_of a)

unfoldable pub within : ℕ → Upper → ℕ → Bool
within lo (at_most hi) k = leb lo k && leb k hi
within lo unbounded k = leb lo k

-- sets of numbers below n: one in the other; no common member; every pair of members in r
unfoldable pub subset : ℕ → (ℕ → Bool) → (ℕ → Bool) → Bool
subset n a b = every (λ x. a x ⇒ b x) n

unfoldable pub none_shared : ℕ → (ℕ → Bool) → (ℕ → Bool) → Bool
none_shared n a b = every (λ x. not (a x && b x)) n

unfoldable pub all_pairs : ℕ → (ℕ → Bool) → (ℕ → Bool) → (ℕ → ℕ → Bool) → Bool
all_pairs n a b r = every (λ x. a x ⇒ every (λ y. b y ⇒ r x y) n) n

-- both terms have a value, the first < (≤) the second; both have a language tag, the same
unfoldable pub less : Term → Term → Bool
less a b = holds₂ lt_z (value_of a) (value_of b)

unfoldable pub less_eq : Term → Term → Bool
less_eq a b = holds₂ le_z (value_of a) (value_of b)

unfoldable pub same_lang : Term → Term → Bool
same_lang a b = holds₂ eqb (language_of a) (language_of b)

-- ---- what rows of Table 1 ask of sets of nodes below n, given the nodes' terms: the same members; each first value < (≤) each
-- second; no two different members with the same language tag. And of triples: each one out of v has a listed predicate
abbrev pub same_members : ℕ → (ℕ → Bool) → (ℕ → Bool) → Bool
same_members n a b = subset n a b && subset n b a

abbrev pub all_less : (ℕ → Term) → ℕ → (ℕ → Bool) → (ℕ → Bool) → Bool
all_less term n a b = all_pairs n a b (λ x y. less (term x) (term y))

abbrev pub all_less_eq : (ℕ → Term) → ℕ → (ℕ → Bool) → (ℕ → Bool) → Bool
all_less_eq term n a b = all_pairs n a b (λ x y. less_eq (term x) (term y))

abbrev pub unlike_langs : (ℕ → Term) → ℕ → (ℕ → Bool) → Bool
unlike_langs term n a = all_pairs n a a (λ x y. not (eqb x y) ⇒ not (same_lang (term x) (term y)))

abbrev pub only_listed : List Triple → (ℕ → Bool) → ℕ → Bool
only_listed ts listed v = allb (λ t. eqb t.subject v ⇒ listed t.predicate) ts

module _ (g : Graph) where
  -- the ends of a path from v; the objects of v's triples by p; what a condition END starts from
  abbrev pub from : Path → ℕ → ℕ → Bool
  from e v w = ends g.nodes g.triples e v w

  abbrev pub objects : ℕ → ℕ → ℕ → Bool
  objects p v w = ends g.nodes g.triples (predicate p) v w

  abbrev pub starts : End → ℕ → ℕ → Bool
  starts f v w = ends_of g.nodes g.triples f v w

  -- G, v ⊨ φ. A shape name, 01's `(shape S)`, has no definition here, which source 000 reads as ⊤: `expand`, below, puts the
  -- definition in its place. The schema of a book has no shape name left, so that the line of `has_shape` is never used for one
  -- (`schema-nameless` and `names_unused`, proofs/Expansion), and `(shape S)` is met exactly when S is (`conforms-named`, there).
  unfoldable pub conforms : Shape → ℕ → Bool
  conforms top v = true
  conforms (has_shape s) v = true
  conforms (has_value c) v = eqb v c
  conforms (conj φ ψ) v = conforms φ v && conforms ψ v
  conforms (disj φ ψ) v = conforms φ v || conforms ψ v
  conforms (neg φ) v = not (conforms φ v)
  conforms (test t) v = satisfies t (g.term v)
  conforms (count lo hi e ψ) v = within lo hi (size (λ b. from e v b && conforms ψ b) g.nodes)
  conforms (for_all e ψ) v = every (λ b. from e v b ⇒ conforms ψ b) g.nodes
  conforms (equals f p) v = same_members g.nodes (starts f v) (objects p v)
  conforms (disjoint f p) v = none_shared g.nodes (starts f v) (objects p v)
  conforms (closed ps) v = only_listed g.triples (λ p. member p ps) v
  conforms (less_than e p) v = all_less g.term g.nodes (from e v) (objects p v)
  conforms (less_than_eq e p) v = all_less_eq g.term g.nodes (from e v) (objects p v)
  conforms (unique_lang e) v = unlike_langs g.term g.nodes (from e v)

-- def(s, H): the shape that a schema H defines under the number s; ⊤ where it defines none
abbrev pub def : List Shape → ℕ → Shape
def H s = get_or H s top

-- the expansion of source 000: each shape name replaced by its definition
unfoldable pub expand : List Shape → Shape → Shape
expand H top = top
expand H (has_shape s) = def H s
expand H (has_value c) = has_value c
expand H (conj φ ψ) = conj (expand H φ) (expand H ψ)
expand H (disj φ ψ) = disj (expand H φ) (expand H ψ)
expand H (neg φ) = neg (expand H φ)
expand H (test t) = test t
expand H (count lo hi e ψ) = count lo hi e (expand H ψ)
expand H (for_all e ψ) = for_all e (expand H ψ)
expand H (equals f p) = equals f p
expand H (disjoint f p) = disjoint f p
expand H (closed ps) = closed ps
expand H (less_than e p) = less_than e p
expand H (less_than_eq e p) = less_than_eq e p
expand H (unique_lang e) = unique_lang e

-- no shape name stands in the shape; 01: no `(shape S)` in the form
unfoldable pub nameless : Shape → Bool
nameless top = true
nameless (has_shape s) = false
nameless (has_value c) = true
nameless (conj φ ψ) = nameless φ && nameless ψ
nameless (disj φ ψ) = nameless φ && nameless ψ
nameless (neg φ) = nameless φ
nameless (test t) = true
nameless (count lo hi e ψ) = nameless ψ
nameless (for_all e ψ) = nameless ψ
nameless (equals f p) = true
nameless (disjoint f p) = true
nameless (closed ps) = true
nameless (less_than e p) = true
nameless (less_than_eq e p) = true
nameless (unique_lang e) = true
