-- An RDF graph, as source 000 has it: terms with their attributes, and triples.
-- Document 01's words: a term is a node, a predicate a link, a triple a fact.
use Rattle.std.specs.Prelude.{ℕ, List, Bool, false, ◌&&◌, ◌≡◌, eqb, ℤ}
use Rattle.std.proofs.Math.Option.{Option}
use Rattle.base.specs.Lists.{anyb}

pub data Term : Type 0 where
  -- 01: thing, blank
  iri blank_node : Term
  -- 01: number; a literal with its datatype and its value
  numeric : ℕ → ℤ → Term
  -- 01: text; a literal of a datatype, without a number
  plain : ℕ → Term
  -- 01: words; a literal with a language tag
  tagged : ℕ → Term

pub record Triple : Type 0 where
  pub subject : ℕ
  pub predicate : ℕ
  pub object : ℕ

-- how many nodes there are, the term of each by its number, and the triples; a repeated triple says nothing new
-- (`conforms-set`, `violations-set`: proofs/Sets)
pub record Graph : Type 0 where
  pub nodes : ℕ
  pub term : ℕ → Term
  pub triples : List Triple

-- 01: link 0, `a`
abbrev pub rdf_type : ℕ
rdf_type = 0

-- 01: type 0, `langstring`
abbrev pub lang_string : ℕ
lang_string = 0

-- the attributes of a term: its value, its datatype, its language tag
unfoldable pub value_of : Term → Option ℤ
value_of iri = Option.none
value_of blank_node = Option.none
value_of (numeric t x) = Option.some x
value_of (plain t) = Option.none
value_of (tagged l) = Option.none

unfoldable pub datatype_of : Term → Option ℕ
datatype_of iri = Option.none
datatype_of blank_node = Option.none
datatype_of (numeric t x) = Option.some t
datatype_of (plain t) = Option.some t
datatype_of (tagged l) = Option.some lang_string

unfoldable pub language_of : Term → Option ℕ
language_of iri = Option.none
language_of blank_node = Option.none
language_of (numeric t x) = Option.none
language_of (plain t) = Option.none
language_of (tagged l) = Option.some l

-- there is such an attribute, and p holds of it
unfoldable pub holds : {A : Type 0} → (A → Bool) → Option A → Bool
holds p Option.none = false
holds p (Option.some x) = p x

-- two attributes are there, and r holds of them
abbrev pub holds₂ : {A : Type 0} → (A → A → Bool) → Option A → Option A → Bool
holds₂ r a b = holds (λ x. holds (r x) b) a

unfoldable pub has_triple : List Triple → ℕ → ℕ → ℕ → Bool
has_triple ts s p o = anyb (λ t. eqb t.subject s && (eqb t.predicate p && eqb t.object o)) ts

-- The same triples as sets: each triple stands in both or in neither, wherever and however often.
-- 01: facts are a set; a repeated line counts once
abbrev pub SameTriples : List Triple → List Triple → Type 0
SameTriples ts us = (s p o : ℕ) → has_triple ts s p o ≡ has_triple us s p o

-- The same graph, but for the order of the triples and how often each stands there.
-- 01: the same nodes, and the same facts as a set
pub record SameGraph (g h : Graph) : Type 0 where
  pub same_nodes : g.nodes ≡ h.nodes
  pub same_terms : (v : ℕ) → g.term v ≡ h.term v
  pub same_triples : SameTriples g.triples h.triples
