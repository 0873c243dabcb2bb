-- What the tables say: graph, paths, shapes, rules. Tables that are not well formed still mean something: what an entry
-- takes from one that is not before it is the default.
use Rattle.std.specs.Prelude.{ℕ, List, [], ◌∷◌, cond, eqb, ltb, get_or, ℤ}
use Rattle.base.specs.Lists.{values, values_from}
use Rattle.base.specs.Numbered.{numbered}
use Rattle.model.specs.Graph.{Term, iri, blank_node, numeric, plain, tagged, Triple, Graph}
use Rattle.model.specs.Paths.{Path, predicate, inverse, sequence, alternative, zero_or_more, one_or_more, End, self, along}
use Rattle.model.specs.Shapes.{Kind, an_iri, a_blank, a_literal, node_kind, datatype, language_in, min_inclusive, min_exclusive, max_inclusive, max_exclusive, Upper, at_most, unbounded, Shape, has_value, conj, disj, neg, test, count, for_all, equals, disjoint, closed, less_than, less_than_eq, unique_lang}
use Rattle.model.specs.Rules.{Target, target_node, subjects_of, objects_of, target_class, Rule}
use Rattle.tables.specs.Layout.{no_number, node_count, fact_count, shape_count, rule_count, kind_at, type_at, lang_at, subject_at, predicate_at, object_at, path_code_at, path_first_at, path_second_at, form_code_at, form_first_at, form_second_at, form_third_at, form_fourth_at, item_at, root_at, rule_shape_at, rule_target_at, rule_operand_at, number_at, limit_at}
use Rattle.tables.specs.Entries.{PathEntry, link, inv, seq, alt, star, plus, path_entry_of, Entry, entry_of}

-- ---- the graph: kinds by code are thing, blank, number, text, words
unfoldable pub term_of : ℕ → ℕ → ℕ → ℤ → Term
term_of kind t l x = get_or (iri ∷ blank_node ∷ numeric t x ∷ plain t ∷ tagged l ∷ []) kind iri

unfoldable pub term_at : List ℕ → List ℤ → ℕ → Term
term_at cs vs v = cond (ltb v (node_count cs)) (term_of (kind_at cs v) (type_at cs v) (lang_at cs v) (number_at vs v)) iri

unfoldable pub triple_at : List ℕ → ℕ → Triple
triple_at cs i = record { subject = subject_at cs i; predicate = predicate_at cs i; object = object_at cs i }

unfoldable pub triples_at : List ℕ → List Triple
triples_at cs = values (triple_at cs) (fact_count cs)

unfoldable pub graph_at : List ℕ → List ℤ → Graph
graph_at cs vs = record { nodes = node_count cs; term = term_at cs vs; triples = triples_at cs }

-- ---- paths: an entry by its parts, which are given by number
unfoldable pub path_of : PathEntry → (ℕ → Path) → Path
path_of (link p) at = predicate p
path_of (inv a) at = inverse (at a)
path_of (seq a b) at = sequence (at a) (at b)
path_of (alt a b) at = alternative (at a) (at b)
path_of (star a) at = zero_or_more (at a)
path_of (plus a) at = one_or_more (at a)
path_of PathEntry.bad at = predicate 0

unfoldable pub path_entry_at : List ℕ → ℕ → PathEntry
path_entry_at cs e = path_entry_of (path_code_at cs e) (path_first_at cs e) (path_second_at cs e)

unfoldable pub path_at : List ℕ → ℕ → Path
path_at cs = numbered (predicate 0) (λ e at. path_of (path_entry_at cs e) at)

unfoldable pub end_at : List ℕ → ℕ → End
end_at cs e = cond (eqb e no_number) self (along (path_at cs e))

-- ---- shapes: an entry by its parts; `shape S` stands for what shape S begins with
unfoldable pub kind_of : ℕ → Kind
kind_of k = get_or (an_iri ∷ a_blank ∷ []) k a_literal

unfoldable pub upper_of : ℕ → Upper
upper_of hi = cond (eqb hi no_number) unbounded (at_most hi)

-- n items from number i on
unfoldable pub items_at : List ℕ → ℕ → ℕ → List ℕ
items_at cs i n = values_from (item_at cs) i n

unfoldable pub shape_of : List ℕ → Entry → (ℕ → Shape) → Shape
shape_of cs Entry.top at = Shape.top
shape_of cs (Entry.is c) at = has_value c
shape_of cs (Entry.shape s) at = at (root_at cs s)
shape_of cs (Entry.conj a b) at = conj (at a) (at b)
shape_of cs (Entry.disj a b) at = disj (at a) (at b)
shape_of cs (Entry.neg a) at = neg (at a)
shape_of cs (Entry.kind k) at = test (node_kind (kind_of k))
shape_of cs (Entry.datatype t) at = test (datatype t)
shape_of cs (Entry.lang i n) at = test (language_in (items_at cs i n))
shape_of cs (Entry.from x) at = test (min_inclusive x)
shape_of cs (Entry.above x) at = test (min_exclusive x)
shape_of cs (Entry.to x) at = test (max_inclusive x)
shape_of cs (Entry.under x) at = test (max_exclusive x)
shape_of cs (Entry.count p a lo hi) at = count lo (upper_of hi) (path_at cs p) (at a)
shape_of cs (Entry.all p a) at = for_all (path_at cs p) (at a)
shape_of cs (Entry.equal f p) at = equals (end_at cs f) p
shape_of cs (Entry.apart f p) at = disjoint (end_at cs f) p
shape_of cs (Entry.closed i n) at = closed (items_at cs i n)
shape_of cs (Entry.less e p) at = less_than (path_at cs e) p
shape_of cs (Entry.lesseq e p) at = less_than_eq (path_at cs e) p
shape_of cs (Entry.onelang e) at = unique_lang (path_at cs e)
shape_of cs Entry.bad at = Shape.top

unfoldable pub entry_at : List ℕ → List ℤ → ℕ → Entry
entry_at cs vs e = entry_of (form_code_at cs e) (form_first_at cs e) (form_second_at cs e) (form_third_at cs e) (form_fourth_at cs e) (limit_at vs e)

-- the shape of form entry e
unfoldable pub shape_at : List ℕ → List ℤ → ℕ → Shape
shape_at cs vs = numbered Shape.top (λ e at. shape_of cs (entry_at cs vs e) at)

-- the schema: each shape by its number
unfoldable pub schema_at : List ℕ → List ℤ → List Shape
schema_at cs vs = values (λ s. shape_at cs vs (root_at cs s)) (shape_count cs)

-- ---- rules: targets by code are node, subjects, objects, class
unfoldable pub target_of : ℕ → ℕ → Target
target_of code a = get_or (target_node a ∷ subjects_of a ∷ objects_of a ∷ []) code (target_class a)

unfoldable pub rule_at : List ℕ → ℕ → Rule
rule_at cs r = record { shape = rule_shape_at cs r; target = target_of (rule_target_at cs r) (rule_operand_at cs r) }

unfoldable pub rules_at : List ℕ → List Rule
rules_at cs = values (rule_at cs) (rule_count cs)
