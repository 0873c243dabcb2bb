-- A book as a list of lines, and what its lines say: names, graph, schema and rules.
use Rattle.std.specs.Prelude.{ℕ, List, [], ◌∷◌, ◌++◌, map, Bool, cond, eqb, length, get_or}
use Rattle.std.proofs.Math.Option.{Option}
use Rattle.base.specs.Bytes.{bytes, eql}
use Rattle.base.specs.Least.{least_of}
use Rattle.model.specs.Graph.{Term, iri, Triple, Graph}
use Rattle.model.specs.Shapes.{Shape, expand, conforms, def}
use Rattle.model.specs.Rules.{Rule, violations}

-- the bytes of a name
abbrev pub Name : Type 0
Name = List ℕ

-- one constructor for each line of 01, named by its word; `node` is a line thing, blank, number, text or words, by its term.
-- A line holds the name that it defines, and the numbers of the names that it uses.
pub data Line : Type 0 where
  link type lang : Name → Line
  node : Name → Term → Line
  fact : Triple → Line
  shape : Name → Shape → Line
  rule : Rule → Line

abbrev pub Book : Type 0
Book = List Line

-- the five pools of names, in the order of the tables
pub data Pool : Type 0 where
  nodes links types langs shapes : Pool

abbrev pub pool_number : Pool → ℕ
pool_number nodes = 0
pool_number links = 1
pool_number types = 2
pool_number langs = 3
pool_number shapes = 4

-- the names that exist from the start
unfoldable pub built_in : Pool → List Name
built_in nodes = []
built_in links = bytes "a" ∷ []
built_in types = bytes "langstring" ∷ []
built_in langs = []
built_in shapes = []

-- n alone where the pools are the same
unfoldable pub joins : Pool → Pool → Name → List Name
joins p q n = cond (eqb (pool_number p) (pool_number q)) (n ∷ []) []

-- what a line adds: to a pool of names, to the terms, to the triples, to the shapes, to the rules
unfoldable pub new_names : Pool → Line → List Name
new_names p (link n) = joins p links n
new_names p (type n) = joins p types n
new_names p (lang n) = joins p langs n
new_names p (node n t) = joins p nodes n
new_names p (fact t) = []
new_names p (shape n φ) = joins p shapes n
new_names p (rule r) = []

unfoldable pub new_terms : Line → List Term
new_terms (link n) = []
new_terms (type n) = []
new_terms (lang n) = []
new_terms (node n t) = t ∷ []
new_terms (fact t) = []
new_terms (shape n φ) = []
new_terms (rule r) = []

unfoldable pub new_triples : Line → List Triple
new_triples (link n) = []
new_triples (type n) = []
new_triples (lang n) = []
new_triples (node n t) = []
new_triples (fact t) = t ∷ []
new_triples (shape n φ) = []
new_triples (rule r) = []

unfoldable pub new_shapes : Line → List Shape
new_shapes (link n) = []
new_shapes (type n) = []
new_shapes (lang n) = []
new_shapes (node n t) = []
new_shapes (fact t) = []
new_shapes (shape n φ) = φ ∷ []
new_shapes (rule r) = []

unfoldable pub new_rules : Line → List Rule
new_rules (link n) = []
new_rules (type n) = []
new_rules (lang n) = []
new_rules (node n t) = []
new_rules (fact t) = []
new_rules (shape n φ) = []
new_rules (rule r) = r ∷ []

-- what all lines add, in the order of the lines
unfoldable pub collect : {A : Type 0} → (Line → List A) → Book → List A
collect f [] = []
collect f (l ∷ b) = f l ++ collect f b

-- the names of a pool, by number
unfoldable pub names : Pool → Book → List Name
names p b = built_in p ++ collect (new_names p) b

-- the number of a name in a list of names, the lowest where it stands there more than once
unfoldable pub number_in : List Name → Name → Option ℕ
number_in ws w = least_of (λ k. eql w (get_or ws k [])) (length ws)

-- document 02, Job 5: the name of the link by which a class lies under another
abbrev pub under : Name
under = bytes "under"

-- rdfs:subClassOf: the link of that name, on whichever line, or none
unfoldable pub sub_class_of : Book → Option ℕ
sub_class_of b = number_in (names links b) under

unfoldable pub graph_of : Book → Graph
graph_of b = record { nodes = length (collect new_terms b); term = λ v. get_or (collect new_terms b) v iri; triples = collect new_triples b }

-- the shapes of the lines, each expanded by those of the lines above it, after H
unfoldable pub schema_from : List Shape → Book → List Shape
schema_from H [] = H
schema_from H (l ∷ b) = schema_from (H ++ map (expand H) (new_shapes l)) b

unfoldable pub schema : Book → List Shape
schema b = schema_from [] b

unfoldable pub rules : Book → List Rule
rules b = collect new_rules b

-- node v of the book conforms to its shape s
unfoldable pub conforms_in : Book → ℕ → ℕ → Bool
conforms_in b v s = conforms (graph_of b) (def (schema b) s) v

-- the list of a rule: the nodes that it selects and that do not conform to its shape
unfoldable pub list_of : Book → Rule → List ℕ
list_of b r = violations (sub_class_of b) (graph_of b) (schema b) r
