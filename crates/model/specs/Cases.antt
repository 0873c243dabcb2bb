-- The cases of document 01 over its book B: the starred ones, which one theorem proves, a case or two for each other row of Table 1, and
-- cases of document 02: of the repeated paths, Job 1, of their rounds, Job 7, of the nearest spare along them, Job 11, and of classes under
-- others, Job 5.
use Rattle.std.specs.Prelude.{ℕ, List, [], ◌∷◌, Bool, true, false, ◌&&◌, eqb, pos, negsuc}
use Rattle.std.specs.Bool.{beq}
use Rattle.base.specs.Bytes.{bytes}
use Rattle.model.specs.Graph.{iri, blank_node, numeric, plain, tagged}
use Rattle.model.specs.Paths.{Path, predicate, inverse, sequence, alternative, zero_or_more, one_or_more, self, along}
use Rattle.model.specs.Shapes.{Shape, top, has_shape, has_value, conj, disj, neg, test, count, for_all, equals, disjoint, closed, less_than, less_than_eq, unique_lang, node_kind, datatype, language_in, min_inclusive, min_exclusive, max_inclusive, max_exclusive, an_iri, a_blank, a_literal, at_most, unbounded, conforms, expand}
use Rattle.model.specs.Rounds.{rounds_of}
use Rattle.model.specs.Nearest.{Nearest, at, no_spare, nearest_of}
use Rattle.model.specs.Rules.{subjects_of, target_class, selects}
use Rattle.model.specs.Books.{Name, Book, link, type, lang, node, fact, shape, rule, graph_of, under, sub_class_of, schema}

-- ---- book B of document 01. Its nodes: 0 left, 1 right, 2 h240, 3 h215
abbrev pub mount : Path
mount = predicate 1

abbrev pub twin : Path
twin = predicate 2

abbrev pub level : Shape
level = equals (along (sequence twin mount)) 1

abbrev pub book_b : Book
book_b =
    link (bytes "mount")
    ∷ link (bytes "twin")
    ∷ type (bytes "mm")
    ∷ node (bytes "left") iri
    ∷ node (bytes "right") iri
    ∷ node (bytes "h240") (numeric 1 (pos 240))
    ∷ node (bytes "h215") (numeric 1 (pos 215))
    ∷ fact (record { subject = 0; predicate = 1; object = 2 })
    ∷ fact (record { subject = 1; predicate = 1; object = 3 })
    ∷ fact (record { subject = 0; predicate = 2; object = 1 })
    ∷ shape (bytes "level") level
    ∷ rule (record { shape = 0; target = subjects_of 2 })
    ∷ []

-- a shape, a node, and whether it conforms. 01: a FORM of a line below the book, which may name the shapes of the book
pub data Case : Type 0 where
  case : Shape → ℕ → Bool → Case

unfoldable pub agree : Book → List Case → Bool
agree b [] = true
agree b (case φ v answer ∷ cs) = beq (conforms (graph_of b) (expand (schema b) φ) v) answer && agree b cs

-- the cases that document 01 marks with a star
abbrev pub starred : List Case
starred =
    case level 0 false
    ∷ case level 1 false
    ∷ case level 2 true
    ∷ case (count 0 (at_most 0) twin top) 1 true
    ∷ case (less_than mount 1) 0 false
    ∷ case (less_than mount 1) 2 true
    ∷ case (less_than_eq mount 1) 0 true
    ∷ case (less_than (sequence twin mount) 1) 0 true
    ∷ case (count 2 unbounded (alternative mount mount) top) 0 false
    ∷ case (less_than twin 1) 0 false
    ∷ case (neg (for_all twin (test (node_kind a_literal)))) 0 true
    ∷ case (closed (1 ∷ [])) 0 false
    ∷ []

-- ---- a book with a language, a blank node, a repeated line, and a shape that uses another.
-- Its nodes: 0 desk, 1 lamp, 2 hello, 3 salut, 4 hi, 5 spare, 6 low, 7 note. Its shapes: 0 feeder, 1 idle, not a feeder
abbrev pub book_c : Book
book_c =
    link (bytes "label")
    ∷ link (bytes "feeds")
    ∷ type (bytes "mm")
    ∷ lang (bytes "en")
    ∷ lang (bytes "fr")
    ∷ node (bytes "desk") iri
    ∷ node (bytes "lamp") iri
    ∷ node (bytes "hello") (tagged 0)
    ∷ node (bytes "salut") (tagged 1)
    ∷ node (bytes "hi") (tagged 0)
    ∷ node (bytes "spare") blank_node
    ∷ node (bytes "low") (numeric 1 (negsuc 4))
    ∷ node (bytes "note") (plain 1)
    ∷ fact (record { subject = 0; predicate = 1; object = 2 })
    ∷ fact (record { subject = 0; predicate = 1; object = 3 })
    ∷ fact (record { subject = 1; predicate = 1; object = 2 })
    ∷ fact (record { subject = 1; predicate = 1; object = 4 })
    ∷ fact (record { subject = 0; predicate = 2; object = 1 })
    ∷ fact (record { subject = 0; predicate = 2; object = 1 })
    ∷ fact (record { subject = 5; predicate = 2; object = 6 })
    ∷ shape (bytes "feeder") (count 1 unbounded (predicate 2) top)
    ∷ shape (bytes "idle") (neg (has_shape 0))
    ∷ []

-- each row of Table 1 that no starred case has, met and not met
abbrev pub rows : List Case
rows =
    case top 0 true
    ∷ case (has_shape 0) 0 true
    ∷ case (has_shape 0) 1 false
    ∷ case (has_shape 1) 1 true
    ∷ case (has_value 1) 1 true
    ∷ case (has_value 1) 0 false
    ∷ case (conj top (has_value 1)) 0 false
    ∷ case (conj top (has_value 0)) 0 true
    ∷ case (disj (neg top) (has_value 1)) 0 false
    ∷ case (disj (neg top) (has_value 0)) 0 true
    ∷ case (test (node_kind an_iri)) 0 true
    ∷ case (test (node_kind an_iri)) 5 false
    ∷ case (test (node_kind a_blank)) 5 true
    ∷ case (test (node_kind a_blank)) 6 false
    ∷ case (test (datatype 0)) 2 true
    ∷ case (test (datatype 1)) 7 true
    ∷ case (test (datatype 1)) 2 false
    ∷ case (test (language_in (1 ∷ 0 ∷ []))) 4 true
    ∷ case (test (language_in [])) 4 false
    ∷ case (test (min_inclusive (negsuc 4))) 6 true
    ∷ case (test (min_inclusive (negsuc 3))) 6 false
    ∷ case (test (min_exclusive (negsuc 4))) 6 false
    ∷ case (test (max_inclusive (negsuc 4))) 6 true
    ∷ case (test (max_exclusive (negsuc 4))) 6 false
    ∷ case (test (max_exclusive (pos 0))) 6 true
    ∷ case (test (min_exclusive (negsuc 5))) 6 true
    ∷ case (test (max_inclusive (pos 9))) 7 false
    ∷ case (count 1 (at_most 1) (predicate 2) top) 0 true
    ∷ case (count 1 (at_most 1) (inverse (predicate 1)) top) 2 false
    ∷ case (count 3 (at_most 1) (predicate 1) top) 0 false
    ∷ case (for_all (predicate 1) (test (node_kind a_literal))) 0 true
    ∷ case (equals self 2) 5 false
    ∷ case (disjoint (along (sequence (predicate 2) (predicate 1))) 1) 0 false
    ∷ case (disjoint self 2) 0 true
    ∷ case (closed (2 ∷ 1 ∷ [])) 0 true
    ∷ case (closed []) 2 true
    ∷ case (unique_lang (predicate 1)) 0 true
    ∷ case (unique_lang (predicate 1)) 1 false
    ∷ []

-- ---- a chain that ends in a literal, and a ring; by another link a way back to the chain's start, for repeats in repeats.
-- Its nodes: 0 desk, 1 splitter, 2 lamp, 3 note, 4 east, 5 west
abbrev pub feeds : Path
feeds = predicate 1

abbrev pub home : Path
home = predicate 2

abbrev pub book_d : Book
book_d =
    link (bytes "feeds")
    ∷ link (bytes "home")
    ∷ type (bytes "mm")
    ∷ node (bytes "desk") iri
    ∷ node (bytes "splitter") iri
    ∷ node (bytes "lamp") iri
    ∷ node (bytes "note") (plain 1)
    ∷ node (bytes "east") iri
    ∷ node (bytes "west") iri
    ∷ fact (record { subject = 0; predicate = 1; object = 1 })
    ∷ fact (record { subject = 1; predicate = 1; object = 2 })
    ∷ fact (record { subject = 2; predicate = 1; object = 3 })
    ∷ fact (record { subject = 4; predicate = 1; object = 5 })
    ∷ fact (record { subject = 5; predicate = 1; object = 4 })
    ∷ fact (record { subject = 2; predicate = 2; object = 0 })
    ∷ []

abbrev pub repeats : List Case
repeats =
    case (count 4 (at_most 4) (zero_or_more feeds) top) 0 true
    ∷ case (count 3 (at_most 3) (one_or_more feeds) top) 0 true
    ∷ case (count 1 unbounded (one_or_more feeds) (has_value 0)) 0 false
    ∷ case (count 1 (at_most 1) (zero_or_more feeds) (has_value 3)) 3 true
    ∷ case (count 0 (at_most 0) (one_or_more feeds) top) 3 true
    ∷ case (count 2 (at_most 2) (one_or_more feeds) top) 4 true
    ∷ case (count 2 (at_most 2) (zero_or_more feeds) top) 4 true
    ∷ case (count 3 (at_most 3) (inverse (zero_or_more feeds)) top) 2 true
    ∷ case (count 2 (at_most 2) (one_or_more (inverse feeds)) top) 2 true
    ∷ case (count 2 (at_most 2) (one_or_more (sequence (one_or_more feeds) home)) top) 0 false
    ∷ case (count 1 (at_most 1) (one_or_more (sequence (one_or_more feeds) home)) (has_value 0)) 0 true
    ∷ case (count 4 (at_most 4) (zero_or_more (alternative (zero_or_more feeds) home)) top) 1 true
    ∷ case (count 1 unbounded (zero_or_more (zero_or_more feeds)) (has_value 5)) 0 false
    ∷ case (equals (along (sequence (zero_or_more feeds) home)) 2) 2 true
    ∷ case (disjoint (along (zero_or_more feeds)) 1) 4 false
    ∷ []

-- document 02, Job 7: a path, a node, and the rounds of the path's `star` from there
pub data Search : Type 0 where
  search : Path → ℕ → ℕ → Search

unfoldable pub rounds_agree : Book → List Search → Bool
rounds_agree b [] = true
rounds_agree b (search e v answer ∷ cs) = eqb (rounds_of (graph_of b) e v) answer && rounds_agree b cs

-- along the chain, from its start, its middle and its end; back from the literal; on the ring; by two cables at once; along a path
-- that is a `star` or a `plus` itself; by a link without facts; all ways at once
abbrev pub searches : List Search
searches =
    search feeds 0 3
    ∷ search feeds 2 1
    ∷ search feeds 3 0
    ∷ search (inverse feeds) 3 3
    ∷ search feeds 4 1
    ∷ search (sequence feeds feeds) 0 1
    ∷ search (sequence feeds feeds) 4 0
    ∷ search (zero_or_more feeds) 0 1
    ∷ search (zero_or_more feeds) 3 0
    ∷ search (one_or_more feeds) 4 1
    ∷ search (predicate 0) 0 0
    ∷ search (alternative feeds home) 1 2
    ∷ search (alternative feeds (inverse feeds)) 1 2
    ∷ []

-- document 02, Job 11: a path, a shape and a node, and of the nodes that conform to the shape the nearest to it along the path
pub data Spare : Type 0 where
  spare : Path → Shape → ℕ → Nearest → Spare

unfoldable pub nearest_found : Book → List Spare → List Nearest
nearest_found b [] = []
nearest_found b (spare e φ v answer ∷ cs) = nearest_of (graph_of b) e φ v ∷ nearest_found b cs

unfoldable pub nearest_told : List Spare → List Nearest
nearest_told [] = []
nearest_told (spare e φ v answer ∷ cs) = answer ∷ nearest_told cs

-- the nearer of two, whichever has the lower number; the start itself, before others; of two as near the lower; one that no cable leads to; back
-- from the literal, and to it; on the ring; by two cables at once; along a path that is a `star` or a `plus` itself; a shape that none meets
abbrev pub spares : List Spare
spares =
    spare feeds (disj (has_value 1) (has_value 2)) 0 (at 1 1)
    ∷ spare (inverse feeds) (disj (has_value 1) (has_value 2)) 3 (at 1 2)
    ∷ spare feeds top 2 (at 0 2)
    ∷ spare feeds (count 1 (at_most 1) feeds top) 1 (at 0 1)
    ∷ spare (alternative feeds (inverse feeds)) (neg (has_value 1)) 1 (at 1 0)
    ∷ spare feeds (has_value 4) 0 no_spare
    ∷ spare feeds (has_value 0) 1 no_spare
    ∷ spare (inverse feeds) (has_value 0) 3 (at 3 0)
    ∷ spare feeds (test (node_kind a_literal)) 0 (at 3 3)
    ∷ spare feeds (neg (has_value 4)) 4 (at 1 5)
    ∷ spare (sequence feeds feeds) (has_value 2) 0 (at 1 2)
    ∷ spare (sequence feeds feeds) (has_value 3) 0 no_spare
    ∷ spare (zero_or_more feeds) (has_value 3) 0 (at 1 3)
    ∷ spare (one_or_more feeds) (has_value 3) 0 (at 1 3)
    ∷ spare (one_or_more feeds) (has_value 0) 0 (at 0 0)
    ∷ spare feeds (neg top) 0 no_spare
    ∷ []

-- ---- document 02, Job 5: a book with classes under others, by a link named n, which is defined after the rule. Its nodes: 0 device, 1 projector,
-- 2 laser, 3 lamp, 4 bulb, classes: a laser is a projector, a projector a device, a device a device; lamp and bulb are under each other;
-- 5 beam, a laser; 6 unit, a projector; 7 glow, a lamp; 8 a literal, of no class. A type, a node and a shape are named `under`, which means
-- nothing
abbrev pub kinds_book : Name → Book
kinds_book n =
    type under
    ∷ node (bytes "device") iri
    ∷ node (bytes "projector") iri
    ∷ node (bytes "laser") iri
    ∷ node (bytes "lamp") iri
    ∷ node (bytes "bulb") iri
    ∷ node (bytes "beam") iri
    ∷ node (bytes "unit") iri
    ∷ node (bytes "glow") blank_node
    ∷ node under (plain 1)
    ∷ shape under (neg top)
    ∷ rule (record { shape = 0; target = target_class 1 })
    ∷ link n
    ∷ fact (record { subject = 2; predicate = 1; object = 1 })
    ∷ fact (record { subject = 1; predicate = 1; object = 0 })
    ∷ fact (record { subject = 0; predicate = 1; object = 0 })
    ∷ fact (record { subject = 3; predicate = 1; object = 4 })
    ∷ fact (record { subject = 4; predicate = 1; object = 3 })
    ∷ fact (record { subject = 5; predicate = 0; object = 2 })
    ∷ fact (record { subject = 6; predicate = 0; object = 1 })
    ∷ fact (record { subject = 7; predicate = 0; object = 3 })
    ∷ []

-- a class, a node, and whether a rule on the class selects the node
pub data Member : Type 0 where
  of_class : ℕ → ℕ → Bool → Member

unfoldable pub kinds_agree : Book → List Member → Bool
kinds_agree b [] = true
kinds_agree b (of_class c v answer ∷ cs) = beq (selects (sub_class_of b) (graph_of b) (target_class c) v) answer && kinds_agree b cs

-- straight; by one step, by two; not against the steps; on the ring, either way; a class is no instance of itself or of what it is under;
-- a literal has no instances
abbrev pub kinds : List Member
kinds =
    of_class 1 6 true
    ∷ of_class 1 5 true
    ∷ of_class 0 5 true
    ∷ of_class 0 6 true
    ∷ of_class 2 6 false
    ∷ of_class 2 5 true
    ∷ of_class 3 7 true
    ∷ of_class 4 7 true
    ∷ of_class 1 7 false
    ∷ of_class 1 2 false
    ∷ of_class 0 0 false
    ∷ of_class 3 4 false
    ∷ of_class 8 5 false
    ∷ []

-- without the link `under`: straight alone
abbrev pub straight : List Member
straight =
    of_class 1 6 true
    ∷ of_class 1 5 false
    ∷ of_class 0 5 false
    ∷ of_class 2 5 true
    ∷ of_class 3 7 true
    ∷ of_class 4 7 false
    ∷ []
