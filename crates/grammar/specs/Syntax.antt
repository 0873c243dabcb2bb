-- The brackets of the grammar as data: for each word, what stands after it, and what the whole means.
use Rattle.std.specs.Prelude.{ℕ, List, [], ◌∷◌, ℤ}
use Rattle.base.specs.Bytes.{bytes}
use Rattle.model.specs.Graph.{iri, blank_node, numeric, plain, tagged}
use Rattle.model.specs.Paths.{Path, inverse, sequence, alternative, zero_or_more, one_or_more, End}
use Rattle.model.specs.Shapes.{Kind, node_kind, datatype, language_in, min_inclusive, min_exclusive, max_inclusive, max_exclusive, Upper, Shape, has_shape, has_value, conj, disj, neg, test, count, for_all, equals, disjoint, closed, less_than, less_than_eq, unique_lang}
use Rattle.model.specs.Rules.{Target, target_node, subjects_of, objects_of, target_class}
use Rattle.model.specs.Books.{Name, Line, link, type, lang, node, fact, shape, rule, Pool, nodes, links, types, langs, shapes}

-- what may stand at a place after the word
pub data Slot : Type 0 where
  -- a name of a pool that is defined above; a name new in its pool
  used new : Pool → Slot
  -- a defined node that is a thing or blank; a defined type other than `langstring`
  subject literal_type : Slot
  -- thing, blank or literal; V; LO; HI
  kind_word value low high : Slot
  -- PATH, END, FORM, TARGET
  path end form target : Slot
  -- any number of defined names of a pool
  list : Pool → Slot

abbrev pub Arg : Slot → Type 0
Arg (used p) = ℕ
Arg (new p) = Name
Arg subject = ℕ
Arg literal_type = ℕ
Arg kind_word = Kind
Arg value = ℤ
Arg low = ℕ
Arg high = Upper
Arg path = Path
Arg end = End
Arg form = Shape
Arg target = Target
Arg (list p) = List ℕ

abbrev pub Args : List Slot → Type 0
Args [] = Unit {0}
Args (k ∷ ks) = Arg k × Args ks

-- a family of brackets: its words by number, what stands after each, and what it makes
pub record Family (A : Type 0) : Type 1 where
  pub Code : Type 0
  pub codes : List Code
  pub other : Code
  pub word : Code → List ℕ
  pub slots : Code → List Slot
  pub build : (c : Code) → Args (slots c) → A

-- ---- PATH, in the order of the tables' codes
pub data PathCode : Type 0 where
  inv_c seq_c alt_c star_c plus_c : PathCode

abbrev pub path_word : PathCode → List ℕ
path_word inv_c = bytes "inv"
path_word seq_c = bytes "seq"
path_word alt_c = bytes "alt"
path_word star_c = bytes "star"
path_word plus_c = bytes "plus"

abbrev pub path_slots : PathCode → List Slot
path_slots inv_c = path ∷ []
path_slots seq_c = path ∷ path ∷ []
path_slots alt_c = path ∷ path ∷ []
path_slots star_c = path ∷ []
path_slots plus_c = path ∷ []

abbrev pub path_of : (c : PathCode) → Args (path_slots c) → Path
path_of inv_c a = inverse a.0
path_of seq_c a = sequence a.0 a.1.0
path_of alt_c a = alternative a.0 a.1.0
path_of star_c a = zero_or_more a.0
path_of plus_c a = one_or_more a.0

abbrev pub path_family : Family Path
path_family = record { Code = PathCode; codes = inv_c ∷ seq_c ∷ alt_c ∷ star_c ∷ plus_c ∷ []; other = inv_c; word = path_word; slots = path_slots; build = path_of }

-- ---- FORM, in the order of the tables' codes
pub data FormCode : Type 0 where
  is_c shape_c and_c or_c not_c kind_c datatype_c lang_c from_c above_c to_c below_c count_c all_c equal_c apart_c closed_c less_c lesseq_c onelang_c : FormCode

abbrev pub form_word : FormCode → List ℕ
form_word is_c = bytes "is"
form_word shape_c = bytes "shape"
form_word and_c = bytes "and"
form_word or_c = bytes "or"
form_word not_c = bytes "not"
form_word kind_c = bytes "kind"
form_word datatype_c = bytes "datatype"
form_word lang_c = bytes "lang"
form_word from_c = bytes "from"
form_word above_c = bytes "above"
form_word to_c = bytes "to"
form_word below_c = bytes "below"
form_word count_c = bytes "count"
form_word all_c = bytes "all"
form_word equal_c = bytes "equal"
form_word apart_c = bytes "apart"
form_word closed_c = bytes "closed"
form_word less_c = bytes "less"
form_word lesseq_c = bytes "lesseq"
form_word onelang_c = bytes "onelang"

abbrev pub form_slots : FormCode → List Slot
form_slots is_c = used nodes ∷ []
form_slots shape_c = used shapes ∷ []
form_slots and_c = form ∷ form ∷ []
form_slots or_c = form ∷ form ∷ []
form_slots not_c = form ∷ []
form_slots kind_c = kind_word ∷ []
form_slots datatype_c = used types ∷ []
form_slots lang_c = list langs ∷ []
form_slots from_c = value ∷ []
form_slots above_c = value ∷ []
form_slots to_c = value ∷ []
form_slots below_c = value ∷ []
form_slots count_c = low ∷ high ∷ path ∷ form ∷ []
form_slots all_c = path ∷ form ∷ []
form_slots equal_c = end ∷ used links ∷ []
form_slots apart_c = end ∷ used links ∷ []
form_slots closed_c = list links ∷ []
form_slots less_c = path ∷ used links ∷ []
form_slots lesseq_c = path ∷ used links ∷ []
form_slots onelang_c = path ∷ []

abbrev pub form_of : (c : FormCode) → Args (form_slots c) → Shape
form_of is_c a = has_value a.0
form_of shape_c a = has_shape a.0
form_of and_c a = conj a.0 a.1.0
form_of or_c a = disj a.0 a.1.0
form_of not_c a = neg a.0
form_of kind_c a = test (node_kind a.0)
form_of datatype_c a = test (datatype a.0)
form_of lang_c a = test (language_in a.0)
form_of from_c a = test (min_inclusive a.0)
form_of above_c a = test (min_exclusive a.0)
form_of to_c a = test (max_inclusive a.0)
form_of below_c a = test (max_exclusive a.0)
form_of count_c a = count a.0 a.1.0 a.1.1.0 a.1.1.1.0
form_of all_c a = for_all a.0 a.1.0
form_of equal_c a = equals a.0 a.1.0
form_of apart_c a = disjoint a.0 a.1.0
form_of closed_c a = closed a.0
form_of less_c a = less_than a.0 a.1.0
form_of lesseq_c a = less_than_eq a.0 a.1.0
form_of onelang_c a = unique_lang a.0

abbrev pub form_family : Family Shape
form_family =
    record {
      Code = FormCode;
      codes = is_c ∷ shape_c ∷ and_c ∷ or_c ∷ not_c ∷ kind_c ∷ datatype_c ∷ lang_c ∷ from_c ∷ above_c ∷ to_c ∷ below_c ∷ count_c ∷ all_c ∷ equal_c ∷ apart_c ∷ closed_c ∷ less_c ∷ lesseq_c ∷ onelang_c ∷ [];
      other = is_c;
      word = form_word;
      slots = form_slots;
      build = form_of;
    }

-- ---- TARGET
pub data TargetCode : Type 0 where
  node_c subjects_c objects_c class_c : TargetCode

abbrev pub target_word : TargetCode → List ℕ
target_word node_c = bytes "node"
target_word subjects_c = bytes "subjects"
target_word objects_c = bytes "objects"
target_word class_c = bytes "class"

abbrev pub target_slots : TargetCode → List Slot
target_slots node_c = used nodes ∷ []
target_slots subjects_c = used links ∷ []
target_slots objects_c = used links ∷ []
target_slots class_c = used nodes ∷ []

abbrev pub target_of : (c : TargetCode) → Args (target_slots c) → Target
target_of node_c a = target_node a.0
target_of subjects_c a = subjects_of a.0
target_of objects_c a = objects_of a.0
target_of class_c a = target_class a.0

abbrev pub target_family : Family Target
target_family = record { Code = TargetCode; codes = node_c ∷ subjects_c ∷ objects_c ∷ class_c ∷ []; other = node_c; word = target_word; slots = target_slots; build = target_of }

-- ---- lines
pub data LineCode : Type 0 where
  link_l type_l lang_l thing_l blank_l number_l text_l words_l fact_l shape_l rule_l : LineCode

abbrev pub line_word : LineCode → List ℕ
line_word link_l = bytes "link"
line_word type_l = bytes "type"
line_word lang_l = bytes "lang"
line_word thing_l = bytes "thing"
line_word blank_l = bytes "blank"
line_word number_l = bytes "number"
line_word text_l = bytes "text"
line_word words_l = bytes "words"
line_word fact_l = bytes "fact"
line_word shape_l = bytes "shape"
line_word rule_l = bytes "rule"

abbrev pub line_slots : LineCode → List Slot
line_slots link_l = new links ∷ []
line_slots type_l = new types ∷ []
line_slots lang_l = new langs ∷ []
line_slots thing_l = new nodes ∷ []
line_slots blank_l = new nodes ∷ []
line_slots number_l = new nodes ∷ literal_type ∷ value ∷ []
line_slots text_l = new nodes ∷ literal_type ∷ []
line_slots words_l = new nodes ∷ used langs ∷ []
line_slots fact_l = subject ∷ used links ∷ used nodes ∷ []
line_slots shape_l = new shapes ∷ form ∷ []
line_slots rule_l = used shapes ∷ target ∷ []

abbrev pub line_of : (c : LineCode) → Args (line_slots c) → Line
line_of link_l a = link a.0
line_of type_l a = type a.0
line_of lang_l a = lang a.0
line_of thing_l a = node a.0 iri
line_of blank_l a = node a.0 blank_node
line_of number_l a = node a.0 (numeric a.1.0 a.1.1.0)
line_of text_l a = node a.0 (plain a.1.0)
line_of words_l a = node a.0 (tagged a.1.0)
line_of fact_l a = fact (record { subject = a.0; predicate = a.1.0; object = a.1.1.0 })
line_of shape_l a = shape a.0 a.1.0
line_of rule_l a = rule (record { shape = a.0; target = a.1.0 })

abbrev pub line_family : Family Line
line_family =
    record {
      Code = LineCode;
      codes = link_l ∷ type_l ∷ lang_l ∷ thing_l ∷ blank_l ∷ number_l ∷ text_l ∷ words_l ∷ fact_l ∷ shape_l ∷ rule_l ∷ [];
      other = link_l;
      word = line_word;
      slots = line_slots;
      build = line_of;
    }
