-- The codes of the tables, in document 01's words.
use Rattle.std.specs.Prelude.{ℕ}

-- ---- kinds of nodes
abbrev pub node_thing : ℕ
node_thing = 0

abbrev pub node_blank : ℕ
node_blank = 1

abbrev pub node_number : ℕ
node_number = 2

abbrev pub node_text : ℕ
node_text = 3

abbrev pub node_words : ℕ
node_words = 4

-- the first that is no node's
abbrev pub node_unknown : ℕ
node_unknown = 5

-- ---- path entries: a bare link, and the words after a bracket
abbrev pub path_link : ℕ
path_link = 0

abbrev pub path_inv : ℕ
path_inv = 1

abbrev pub path_seq : ℕ
path_seq = 2

abbrev pub path_alt : ℕ
path_alt = 3

abbrev pub path_star : ℕ
path_star = 4

abbrev pub path_plus : ℕ
path_plus = 5

-- the first that is no path's
abbrev pub path_unknown : ℕ
path_unknown = 6

-- ---- form entries
abbrev pub form_true : ℕ
form_true = 0

abbrev pub form_is : ℕ
form_is = 1

abbrev pub form_shape : ℕ
form_shape = 2

abbrev pub form_and : ℕ
form_and = 3

abbrev pub form_or : ℕ
form_or = 4

abbrev pub form_not : ℕ
form_not = 5

abbrev pub form_kind : ℕ
form_kind = 6

abbrev pub form_datatype : ℕ
form_datatype = 7

abbrev pub form_lang : ℕ
form_lang = 8

abbrev pub form_from : ℕ
form_from = 9

abbrev pub form_above : ℕ
form_above = 10

abbrev pub form_to : ℕ
form_to = 11

abbrev pub form_below : ℕ
form_below = 12

abbrev pub form_count : ℕ
form_count = 13

abbrev pub form_all : ℕ
form_all = 14

abbrev pub form_equal : ℕ
form_equal = 15

abbrev pub form_apart : ℕ
form_apart = 16

abbrev pub form_closed : ℕ
form_closed = 17

abbrev pub form_less : ℕ
form_less = 18

abbrev pub form_lesseq : ℕ
form_lesseq = 19

abbrev pub form_onelang : ℕ
form_onelang = 20

-- the first that is no form's
abbrev pub form_unknown : ℕ
form_unknown = 21

-- ---- the operand of `kind`
abbrev pub kind_thing : ℕ
kind_thing = 0

abbrev pub kind_blank : ℕ
kind_blank = 1

abbrev pub kind_literal : ℕ
kind_literal = 2

-- the first that is no kind's
abbrev pub kind_unknown : ℕ
kind_unknown = 3

-- ---- targets of rules
abbrev pub target_node : ℕ
target_node = 0

abbrev pub target_subjects : ℕ
target_subjects = 1

abbrev pub target_objects : ℕ
target_objects = 2

abbrev pub target_class : ℕ
target_class = 3

-- the first that is no target's
abbrev pub target_unknown : ℕ
target_unknown = 4
