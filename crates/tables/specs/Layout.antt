-- Where everything stands in the three lent tables: names (bytes), cells (16 bits) and values (signed, 64 bits). A column
-- begins where the one before it ends.
use Rattle.std.specs.Prelude.{ℕ, ◌+◌, ◌*◌, List, get_or, ℤ, pos}
use Rattle.model.specs.Limits.{max_nodes, max_links, max_types, max_langs, max_shapes, max_facts, max_paths, max_forms, max_items, max_rules, name_bytes}

-- ---- cells: ten counts, then columns
-- per node: its kind, datatype and language
abbrev pub node_kinds : ℕ
node_kinds = 10

abbrev pub node_types : ℕ
node_types = node_kinds + max_nodes

abbrev pub node_langs : ℕ
node_langs = node_types + max_nodes

-- per triple
abbrev pub subjects : ℕ
subjects = node_langs + max_nodes

abbrev pub predicates : ℕ
predicates = subjects + max_facts

abbrev pub objects : ℕ
objects = predicates + max_facts

-- per path entry: its code and two operands
abbrev pub path_codes : ℕ
path_codes = objects + max_facts

abbrev pub path_firsts : ℕ
path_firsts = path_codes + max_paths

abbrev pub path_seconds : ℕ
path_seconds = path_firsts + max_paths

-- per form entry: its code and four operands
abbrev pub form_codes : ℕ
form_codes = path_seconds + max_paths

abbrev pub form_firsts : ℕ
form_firsts = form_codes + max_forms

abbrev pub form_seconds : ℕ
form_seconds = form_firsts + max_forms

abbrev pub form_thirds : ℕ
form_thirds = form_seconds + max_forms

abbrev pub form_fourths : ℕ
form_fourths = form_thirds + max_forms

-- the items of lists
abbrev pub items : ℕ
items = form_fourths + max_forms

-- per shape: the form entry that it begins with
abbrev pub roots : ℕ
roots = items + max_items

-- per rule: its shape, and its target's code and operand
abbrev pub rule_shapes : ℕ
rule_shapes = roots + max_shapes

abbrev pub rule_targets : ℕ
rule_targets = rule_shapes + max_rules

abbrev pub rule_operands : ℕ
rule_operands = rule_targets + max_rules

-- how many cells there are
abbrev pub cell_count : ℕ
cell_count = rule_operands + max_rules

-- ---- values: the number of each node, then V of each form entry
abbrev pub form_values : ℕ
form_values = max_nodes

abbrev pub value_count : ℕ
value_count = form_values + max_forms

-- ---- names: those of each pool, in their bytes
abbrev pub link_names : ℕ
link_names = max_nodes * name_bytes

abbrev pub type_names : ℕ
type_names = link_names + max_links * name_bytes

abbrev pub lang_names : ℕ
lang_names = type_names + max_types * name_bytes

abbrev pub shape_names : ℕ
shape_names = lang_names + max_langs * name_bytes

abbrev pub name_count : ℕ
name_count = shape_names + max_shapes * name_bytes

-- `*` for HI, and `id` for END
abbrev pub no_number : ℕ
no_number = 65535

-- ---- what stands at a place
abbrev pub node_count : List ℕ → ℕ
node_count cs = get_or cs 0 0

abbrev pub link_count : List ℕ → ℕ
link_count cs = get_or cs 1 0

abbrev pub type_count : List ℕ → ℕ
type_count cs = get_or cs 2 0

abbrev pub lang_count : List ℕ → ℕ
lang_count cs = get_or cs 3 0

abbrev pub shape_count : List ℕ → ℕ
shape_count cs = get_or cs 4 0

abbrev pub fact_count : List ℕ → ℕ
fact_count cs = get_or cs 5 0

abbrev pub path_count : List ℕ → ℕ
path_count cs = get_or cs 6 0

abbrev pub form_count : List ℕ → ℕ
form_count cs = get_or cs 7 0

abbrev pub item_count : List ℕ → ℕ
item_count cs = get_or cs 8 0

abbrev pub rule_count : List ℕ → ℕ
rule_count cs = get_or cs 9 0

abbrev pub kind_at : List ℕ → ℕ → ℕ
kind_at cs i = get_or cs (node_kinds + i) 0

abbrev pub type_at : List ℕ → ℕ → ℕ
type_at cs i = get_or cs (node_types + i) 0

abbrev pub lang_at : List ℕ → ℕ → ℕ
lang_at cs i = get_or cs (node_langs + i) 0

abbrev pub subject_at : List ℕ → ℕ → ℕ
subject_at cs i = get_or cs (subjects + i) 0

abbrev pub predicate_at : List ℕ → ℕ → ℕ
predicate_at cs i = get_or cs (predicates + i) 0

abbrev pub object_at : List ℕ → ℕ → ℕ
object_at cs i = get_or cs (objects + i) 0

abbrev pub path_code_at : List ℕ → ℕ → ℕ
path_code_at cs i = get_or cs (path_codes + i) 0

abbrev pub path_first_at : List ℕ → ℕ → ℕ
path_first_at cs i = get_or cs (path_firsts + i) 0

abbrev pub path_second_at : List ℕ → ℕ → ℕ
path_second_at cs i = get_or cs (path_seconds + i) 0

abbrev pub form_code_at : List ℕ → ℕ → ℕ
form_code_at cs i = get_or cs (form_codes + i) 0

abbrev pub form_first_at : List ℕ → ℕ → ℕ
form_first_at cs i = get_or cs (form_firsts + i) 0

abbrev pub form_second_at : List ℕ → ℕ → ℕ
form_second_at cs i = get_or cs (form_seconds + i) 0

abbrev pub form_third_at : List ℕ → ℕ → ℕ
form_third_at cs i = get_or cs (form_thirds + i) 0

abbrev pub form_fourth_at : List ℕ → ℕ → ℕ
form_fourth_at cs i = get_or cs (form_fourths + i) 0

abbrev pub item_at : List ℕ → ℕ → ℕ
item_at cs i = get_or cs (items + i) 0

abbrev pub root_at : List ℕ → ℕ → ℕ
root_at cs i = get_or cs (roots + i) 0

abbrev pub rule_shape_at : List ℕ → ℕ → ℕ
rule_shape_at cs i = get_or cs (rule_shapes + i) 0

abbrev pub rule_target_at : List ℕ → ℕ → ℕ
rule_target_at cs i = get_or cs (rule_targets + i) 0

abbrev pub rule_operand_at : List ℕ → ℕ → ℕ
rule_operand_at cs i = get_or cs (rule_operands + i) 0

abbrev pub number_at : List ℤ → ℕ → ℤ
number_at vs v = get_or vs v (pos 0)

abbrev pub limit_at : List ℤ → ℕ → ℤ
limit_at vs e = get_or vs (form_values + e) (pos 0)
