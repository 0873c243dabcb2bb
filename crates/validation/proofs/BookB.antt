-- Book B of document 01: its plan is Equal, Unequal, From twin, Both 2 1, and its rule's step is the last.
use mathlib.Core.List.{[], ◌∷◌}
use mathlib.Core.Path.{◌≡◌, refl}
use Rattle.base.specs.Lists.{values_from}
use Rattle.base.specs.Columns.{pad, flat}
use Rattle.model.specs.Books.{built_in, joins, new_names, new_terms, new_triples, new_shapes, new_rules, collect, names, rules}
use Rattle.model.specs.Sizes.{path_entries, end_entries, form_entries, shape_paths, test_items, list_items, sum_over, forms_in, paths_in, items_in}
use Rattle.model.specs.Cases.{book_b}
use Rattle.tables.specs.Entries.{entry_of}
use Rattle.tables.specs.Decode.{entry_at, target_of, rule_at}
use Rattle.encoding.specs.Rows.{node_row, path_row, plain_row, form_row, target_code, target_operand}
use Rattle.encoding.specs.Flatten.{add_path, with_end, end_number, add_shape, add_shapes, roots_of}
use Rattle.encoding.specs.Encode.{entries_of, counts_of, content_of, encode_cells}
use Rattle.plan.specs.Steps.{Step}
use Rattle.translation.specs.Compile.{entry_part, put_at, more, made, target_step, steps_of_rule, steps_to, steps_of, rule_step}

pub plan_B : steps_of (encode_cells book_b) ≡ Step.equal 2 1 ∷ Step.unequal 2 1 ∷ Step.from 2 ∷ Step.both 2 1 ∷ []
unfolding values_from pad flat built_in joins new_names new_terms new_triples new_shapes new_rules collect names rules path_entries end_entries form_entries shape_paths test_items list_items sum_over forms_in paths_in items_in entry_of entry_at target_of rule_at node_row path_row plain_row form_row target_code target_operand add_path with_end end_number add_shape add_shapes roots_of entries_of counts_of content_of encode_cells entry_part put_at more made target_step steps_of_rule steps_to steps_of
plan_B = refl

pub rule_B : rule_step (encode_cells book_b) 0 ≡ 3
unfolding values_from pad flat built_in joins new_names new_terms new_triples new_shapes new_rules collect names rules path_entries end_entries form_entries shape_paths test_items list_items sum_over forms_in paths_in items_in entry_of entry_at target_of rule_at node_row path_row plain_row form_row target_code target_operand add_path with_end end_number add_shape add_shapes roots_of entries_of counts_of content_of encode_cells entry_part put_at more made target_step steps_of_rule steps_to rule_step
rule_B = refl
