-- The rig of docs/BOOK.md is read, and its rules' lists are those of the report there.
use mathlib.Core.Path.{◌≡◌, refl}
use mathlib.Core.List.{[], ◌∷◌}
use Rattle.base.specs.Bounded.{some, every, one, size, members}
use Rattle.base.specs.Least.{next_of, next_from, least_of}
use Rattle.base.specs.Lists.{member, anyb, allb}
use Rattle.base.specs.Bytes.{eql}
use Rattle.text.specs.Items.{edge, item_len, item_end, name_byte, is_name}
use Rattle.text.specs.Decimals.{number_of, positive_of, negative_of, bound_of, is_mag, value_from, digit}
use Rattle.text.specs.Pool.{index_of, first_from}
use Rattle.model.specs.Graph.{value_of, datatype_of, language_of, holds, has_triple}
use Rattle.model.specs.Paths.{ends, ends_of}
use Rattle.model.specs.Shapes as Shapes
use Rattle.model.specs.Shapes.{is_kind, satisfies, subset, none_shared, all_pairs, same_lang, less, less_eq, conforms, expand}
use Rattle.model.specs.Rules.{class_path, selects, violates, violations}
use Rattle.model.specs.Books.{built_in, joins, new_names, new_terms, new_triples, new_shapes, new_rules, collect, names, rules, number_in, sub_class_of, graph_of, schema_from, schema, list_of}
use Rattle.model.specs.Sizes.{path_entries, end_entries, form_entries, shape_paths, test_items, list_items, sum_over, forms_in, paths_in, items_in}
use Rattle.model.specs.Valid.{capacity, has_room, is_resource}
use Rattle.grammar.specs.Valid.{reserved, well_named}
use Rattle.grammar.specs.Reading.{after, used_at, new_at, subject_at, literal_type_at, kind_at, value_at, low_at, high_at, list_at, end_at, arg_at, args_at, close_at, body_at, bracket_at, link_at, true_at, deeper, readers_at, line_room, begun_above, line_at, lines_from, reading}
use Rattle.grammar.specs.Writing.{write_kind}
use Rattle.grammar.specs.Cases.{rig, lists_of}

pub rig-lists : lists_of (reading rig) ≡ (1 ∷ []) ∷ (2 ∷ []) ∷ []
unfolding reading lines_from line_at bracket_at body_at close_at args_at arg_at end_at after readers_at deeper link_at true_at line_room begun_above used_at new_at subject_at literal_type_at kind_at value_at low_at high_at list_at well_named reserved is_name allb name_byte item_end item_len edge eql index_of first_from names built_in collect new_names joins new_terms new_triples new_shapes new_rules rules has_room capacity is_resource forms_in paths_in items_in sum_over path_entries end_entries form_entries shape_paths test_items list_items number_of positive_of negative_of bound_of is_mag value_from digit write_kind some every one size members member anyb value_of datatype_of language_of holds has_triple ends ends_of Shapes.within is_kind satisfies subset none_shared all_pairs same_lang less less_eq conforms expand next_of next_from least_of number_in sub_class_of class_path selects violates violations graph_of schema_from schema list_of
rig-lists = refl
