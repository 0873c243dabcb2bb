-- Book B of document 01: its bytes are read as the book B over which its cases are proved.
use mathlib.Core.Path.{◌≡◌, refl, sym, ap, ◌∙◌}
use mathlib.Core.Bool.{true}
use Rattle.base.specs.Range.{in_range}
use Rattle.base.specs.Lists.{anyb, allb}
use Rattle.base.specs.Bytes.{eql}
use Rattle.text.specs.Items.{name_byte, is_name}
use Rattle.text.specs.Decimals.{signed, decimal, digits_of}
use Rattle.model.specs.Answers.{value}
use Rattle.model.specs.Books.{built_in, joins, new_names, new_terms, new_triples, new_shapes, new_rules, collect, names, rules}
use Rattle.model.specs.Sizes.{path_entries, end_entries, form_entries, shape_paths, list_items, sum_over, forms_in, paths_in, items_in}
use Rattle.model.specs.Valid.{capacity, is_resource, defined, has_room, term_ok, fact_ok, path_ok, end_ok, shape_ok, target_ok, entries_fit, line_ok}
use Rattle.model.specs.Cases.{book_b}
use Rattle.grammar.specs.Writing.{spaced, bracket, name_of, write_path, write_end, write_shape, write_target, write_node, write_line, render_from, render}
use Rattle.grammar.specs.Valid.{path_depth, end_depth, shape_depth, line_depth, reserved, well_named, new_name, names_ok, valid_line, valid_from, valid}
use Rattle.grammar.specs.Reading.{reading}
use Rattle.grammar.specs.Cases.{text_b}
use Rattle.grammar.proofs.Books.{reading_complete}

pub b-written : render book_b ≡ text_b
unfolding render render_from write_line write_node write_shape write_target write_end write_path name_of bracket spaced signed decimal digits_of names built_in collect new_names joins
b-written = refl

pub b-valid : valid book_b ≡ true
unfolding valid valid_from valid_line names_ok new_name well_named reserved is_name name_byte anyb allb eql line_depth shape_depth end_depth path_depth line_ok has_room capacity term_ok fact_ok shape_ok end_ok path_ok target_ok entries_fit defined in_range is_resource names built_in collect new_names joins new_terms new_triples new_shapes new_rules rules forms_in paths_in items_in sum_over path_entries end_entries form_entries shape_paths list_items render render_from write_line write_node write_shape write_target write_end write_path name_of bracket spaced signed decimal digits_of
b-valid = refl

pub b_read : reading text_b ≡ value book_b
b_read = ap reading (sym b-written) ∙ reading_complete book_b b-valid
