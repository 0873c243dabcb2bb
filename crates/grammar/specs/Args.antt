-- What stands at a place after the word of a bracket: how it is written, and when it is valid.
use Rattle.std.specs.Prelude.{ℕ, List, ◌∷◌, map, Bool, true, false, not, ◌&&◌, eqb, leb, get_or}
use Rattle.base.specs.Range.{in_range}
use Rattle.base.specs.Lists.{allb}
use Rattle.text.specs.Decimals.{decimal, signed}
use Rattle.model.specs.Graph.{iri, lang_string}
use Rattle.model.specs.Limits.{max_count}
use Rattle.model.specs.Books.{Book, nodes, types, collect, new_terms}
use Rattle.model.specs.Valid.{defined, has_room, is_resource, upper_ok, path_ok, end_ok, shape_ok, target_ok}
use Rattle.grammar.specs.Writing.{spaced, write_kind, write_upper, name_of, write_path, write_end, write_shape, write_target}
use Rattle.grammar.specs.Valid.{new_name}
use Rattle.grammar.specs.Syntax.{Slot, used, new, subject, literal_type, kind_word, value, low, high, path, end, form, target, list, Arg}

-- any number of names may stand there
abbrev pub is_list : Slot → Bool
is_list (used p) = false
is_list (new p) = false
is_list subject = false
is_list literal_type = false
is_list kind_word = false
is_list value = false
is_list low = false
is_list high = false
is_list path = false
is_list end = false
is_list form = false
is_list target = false
is_list (list p) = true

module _ (above : Book) where
  -- with the space before it
  abbrev pub write_arg : (k : Slot) → Arg k → List ℕ
  write_arg (used p) a = 32 ∷ name_of above p a
  write_arg (new p) a = 32 ∷ a
  write_arg subject a = 32 ∷ name_of above nodes a
  write_arg literal_type a = 32 ∷ name_of above types a
  write_arg kind_word a = 32 ∷ write_kind a
  write_arg value a = 32 ∷ signed a
  write_arg low a = 32 ∷ decimal a
  write_arg high a = 32 ∷ write_upper a
  write_arg path a = 32 ∷ write_path above a
  write_arg end a = 32 ∷ write_end above a
  write_arg form a = 32 ∷ write_shape above a
  write_arg target a = 32 ∷ write_target above a
  write_arg (list p) a = spaced (map (name_of above p) a)

  abbrev pub arg_ok : (k : Slot) → Arg k → Bool
  arg_ok (used p) a = defined above p a
  arg_ok (new p) a = new_name above p a && has_room above p
  arg_ok subject a = defined above nodes a && is_resource (get_or (collect new_terms above) a iri)
  arg_ok literal_type a = defined above types a && not (eqb a lang_string)
  arg_ok kind_word a = true
  arg_ok value a = in_range a
  arg_ok low a = leb a max_count
  arg_ok high a = upper_ok a
  arg_ok path a = path_ok above a
  arg_ok end a = end_ok above a
  arg_ok form a = shape_ok above a
  arg_ok target a = target_ok above a
  arg_ok (list p) a = allb (defined above p) a
