-- The numbers that stand in the tables for a term, a path entry, a form entry and a target.
use Rattle.std.specs.Prelude.{ℕ, ℤ, pos}
use Rattle.model.specs.Graph.{Term, iri, blank_node, numeric, plain, tagged, lang_string}
use Rattle.model.specs.Rules.{Target, target_node, subjects_of, objects_of, target_class}
use Rattle.tables.specs.Codes as codes
use Rattle.tables.specs.Entries.{PathEntry, link, inv, seq, alt, star, plus, Entry}

pub record NodeRow : Type 0 where
  pub kind : ℕ
  pub type : ℕ
  pub lang : ℕ
  pub value : ℤ

-- thing, blank, number, text, words
unfoldable pub node_row : Term → NodeRow
node_row iri = record { kind = codes.node_thing; type = 0; lang = 0; value = pos 0 }
node_row blank_node = record { kind = codes.node_blank; type = 0; lang = 0; value = pos 0 }
node_row (numeric t x) = record { kind = codes.node_number; type = t; lang = 0; value = x }
node_row (plain t) = record { kind = codes.node_text; type = t; lang = 0; value = pos 0 }
node_row (tagged l) = record { kind = codes.node_words; type = lang_string; lang = l; value = pos 0 }

pub record PathRow : Type 0 where
  pub code : ℕ
  pub first : ℕ
  pub second : ℕ

unfoldable pub path_row : PathEntry → PathRow
path_row (link p) = record { code = codes.path_link; first = p; second = 0 }
path_row (inv a) = record { code = codes.path_inv; first = a; second = 0 }
path_row (seq a b) = record { code = codes.path_seq; first = a; second = b }
path_row (alt a b) = record { code = codes.path_alt; first = a; second = b }
path_row (star a) = record { code = codes.path_star; first = a; second = 0 }
path_row (plus a) = record { code = codes.path_plus; first = a; second = 0 }
path_row PathEntry.bad = record { code = codes.path_unknown; first = 0; second = 0 }

pub record FormRow : Type 0 where
  pub code : ℕ
  pub first : ℕ
  pub second : ℕ
  pub third : ℕ
  pub fourth : ℕ
  pub value : ℤ

-- an entry without LO, HI and V; one with V alone
unfoldable pub plain_row : ℕ → ℕ → ℕ → FormRow
plain_row code a b = record { code = code; first = a; second = b; third = 0; fourth = 0; value = pos 0 }

unfoldable pub value_row : ℕ → ℤ → FormRow
value_row code x = record { code = code; first = 0; second = 0; third = 0; fourth = 0; value = x }

unfoldable pub form_row : Entry → FormRow
form_row Entry.top = plain_row codes.form_true 0 0
form_row (Entry.is c) = plain_row codes.form_is c 0
form_row (Entry.shape s) = plain_row codes.form_shape s 0
form_row (Entry.conj a b) = plain_row codes.form_and a b
form_row (Entry.disj a b) = plain_row codes.form_or a b
form_row (Entry.neg a) = plain_row codes.form_not a 0
form_row (Entry.kind k) = plain_row codes.form_kind k 0
form_row (Entry.datatype t) = plain_row codes.form_datatype t 0
form_row (Entry.lang i n) = plain_row codes.form_lang i n
form_row (Entry.from x) = value_row codes.form_from x
form_row (Entry.above x) = value_row codes.form_above x
form_row (Entry.to x) = value_row codes.form_to x
form_row (Entry.under x) = value_row codes.form_below x
form_row (Entry.count p a lo hi) = record { code = codes.form_count; first = p; second = a; third = lo; fourth = hi; value = pos 0 }
form_row (Entry.all p a) = plain_row codes.form_all p a
form_row (Entry.equal f p) = plain_row codes.form_equal f p
form_row (Entry.apart f p) = plain_row codes.form_apart f p
form_row (Entry.closed i n) = plain_row codes.form_closed i n
form_row (Entry.less e p) = plain_row codes.form_less e p
form_row (Entry.lesseq e p) = plain_row codes.form_lesseq e p
form_row (Entry.onelang e) = plain_row codes.form_onelang e 0
form_row Entry.bad = plain_row codes.form_unknown 0 0

-- node, subjects, objects, class
unfoldable pub target_code : Target → ℕ
target_code (target_node c) = codes.target_node
target_code (subjects_of p) = codes.target_subjects
target_code (objects_of p) = codes.target_objects
target_code (target_class c) = codes.target_class

unfoldable pub target_operand : Target → ℕ
target_operand (target_node c) = c
target_operand (subjects_of p) = p
target_operand (objects_of p) = p
target_operand (target_class c) = c
