-- What the reader stores for a path and for a shape, entry by entry as they end.
-- n: how many form entries, path entries and list items have ended before.
use Rattle.std.specs.Prelude.{ℕ, ◌+◌, ◌-◌, List, [], ◌∷◌, length, set, ℤ}
use Rattle.model.specs.Paths.{Path, predicate, inverse, sequence, alternative, zero_or_more, one_or_more, End, self, along}
use Rattle.model.specs.Shapes.{Test, node_kind, datatype, language_in, min_inclusive, min_exclusive, max_inclusive, max_exclusive, Shape, top, has_shape, has_value, conj, disj, neg, test, count, for_all, equals, disjoint, closed, less_than, less_than_eq, unique_lang}
use Rattle.model.specs.Sizes.{path_entries}
use Rattle.tables.specs.Layout.{no_number, path_codes, path_firsts, path_seconds, form_codes, form_firsts, form_seconds, form_thirds, form_fourths, items, form_values}
use Rattle.tables.specs.Codes as codes
use Rattle.encoding.specs.Flatten.{kind_code, upper_number}
use Rattle.grammar.specs.Syntax.{path, end, form}
use Rattle.grammar.specs.Reading.{Begun, after}

-- path entry e
unfoldable pub put_path : ℕ → ℕ → ℕ → ℕ → List ℕ → List ℕ
put_path e code a b cs = set (set (set cs (path_codes + e) code) (path_firsts + e) a) (path_seconds + e) b

-- form entry e
unfoldable pub put_form : ℕ → ℕ → ℕ → ℕ → ℕ → ℕ → List ℕ → List ℕ
put_form e code a b c d cs = set (set (set (set (set cs (form_codes + e) code) (form_firsts + e) a) (form_seconds + e) b) (form_thirds + e) c) (form_fourths + e) d

-- list items from number i on
unfoldable pub put_items : ℕ → List ℕ → List ℕ → List ℕ
put_items i [] cs = cs
put_items i (k ∷ ks) cs = put_items (i + 1) ks (set cs (items + i) k)

-- a path after n path entries
unfoldable pub path_cells : ℕ → Path → List ℕ → List ℕ
path_cells n (predicate p) cs = put_path n codes.path_link p 0 cs
path_cells n (inverse e) cs = let m = n + path_entries e in put_path m codes.path_inv (m - 1) 0 (path_cells n e cs)
path_cells n (sequence d e) cs = let m = n + path_entries d in let l = m + path_entries e in put_path l codes.path_seq (m - 1) (l - 1) (path_cells m e (path_cells n d cs))
path_cells n (alternative d e) cs = let m = n + path_entries d in let l = m + path_entries e in put_path l codes.path_alt (m - 1) (l - 1) (path_cells m e (path_cells n d cs))
path_cells n (zero_or_more e) cs = let m = n + path_entries e in put_path m codes.path_star (m - 1) 0 (path_cells n e cs)
path_cells n (one_or_more e) cs = let m = n + path_entries e in put_path m codes.path_plus (m - 1) 0 (path_cells n e cs)

unfoldable pub end_cells : ℕ → End → List ℕ → List ℕ
end_cells n self cs = cs
end_cells n (along e) cs = path_cells n e cs

-- the number by which an entry names its END, where n path entries have ended with it
unfoldable pub end_operand : ℕ → End → ℕ
end_operand n self = no_number
end_operand n (along e) = n - 1

unfoldable pub test_cells : Begun → Test → List ℕ → List ℕ
test_cells n (node_kind k) cs = put_form n.forms codes.form_kind (kind_code k) 0 0 0 cs
test_cells n (datatype t) cs = put_form n.forms codes.form_datatype t 0 0 0 cs
test_cells n (language_in ls) cs = put_form n.forms codes.form_lang n.items (length ls) 0 0 (put_items n.items ls cs)
test_cells n (min_inclusive x) cs = put_form n.forms codes.form_from 0 0 0 0 cs
test_cells n (min_exclusive x) cs = put_form n.forms codes.form_above 0 0 0 0 cs
test_cells n (max_inclusive x) cs = put_form n.forms codes.form_to 0 0 0 0 cs
test_cells n (max_exclusive x) cs = put_form n.forms codes.form_below 0 0 0 0 cs

-- a shape: after f and after p are the numbers that have ended with its parts
unfoldable pub shape_cells : Begun → Shape → List ℕ → List ℕ
shape_cells n top cs = put_form n.forms codes.form_true 0 0 0 0 cs
shape_cells n (has_value c) cs = put_form n.forms codes.form_is c 0 0 0 cs
shape_cells n (has_shape s) cs = put_form n.forms codes.form_shape s 0 0 0 cs
shape_cells n (conj φ ψ) cs = let m = after form φ n in let l = after form ψ m in put_form l.forms codes.form_and (m.forms - 1) (l.forms - 1) 0 0 (shape_cells m ψ (shape_cells n φ cs))
shape_cells n (disj φ ψ) cs = let m = after form φ n in let l = after form ψ m in put_form l.forms codes.form_or (m.forms - 1) (l.forms - 1) 0 0 (shape_cells m ψ (shape_cells n φ cs))
shape_cells n (neg φ) cs = let m = after form φ n in put_form m.forms codes.form_not (m.forms - 1) 0 0 0 (shape_cells n φ cs)
shape_cells n (test t) cs = test_cells n t cs
shape_cells n (count lo hi e ψ) cs = let m = after path e n in let l = after form ψ m in put_form l.forms codes.form_count (m.paths - 1) (l.forms - 1) lo (upper_number hi) (shape_cells m ψ (path_cells n.paths e cs))
shape_cells n (for_all e ψ) cs = let m = after path e n in let l = after form ψ m in put_form l.forms codes.form_all (m.paths - 1) (l.forms - 1) 0 0 (shape_cells m ψ (path_cells n.paths e cs))
shape_cells n (equals f p) cs = let m = after end f n in put_form n.forms codes.form_equal (end_operand m.paths f) p 0 0 (end_cells n.paths f cs)
shape_cells n (disjoint f p) cs = let m = after end f n in put_form n.forms codes.form_apart (end_operand m.paths f) p 0 0 (end_cells n.paths f cs)
shape_cells n (closed ps) cs = put_form n.forms codes.form_closed n.items (length ps) 0 0 (put_items n.items ps cs)
shape_cells n (less_than e p) cs = let m = after path e n in put_form n.forms codes.form_less (m.paths - 1) p 0 0 (path_cells n.paths e cs)
shape_cells n (less_than_eq e p) cs = let m = after path e n in put_form n.forms codes.form_lesseq (m.paths - 1) p 0 0 (path_cells n.paths e cs)
shape_cells n (unique_lang e) cs = let m = after path e n in put_form n.forms codes.form_onelang (m.paths - 1) 0 0 0 (path_cells n.paths e cs)

-- V of form entry e
unfoldable pub put_value : ℕ → ℤ → List ℤ → List ℤ
put_value e x vs = set vs (form_values + e) x

unfoldable pub test_values : Begun → Test → List ℤ → List ℤ
test_values n (node_kind k) vs = vs
test_values n (datatype t) vs = vs
test_values n (language_in ls) vs = vs
test_values n (min_inclusive x) vs = put_value n.forms x vs
test_values n (min_exclusive x) vs = put_value n.forms x vs
test_values n (max_inclusive x) vs = put_value n.forms x vs
test_values n (max_exclusive x) vs = put_value n.forms x vs

unfoldable pub shape_values : Begun → Shape → List ℤ → List ℤ
shape_values n top vs = vs
shape_values n (has_value c) vs = vs
shape_values n (has_shape s) vs = vs
shape_values n (conj φ ψ) vs = shape_values (after form φ n) ψ (shape_values n φ vs)
shape_values n (disj φ ψ) vs = shape_values (after form φ n) ψ (shape_values n φ vs)
shape_values n (neg φ) vs = shape_values n φ vs
shape_values n (test t) vs = test_values n t vs
shape_values n (count lo hi e ψ) vs = shape_values (after path e n) ψ vs
shape_values n (for_all e ψ) vs = shape_values (after path e n) ψ vs
shape_values n (equals f p) vs = vs
shape_values n (disjoint f p) vs = vs
shape_values n (closed ps) vs = vs
shape_values n (less_than e p) vs = vs
shape_values n (less_than_eq e p) vs = vs
shape_values n (unique_lang e) vs = vs
