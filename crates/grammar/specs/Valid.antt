-- When a book is valid: uses, ranges and limits (model, Valid), the spelling of new names, brackets open together, and its length.
use Rattle.std.specs.Prelude.{ℕ, suc, max, [], ◌∷◌, ◌++◌, Bool, true, false, not, ◌&&◌, leb, length}
use Rattle.base.specs.Lists.{anyb}
use Rattle.base.specs.Bytes.{bytes, eql}
use Rattle.text.specs.Items.{is_name}
use Rattle.model.specs.Limits.{max_bytes, max_depth}
use Rattle.model.specs.Paths.{Path, predicate, inverse, sequence, alternative, zero_or_more, one_or_more, End, self, along}
use Rattle.model.specs.Shapes.{Shape, top, has_shape, has_value, conj, disj, neg, test, count, for_all, equals, disjoint, closed, less_than, less_than_eq, unique_lang}
use Rattle.model.specs.Books.{Name, Line, link, type, lang, node, fact, shape, rule, Book, Pool, nodes, links, types, langs, shapes, names}
use Rattle.model.specs.Valid.{line_ok}
use Rattle.grammar.specs.Writing.{render}

-- brackets open together within a path, an END, a shape; its own included
unfoldable pub path_depth : Path → ℕ
path_depth (predicate p) = 0
path_depth (inverse e) = suc (path_depth e)
path_depth (sequence d e) = suc (max (path_depth d) (path_depth e))
path_depth (alternative d e) = suc (max (path_depth d) (path_depth e))
path_depth (zero_or_more e) = suc (path_depth e)
path_depth (one_or_more e) = suc (path_depth e)

unfoldable pub end_depth : End → ℕ
end_depth self = 0
end_depth (along e) = path_depth e

unfoldable pub shape_depth : Shape → ℕ
shape_depth top = 0
shape_depth (has_shape s) = 1
shape_depth (has_value c) = 1
shape_depth (conj φ ψ) = suc (max (shape_depth φ) (shape_depth ψ))
shape_depth (disj φ ψ) = suc (max (shape_depth φ) (shape_depth ψ))
shape_depth (neg φ) = suc (shape_depth φ)
shape_depth (test t) = 1
shape_depth (count lo hi e ψ) = suc (max (path_depth e) (shape_depth ψ))
shape_depth (for_all e ψ) = suc (max (path_depth e) (shape_depth ψ))
shape_depth (equals f p) = suc (end_depth f)
shape_depth (disjoint f p) = suc (end_depth f)
shape_depth (closed ps) = 1
shape_depth (less_than e p) = suc (path_depth e)
shape_depth (less_than_eq e p) = suc (path_depth e)
shape_depth (unique_lang e) = suc (path_depth e)

-- the line's own bracket included
unfoldable pub line_depth : Line → ℕ
line_depth (link n) = 1
line_depth (type n) = 1
line_depth (lang n) = 1
line_depth (node n t) = 1
line_depth (fact t) = 1
line_depth (shape n φ) = suc (shape_depth φ)
line_depth (rule r) = 2

-- `id` is no link's name
unfoldable pub reserved : Pool → Name → Bool
reserved nodes n = false
reserved links n = eql n (bytes "id")
reserved types n = false
reserved langs n = false
reserved shapes n = false

-- of 1 to 31 bytes of a-z, 0-9, _ and -, and free for use in the pool
unfoldable pub well_named : Pool → Name → Bool
well_named p n = is_name n && not (reserved p n)

-- a name new in its pool
unfoldable pub new_name : Book → Pool → Name → Bool
new_name above p n = well_named p n && not (anyb (eql n) (names p above))

unfoldable pub names_ok : Book → Line → Bool
names_ok above (link n) = new_name above links n
names_ok above (type n) = new_name above types n
names_ok above (lang n) = new_name above langs n
names_ok above (node n t) = new_name above nodes n
names_ok above (fact t) = true
names_ok above (shape n φ) = new_name above shapes n
names_ok above (rule r) = true

unfoldable pub valid_line : Book → Line → Bool
valid_line above l = line_ok above l && (names_ok above l && leb (line_depth l) max_depth)

unfoldable pub valid_from : Book → Book → Bool
valid_from above [] = true
valid_from above (l ∷ b) = valid_line above l && valid_from (above ++ (l ∷ [])) b

unfoldable pub valid : Book → Bool
valid b = valid_from [] b && leb (length (render b)) max_bytes
