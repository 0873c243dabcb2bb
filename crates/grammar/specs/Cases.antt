-- Texts and what they are read as: book B of document 01, and its edges.
use Rattle.std.specs.Prelude.{ℕ, zero, suc, List, [], ◌∷◌, ◌++◌, map, pos, negsuc}
use Prim.Native.String.{String}
use Rattle.base.specs.Bytes.{bytes}
use Rattle.model.specs.Answers.{Answer, value, refusal}
use Rattle.model.specs.Graph.{iri, numeric}
use Rattle.model.specs.Paths.{Path, predicate, inverse, sequence, zero_or_more, one_or_more}
use Rattle.model.specs.Shapes.{top, neg, unique_lang}
use Rattle.model.specs.Books.{Book, type, node, shape, rules, list_of}

-- lines, each ended by LF
abbrev pub text_of : List String → List ℕ
text_of [] = []
text_of (l ∷ ls) = bytes l ++ (10 ∷ text_of ls)

-- ---- book B
abbrev pub text_b : List ℕ
text_b =
    text_of
    ("(link mount)"
    ∷ "(link twin)"
    ∷ "(type mm)"
    ∷ "(thing left)"
    ∷ "(thing right)"
    ∷ "(number h240 mm 240)"
    ∷ "(number h215 mm 215)"
    ∷ "(fact left mount h240)"
    ∷ "(fact right mount h215)"
    ∷ "(fact left twin right)"
    ∷ "(shape level (equal (seq twin mount) mount))"
    ∷ "(rule level (subjects twin))"
    ∷ [])

-- ---- edges
pub record Case : Type 0 where
  pub text : List ℕ
  pub answer : Answer Book

abbrev pub reads : List String → Book → Case
reads ls b = record { text = text_of ls; answer = value b }

abbrev pub gives : List String → ℕ → ℕ → Case
gives ls r line = record { text = text_of ls; answer = refusal r line }

-- n brackets of a word, one in the other, w in the innermost; and what they mean, f put n times to x
abbrev pub nested : String → ℕ → List ℕ → List ℕ
nested word zero w = w
nested word (suc n) w = 40 ∷ (bytes word ++ (32 ∷ (nested word n w ++ (41 ∷ []))))

abbrev pub iterate : {A : Type 0} → (A → A) → ℕ → A → A
iterate f zero x = x
iterate f (suc n) x = f (iterate f n x)

abbrev pub shape_line : List ℕ → List ℕ
shape_line w = bytes "(shape x " ++ (w ++ (bytes ")" ++ (10 ∷ [])))

-- a path in a shape
abbrev pub path_line : List ℕ → List ℕ
path_line w = shape_line (bytes "(onelang " ++ (w ++ bytes ")"))

abbrev pub reads_path : List ℕ → Path → Case
reads_path w e = record { text = path_line w; answer = value (shape (bytes "x") (unique_lang e) ∷ []) }

abbrev pub gives_path : List ℕ → ℕ → Case
gives_path w r = record { text = path_line w; answer = refusal r 1 }

abbrev pub edges : List Case
edges =
    reads ("(type mm)" ∷ "(number x mm 9223372036854775807)" ∷ []) (type (bytes "mm") ∷ node (bytes "x") (numeric 1 (pos 9223372036854775807)) ∷ [])
    ∷ gives ("(type mm)" ∷ "(number x mm 9223372036854775808)" ∷ []) 3 2
    ∷ reads ("(type mm)" ∷ "(number x mm -9223372036854775808)" ∷ []) (type (bytes "mm") ∷ node (bytes "x") (numeric 1 (negsuc 9223372036854775807)) ∷ [])
    ∷ gives ("(type mm)" ∷ "(number x mm -9223372036854775809)" ∷ []) 3 2
    ∷ gives ("(type mm)" ∷ "(number x mm -0)" ∷ []) 2 2
    ∷ gives ("(type mm)" ∷ "(number x mm +1)" ∷ []) 2 2
    ∷ gives ("(type mm)" ∷ "(number x mm 01)" ∷ []) 2 2
    ∷ reads ("(thing abcdefghijklmnopqrstuvwxyz12345)" ∷ []) (node (bytes "abcdefghijklmnopqrstuvwxyz12345") iri ∷ [])
    ∷ gives ("(thing abcdefghijklmnopqrstuvwxyz123456)" ∷ []) 2 1
    ∷ gives ("(link mount)" ∷ "(thing left)" ∷ "(fact left mount h999)" ∷ []) 5 3
    ∷ gives ("(thing left)" ∷ "(thing left)" ∷ []) 6 2
    -- 32 brackets open together, and 33
    ∷ record { text = shape_line (nested "not" 31 (bytes "true")); answer = value (shape (bytes "x") (iterate neg 31 top) ∷ []) }
    ∷ record { text = shape_line (nested "not" 32 (bytes "true")); answer = refusal 4 1 }
    ∷ reads_path (nested "inv" 30 (bytes "a")) (iterate inverse 30 (predicate 0))
    ∷ gives_path (nested "inv" 31 (bytes "a")) 4
    -- document 02, Job 1
    ∷ reads_path (nested "star" 30 (bytes "a")) (iterate zero_or_more 30 (predicate 0))
    ∷ gives_path (nested "star" 31 (bytes "a")) 4
    ∷ reads_path (bytes "(plus (seq (star a) a))") (one_or_more (sequence (zero_or_more (predicate 0)) (predicate 0)))
    ∷ gives_path (bytes "(star)") 2
    ∷ gives_path (bytes "(plus a a)") 2
    ∷ gives_path (bytes "(star id)") 2
    ∷ []

-- ---- the rig of docs/BOOK.md: its nodes 1 and 2 are left and right
abbrev pub rig : List ℕ
rig =
    text_of
    ("(link mount)"
    ∷ "(link feeds)"
    ∷ "(link twin)"
    ∷ "(link label)"
    ∷ "(type mm)"
    ∷ "(lang en)"
    ∷ "(lang nl)"
    ∷ "(thing projector)"
    ∷ "(thing left)"
    ∷ "(thing right)"
    ∷ "(thing cable-1)"
    ∷ "(number h240 mm 240)"
    ∷ "(number h215 mm 215)"
    ∷ "(words front en)"
    ∷ "(words voor nl)"
    ∷ "(fact left a projector)"
    ∷ "(fact right a projector)"
    ∷ "(fact left mount h240)"
    ∷ "(fact right mount h215)"
    ∷ "(fact left twin right)"
    ∷ "(fact cable-1 feeds left)"
    ∷ "(fact left label front)"
    ∷ "(fact left label voor)"
    ∷ "(shape level (equal (seq twin mount) mount))"
    ∷ "(shape mounted (count 1 1 mount (and (datatype mm) (from 0))))"
    ∷ "(shape fed (count 1 * (inv feeds) (kind thing)))"
    ∷ "(shape ready (and (shape mounted) (and (shape fed) (onelang label))))"
    ∷ "(rule level (subjects twin))"
    ∷ "(rule ready (class projector))"
    ∷ [])

-- the rules' lists of what was read
abbrev pub lists_of : Answer Book → List (List ℕ)
lists_of (value b) = map (list_of b) (rules b)
lists_of (refusal r line) = []
