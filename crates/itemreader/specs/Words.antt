-- The families of words that are looked up, each word at its number.
use Rattle.std.specs.Prelude.{ℕ, List, [], ◌∷◌, map}
use Rattle.model.specs.Shapes.{an_iri, a_blank, a_literal}
use Rattle.grammar.specs.Writing.{write_kind}
use Rattle.grammar.specs.Syntax.{Family, path_family, form_family, target_family, line_family}
use Rattle.itemreader.specs.declared.words.Family as code

-- how many words each family has
abbrev pub path_words : ℕ
path_words = 5

abbrev pub form_words : ℕ
form_words = 20

abbrev pub target_words : ℕ
target_words = 4

abbrev pub line_words : ℕ
line_words = 11

abbrev pub kind_words : ℕ
kind_words = 3

-- the words of a family of brackets
unfoldable pub words_of : {A : Type 0} → Family A → List (List ℕ)
words_of F = map F.word F.codes

-- the words for the kinds
abbrev pub kinds : List (List ℕ)
kinds = map write_kind (an_iri ∷ a_blank ∷ a_literal ∷ [])

-- the words of the family that the code names, and how many there are
abbrev pub words_in : code.Family → List (List ℕ)
words_in code.Family.Paths = words_of path_family
words_in code.Family.Forms = words_of form_family
words_in code.Family.Targets = words_of target_family
words_in code.Family.Lines = words_of line_family
words_in code.Family.Kinds = kinds

abbrev pub word_count : code.Family → ℕ
word_count code.Family.Paths = path_words
word_count code.Family.Forms = form_words
word_count code.Family.Targets = target_words
word_count code.Family.Lines = line_words
word_count code.Family.Kinds = kind_words
