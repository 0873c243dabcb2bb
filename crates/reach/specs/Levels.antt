-- One round of a search over the rows of a relation between nodes.
use Rattle.std.specs.Prelude.{ℕ, List}
use Rattle.nodeset.specs.Words.{has, words_of}
use Rattle.closure.specs.Rows.{leads}
use Rattle.paths.specs.Images.{image}

-- where the rows lead from the members of a set below n, in words
abbrev pub image_words : List ℕ → ℕ → List ℕ → List ℕ
image_words rows n set = words_of (image n (leads rows) (has set)) 16
