-- The paths that a book's shapes write, by number. 01: path entries, each PATH, a bare link and a part of another included, in the order
-- in which they end.
use Rattle.std.specs.Prelude.{List, [], ◌∷◌, ◌++◌}
use Rattle.model.specs.Paths.{Path, predicate, inverse, sequence, alternative, zero_or_more, one_or_more, End, self, along}
use Rattle.model.specs.Shapes.{Shape, top, has_shape, has_value, conj, disj, neg, test, count, for_all, equals, disjoint, closed, less_than, less_than_eq, unique_lang}
use Rattle.model.specs.Books.{Book, collect, new_shapes}

-- the parts of a path, and the path after them
unfoldable pub parts_of : Path → List Path
parts_of (predicate p) = predicate p ∷ []
parts_of (inverse e) = parts_of e ++ (inverse e ∷ [])
parts_of (sequence d e) = (parts_of d ++ parts_of e) ++ (sequence d e ∷ [])
parts_of (alternative d e) = (parts_of d ++ parts_of e) ++ (alternative d e ∷ [])
parts_of (zero_or_more e) = parts_of e ++ (zero_or_more e ∷ [])
parts_of (one_or_more e) = parts_of e ++ (one_or_more e ∷ [])

-- those that END, a shape and shapes write
unfoldable pub end_paths : End → List Path
end_paths self = []
end_paths (along e) = parts_of e

unfoldable pub paths_of : Shape → List Path
paths_of top = []
paths_of (has_shape s) = []
paths_of (has_value c) = []
paths_of (conj φ ψ) = paths_of φ ++ paths_of ψ
paths_of (disj φ ψ) = paths_of φ ++ paths_of ψ
paths_of (neg φ) = paths_of φ
paths_of (test t) = []
paths_of (count lo hi e ψ) = parts_of e ++ paths_of ψ
paths_of (for_all e ψ) = parts_of e ++ paths_of ψ
paths_of (equals f p) = end_paths f
paths_of (disjoint f p) = end_paths f
paths_of (closed ps) = []
paths_of (less_than e p) = parts_of e
paths_of (less_than_eq e p) = parts_of e
paths_of (unique_lang e) = parts_of e

unfoldable pub paths_of_all : List Shape → List Path
paths_of_all [] = []
paths_of_all (φ ∷ φs) = paths_of φ ++ paths_of_all φs

-- the paths of a book, by number
unfoldable pub book_paths : Book → List Path
book_paths b = paths_of_all (collect new_shapes b)
