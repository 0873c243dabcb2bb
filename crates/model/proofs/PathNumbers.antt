-- The paths of a book are as many as its path entries are counted to be.
use mathlib.Core.List.{List, [], ◌∷◌, ◌++◌}
use mathlib.Core.Path.{◌≡◌, refl}
use native.Mathlib.Omega.{arith}
use lib.ListN.{length, length-append}
use Rattle.model.specs.Paths.{Path, predicate, inverse, sequence, alternative, zero_or_more, one_or_more, End, self, along}
use Rattle.model.specs.Shapes.{Shape, top, has_shape, has_value, conj, disj, neg, test, count, for_all, equals, disjoint, closed, less_than, less_than_eq, unique_lang}
use Rattle.model.specs.Books.{Book, collect, new_shapes}
use Rattle.model.specs.Sizes.{path_entries, end_entries, shape_paths, sum_over, paths_in}
use Rattle.model.specs.PathNumbers.{parts_of, end_paths, paths_of, paths_of_all, book_paths}

parts-counted : (e : Path) → length (parts_of e) ≡ path_entries e
unfolding parts_of path_entries
parts-counted (predicate p) = refl
parts-counted (inverse e) = omega (arith, parts-counted e, length-append (parts_of e) (inverse e ∷ []))
parts-counted (sequence d e) = omega (arith, parts-counted d, parts-counted e, length-append (parts_of d) (parts_of e), length-append (parts_of d ++ parts_of e) (sequence d e ∷ []))
parts-counted (alternative d e) = omega (arith, parts-counted d, parts-counted e, length-append (parts_of d) (parts_of e), length-append (parts_of d ++ parts_of e) (alternative d e ∷ []))
parts-counted (zero_or_more e) = omega (arith, parts-counted e, length-append (parts_of e) (zero_or_more e ∷ []))
parts-counted (one_or_more e) = omega (arith, parts-counted e, length-append (parts_of e) (one_or_more e ∷ []))

end-counted : (f : End) → length (end_paths f) ≡ end_entries f
unfolding end_paths end_entries
end-counted self = refl
end-counted (along e) = parts-counted e

paths-counted : (φ : Shape) → length (paths_of φ) ≡ shape_paths φ
unfolding paths_of shape_paths
paths-counted top = refl
paths-counted (has_shape s) = refl
paths-counted (has_value c) = refl
paths-counted (conj φ ψ) = omega (arith, paths-counted φ, paths-counted ψ, length-append (paths_of φ) (paths_of ψ))
paths-counted (disj φ ψ) = omega (arith, paths-counted φ, paths-counted ψ, length-append (paths_of φ) (paths_of ψ))
paths-counted (neg φ) = paths-counted φ
paths-counted (test t) = refl
paths-counted (count lo hi e ψ) = omega (arith, parts-counted e, paths-counted ψ, length-append (parts_of e) (paths_of ψ))
paths-counted (for_all e ψ) = omega (arith, parts-counted e, paths-counted ψ, length-append (parts_of e) (paths_of ψ))
paths-counted (equals f p) = end-counted f
paths-counted (disjoint f p) = end-counted f
paths-counted (closed ps) = refl
paths-counted (less_than e p) = parts-counted e
paths-counted (less_than_eq e p) = parts-counted e
paths-counted (unique_lang e) = parts-counted e

all-counted : (φs : List Shape) → length (paths_of_all φs) ≡ sum_over shape_paths φs
unfolding paths_of_all sum_over
all-counted [] = refl
all-counted (φ ∷ φs) = omega (arith, paths-counted φ, all-counted φs, length-append (paths_of φ) (paths_of_all φs))

pub book_paths-counted : (b : Book) → length (book_paths b) ≡ paths_in b
unfolding book_paths paths_in
book_paths-counted b = all-counted (collect new_shapes b)
