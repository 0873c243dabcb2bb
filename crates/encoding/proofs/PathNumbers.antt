-- The paths of a book by number: each path entry of its tables, read back.
use Prim.Native.Nat.{ℕ}
use mathlib.Core.List.{List, [], ◌∷◌, ◌++◌, append_assoc, append-nil}
use mathlib.Core.Bool.{true}
use mathlib.Core.Path.{◌≡◌, refl, sym, ap, ◌∙◌, subst}
use native.Mathlib.Omega.{arith}
use lib.ListN.{length, length-append}
use Rattle.model.specs.Paths.{Path, predicate, inverse, sequence, alternative, zero_or_more, one_or_more, End, self, along}
use Rattle.model.specs.Shapes.{Test, node_kind, datatype, language_in, min_inclusive, min_exclusive, max_inclusive, max_exclusive, Shape, top, has_shape, has_value, conj, disj, neg, test, count, for_all, equals, disjoint, closed, less_than, less_than_eq, unique_lang}
use Rattle.model.specs.Books.{Book, collect, new_shapes}
use Rattle.model.specs.PathNumbers.{parts_of, end_paths, paths_of, paths_of_all, book_paths}
use Rattle.model.specs.Valid.{admissible}
use Rattle.model.proofs.PathNumbers.{book_paths-counted}
use Rattle.tables.specs.Layout.{path_count}
use Rattle.tables.specs.Entries.{PathEntry, link, inv, seq, alt, star, plus}
use Rattle.tables.specs.Decode.{path_entry_at, path_at}
use Rattle.encoding.specs.Flatten.{last_number, add_path, Entries, with_path, with_end, add_test, add_shape, add_shapes, no_entries}
use Rattle.encoding.specs.Encode.{entries_of, encode_cells}
use Rattle.base.proofs.Lists.{Extends}
use Rattle.encoding.proofs.Places.{Gives, gives-front, gives-before, by_number-none, by_number_snoc, extends_refl, extends_trans}
use Rattle.encoding.proofs.Counts.{paths-counted}
use Rattle.encoding.proofs.Paths.{path_extends, last_snoc, path_read}
use Rattle.encoding.proofs.Shapes.{grows_shape}
use Rattle.encoding.proofs.Schema.{path_entry-at}

module _ (cs : List ℕ) where
  -- the tables give the paths xs by number, one for each of the entries es
  record Read (es : List PathEntry) (xs : List Path) : Type 0 where
    gives : Gives (path_at cs) xs
    many : length xs ≡ length es

  -- an entry more, which is the path e
  entry_more : (es : List PathEntry) (x : PathEntry) (xs : List Path) (e : Path) → Read es xs → path_at cs (last_number (es ++ (x ∷ []))) ≡ e → Read (es ++ (x ∷ [])) (xs ++ (e ∷ []))
  entry_more es x xs e r h = record {
    gives = by_number_snoc (λ k y. path_at cs k ≡ y) xs e r.gives (ap (path_at cs) (r.many ∙ sym (last_snoc es x)) ∙ h);
    many = omega (arith, r.many, length-append xs (e ∷ []), length-append es (x ∷ []));
  }

  -- the same after those of one part, and of two
  one_more_lem : (es : List PathEntry) (x : PathEntry) (xs ds : List Path) (e : Path) → Read es (xs ++ ds) → path_at cs (last_number (es ++ (x ∷ []))) ≡ e → Read (es ++ (x ∷ [])) (xs ++ (ds ++ (e ∷ [])))
  one_more_lem es x xs ds e r h = subst (Read (es ++ (x ∷ []))) (append_assoc xs ds (e ∷ [])) (entry_more es x (xs ++ ds) e r h)

  two-more : (es : List PathEntry) (x : PathEntry) (xs ds fs : List Path) (e : Path) → Read es ((xs ++ ds) ++ fs) → path_at cs (last_number (es ++ (x ∷ []))) ≡ e → Read (es ++ (x ∷ [])) (xs ++ ((ds ++ fs) ++ (e ∷ [])))
  two-more es x xs ds fs e r h = one_more_lem es x xs (ds ++ fs) e (subst (Read es) (append_assoc xs ds fs) r) h

  parts_read : (e : Path) (es : List PathEntry) (xs : List Path) → Gives (path_entry_at cs) (add_path e es) → Read es xs → Read (add_path e es) (xs ++ parts_of e)
  unfolding add_path parts_of
  parts_read (predicate p) es xs h r = entry_more es (link p) xs (predicate p) r (path_read cs (predicate p) es h)
  parts_read (inverse d) es xs h r = let ds = add_path d es in one_more_lem ds (inv _) xs (parts_of d) (inverse d) (parts_read d es xs (gives-front (path_entry_at cs) ds (inv (last_number ds) ∷ []) h) r) (path_read cs (inverse d) es h)
  parts_read (sequence d e) es xs h r =
      let ds = add_path d es in
      let fs = add_path e ds in
      let f = gives-front (path_entry_at cs) fs (seq (last_number ds) (last_number fs) ∷ []) h in
      two-more fs (seq _ _) xs (parts_of d) (parts_of e) (sequence d e) (parts_read e ds (xs ++ parts_of d) f (parts_read d es xs (gives-before (path_entry_at cs) ds fs (path_extends e ds) f) r)) (path_read cs (sequence d e) es h)
  parts_read (alternative d e) es xs h r =
      let ds = add_path d es in
      let fs = add_path e ds in
      let f = gives-front (path_entry_at cs) fs (alt (last_number ds) (last_number fs) ∷ []) h in
      two-more fs (alt _ _) xs (parts_of d) (parts_of e) (alternative d e) (parts_read e ds (xs ++ parts_of d) f (parts_read d es xs (gives-before (path_entry_at cs) ds fs (path_extends e ds) f) r)) (path_read cs (alternative d e) es h)
  parts_read (zero_or_more d) es xs h r = let ds = add_path d es in one_more_lem ds (star _) xs (parts_of d) (zero_or_more d) (parts_read d es xs (gives-front (path_entry_at cs) ds (star (last_number ds) ∷ []) h) r) (path_read cs (zero_or_more d) es h)
  parts_read (one_or_more d) es xs h r = let ds = add_path d es in one_more_lem ds (plus _) xs (parts_of d) (one_or_more d) (parts_read d es xs (gives-front (path_entry_at cs) ds (plus (last_number ds) ∷ []) h) r) (path_read cs (one_or_more d) es h)

  -- ---- the paths of shapes
  none_more : (es : List PathEntry) (xs : List Path) → Read es xs → Read es (xs ++ [])
  none_more es xs r = subst (Read es) (sym (append-nil xs)) r

  end_read : (f : End) (es : Entries) (xs : List Path) → Gives (path_entry_at cs) (with_end f es).paths → Read es.paths xs → Read (with_end f es).paths (xs ++ end_paths f)
  unfolding with_end end_paths
  end_read self es xs h r = none_more es.paths xs r
  end_read (along e) es xs h r = parts_read e es.paths xs h r

  test_read : (t : Test) (es : Entries) (xs : List Path) → Read es.paths xs → Read (add_test t es).paths (xs ++ [])
  unfolding add_test
  test_read (node_kind k) es xs r = none_more es.paths xs r
  test_read (datatype t) es xs r = none_more es.paths xs r
  test_read (language_in ls) es xs r = none_more es.paths xs r
  test_read (min_inclusive x) es xs r = none_more es.paths xs r
  test_read (min_exclusive x) es xs r = none_more es.paths xs r
  test_read (max_inclusive x) es xs r = none_more es.paths xs r
  test_read (max_exclusive x) es xs r = none_more es.paths xs r

  -- a path and then a shape; a shape and then another
  then_shape : (ψ : Shape) (ps : Entries) (xs ys : List Path) → (Gives (path_entry_at cs) ps.paths → Read ps.paths (xs ++ ys)) → ((zs : List Path) → Gives (path_entry_at cs) (add_shape ψ ps).paths → Read ps.paths zs → Read (add_shape ψ ps).paths (zs ++ paths_of ψ)) → Gives (path_entry_at cs) (add_shape ψ ps).paths → Read (add_shape ψ ps).paths (xs ++ (ys ++ paths_of ψ))
  then_shape ψ ps xs ys first second h = subst (Read (add_shape ψ ps).paths) (append_assoc xs ys (paths_of ψ)) (second (xs ++ ys) h (first (gives-before (path_entry_at cs) ps.paths (add_shape ψ ps).paths (grows_shape ψ ps).paths h)))

  shape_read : (φ : Shape) (es : Entries) (xs : List Path) → Gives (path_entry_at cs) (add_shape φ es).paths → Read es.paths xs → Read (add_shape φ es).paths (xs ++ paths_of φ)
  unfolding add_shape paths_of
  shape_read top es xs h r = none_more es.paths xs r
  shape_read (has_shape s) es xs h r = none_more es.paths xs r
  shape_read (has_value c) es xs h r = none_more es.paths xs r
  shape_read (conj φ ψ) es xs h r = let fs = add_shape φ es in then_shape ψ fs xs (paths_of φ) (λ f. shape_read φ es xs f r) (shape_read ψ fs) h
  shape_read (disj φ ψ) es xs h r = let fs = add_shape φ es in then_shape ψ fs xs (paths_of φ) (λ f. shape_read φ es xs f r) (shape_read ψ fs) h
  shape_read (neg φ) es xs h r = shape_read φ es xs h r
  shape_read (test t) es xs h r = test_read t es xs r
  shape_read (count lo hi e ψ) es xs h r = let ps = with_path e es in then_shape ψ ps xs (parts_of e) (λ f. parts_read e es.paths xs f r) (shape_read ψ ps) h
  shape_read (for_all e ψ) es xs h r = let ps = with_path e es in then_shape ψ ps xs (parts_of e) (λ f. parts_read e es.paths xs f r) (shape_read ψ ps) h
  shape_read (equals f p) es xs h r = end_read f es xs h r
  shape_read (disjoint f p) es xs h r = end_read f es xs h r
  shape_read (closed qs) es xs h r = none_more es.paths xs r
  shape_read (less_than e p) es xs h r = parts_read e es.paths xs h r
  shape_read (less_than_eq e p) es xs h r = parts_read e es.paths xs h r
  shape_read (unique_lang e) es xs h r = parts_read e es.paths xs h r

  shapes_extend : (φs : List Shape) (es : Entries) → Extends es.paths (add_shapes φs es).paths
  unfolding add_shapes
  shapes_extend [] es = extends_refl es.paths
  shapes_extend (φ ∷ φs) es = extends_trans es.paths (add_shape φ es).paths (add_shapes φs (add_shape φ es)).paths (grows_shape φ es).paths (shapes_extend φs (add_shape φ es))

  shapes_read : (φs : List Shape) (es : Entries) (xs : List Path) → Gives (path_entry_at cs) (add_shapes φs es).paths → Read es.paths xs → Read (add_shapes φs es).paths (xs ++ paths_of_all φs)
  unfolding add_shapes paths_of_all
  shapes_read [] es xs h r = none_more es.paths xs r
  shapes_read (φ ∷ φs) es xs h r =
      let fs = add_shape φ es in
      let all = (add_shapes φs fs).paths in
      subst (Read all) (append_assoc xs (paths_of φ) (paths_of_all φs)) (shapes_read φs fs (xs ++ paths_of φ) h (shape_read φ es xs (gives-before (path_entry_at cs) fs.paths all (shapes_extend φs fs) h) r))

-- ---- the tables of a book
pub paths-many : (b : Book) → path_count (encode_cells b) ≡ length (book_paths b)
paths-many b = paths-counted b ∙ sym (book_paths-counted b)

module _ (b : Book) (ok : admissible b ≡ true) where
  all_read : Read (encode_cells b) (entries_of b).paths (book_paths b)
  unfolding entries_of book_paths
  all_read = shapes_read (encode_cells b) (collect new_shapes b) no_entries [] (path_entry-at b ok) (record { gives = by_number-none (λ k y. path_at (encode_cells b) k ≡ y); many = refl })

  -- **each path of the book stands at its number, and there are no others**
  pub paths_read : Gives (path_at (encode_cells b)) (book_paths b)
  paths_read = all_read.gives
