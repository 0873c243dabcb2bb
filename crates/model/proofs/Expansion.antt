-- Document 01's `(shape S)`. The shapes of a book's schema are expanded, each by those of the lines above it: no shape name is
-- left in them, and a node conforms to a shape name of a line exactly when it conforms to the shape of that name.
use Prim.Native.Nat.{ℕ, ◌+◌}
use mathlib.Core.List.{List, [], ◌∷◌, ◌++◌, map, append-nil, append_assoc}
use mathlib.Core.Bool.{true, true≢false}
use mathlib.Core.Path.{◌≡◌, refl, sym, ap, ap₂, ◌∙◌}
use native.Mathlib.Omega.{arith}
use lib.ListN.{length, length-append, length-map, get_or-append}
use lib.Seq.{get_or-append_seam}
use borrow.Author.Tests.{ltb-true}
use Rattle.base.specs.Lists.{allb}
use Rattle.base.proofs.Bools.{and_left, and_right, and_both}
use Rattle.base.proofs.Lists.{allb_append, allb_default, allb_map, Extends}
use Rattle.model.specs.Shapes.{Shape, top, has_shape, has_value, conj, disj, neg, test, count, for_all, equals, disjoint, closed, less_than, less_than_eq, unique_lang, conforms, def, expand, nameless}
use Rattle.model.specs.Books.{Book, shape, Name, shapes, new_shapes, collect, names, graph_of, schema_from, schema, conforms_in}
use Rattle.model.specs.Valid.{defined}
use Rattle.model.proofs.Lines.{shapes_counted}

-- ---- no shape name is left
-- what is expanded by shapes without names has none: a name past the end of H is replaced by ⊤
nameless-expand : (H : List Shape) → allb nameless H ≡ true → (φ : Shape) → nameless (expand H φ) ≡ true
unfolding expand nameless
nameless-expand H h top = refl
nameless-expand H h (has_shape s) = allb_default nameless H top h refl s
nameless-expand H h (has_value c) = refl
nameless-expand H h (conj φ ψ) = and_both (nameless (expand H φ)) (nameless (expand H ψ)) (nameless-expand H h φ) (nameless-expand H h ψ)
nameless-expand H h (disj φ ψ) = and_both (nameless (expand H φ)) (nameless (expand H ψ)) (nameless-expand H h φ) (nameless-expand H h ψ)
nameless-expand H h (neg φ) = nameless-expand H h φ
nameless-expand H h (test t) = refl
nameless-expand H h (count lo hi e ψ) = nameless-expand H h ψ
nameless-expand H h (for_all e ψ) = nameless-expand H h ψ
nameless-expand H h (equals f p) = refl
nameless-expand H h (disjoint f p) = refl
nameless-expand H h (closed ps) = refl
nameless-expand H h (less_than e p) = refl
nameless-expand H h (less_than_eq e p) = refl
nameless-expand H h (unique_lang e) = refl

nameless-from : (b : Book) (H : List Shape) → allb nameless H ≡ true → allb nameless (schema_from H b) ≡ true
unfolding schema_from
nameless-from [] H h = h
nameless-from (l ∷ b) H h =
    let more = map (expand H) (new_shapes l) in
    nameless-from b (H ++ more) (allb_append nameless H more ∙ and_both (allb nameless H) (allb nameless more) h (allb_map (expand H) nameless (new_shapes l) (nameless-expand H h)))

-- No shape of a book's schema has a shape name in it; for every book, valid or not.
pub schema-nameless : (b : Book) → allb nameless (schema b) ≡ true
unfolding schema allb
schema-nameless b = nameless-from b [] refl

-- a shape without names is what it was after any expansion
expand-nameless : (H : List Shape) (φ : Shape) → nameless φ ≡ true → expand H φ ≡ φ
unfolding expand nameless
expand-nameless H top e = refl
expand-nameless H (has_shape s) e = absurd (true≢false (sym e))
expand-nameless H (has_value c) e = refl
expand-nameless H (conj φ ψ) e = ap₂ conj (expand-nameless H φ (and_left _ _ e)) (expand-nameless H ψ (and_right (nameless φ) _ e))
expand-nameless H (disj φ ψ) e = ap₂ disj (expand-nameless H φ (and_left _ _ e)) (expand-nameless H ψ (and_right (nameless φ) _ e))
expand-nameless H (neg φ) e = ap neg (expand-nameless H φ e)
expand-nameless H (test t) e = refl
expand-nameless H (count lo hi d ψ) e = ap (count lo hi d) (expand-nameless H ψ e)
expand-nameless H (for_all d ψ) e = ap (for_all d) (expand-nameless H ψ e)
expand-nameless H (equals f p) e = refl
expand-nameless H (disjoint f p) e = refl
expand-nameless H (closed ps) e = refl
expand-nameless H (less_than d p) e = refl
expand-nameless H (less_than_eq d p) e = refl
expand-nameless H (unique_lang d) e = refl

-- Whatever shapes H the names are said to stand for, a shape of the book means the same: what a shape name means to
-- `conforms` has no part in it.
pub names_unused : (b : Book) (H : List Shape) (s : ℕ) → expand H (def (schema b) s) ≡ def (schema b) s
unfolding nameless
names_unused b H s = expand-nameless H (def (schema b) s) (allb_default nameless (schema b) top (schema-nameless b) refl s)

-- ---- the schema, line by line
schema-from : (a c : Book) (H : List Shape) → schema_from H (a ++ c) ≡ schema_from (schema_from H a) c
unfolding schema_from
schema-from [] c H = refl
schema-from (l ∷ a) c H = schema-from a c (H ++ map (expand H) (new_shapes l))

-- more lines, expanded by the shapes above them
pub schema_append : (a c : Book) → schema (a ++ c) ≡ schema_from (schema a) c
unfolding schema
schema_append a c = schema-from a c []

-- shapes keep their numbers
schema_extends : (b : Book) (H : List Shape) → Extends H (schema_from H b)
unfolding schema_from
schema_extends [] H = ([], sym (append-nil H))
schema_extends (l ∷ b) H =
    let more = map (expand H) (new_shapes l) in
    let (t, e) = schema_extends b (H ++ more) in
    (more ++ t, e ∙ append_assoc H more t)

schema-length : (b : Book) (H : List Shape) → length (schema_from H b) ≡ length H + length (collect new_shapes b)
unfolding schema_from collect
schema-length [] H = omega arith
schema-length (l ∷ b) H =
    let more = map (expand H) (new_shapes l) in
    omega (arith, schema-length b (H ++ more), length-append H more, length-map (new_shapes l) (expand H), length-append (new_shapes l) (collect new_shapes b))

-- as many shapes as shape names
pub schema-names : (b : Book) → length (schema b) ≡ length (names shapes b)
unfolding schema
schema-names b = omega (arith, schema-length b [], shapes_counted b)

-- ---- a shape name means the shape of that name
module _ (above : Book) where
  -- a shape named on the lines above is the same in the whole book
  pub shape-above : (below : Book) (s : ℕ) → defined above shapes s ≡ true → def (schema (above ++ below)) s ≡ def (schema above) s
  unfolding defined
  shape-above below s d =
      let (t, e) = schema_extends below (schema above) in
      ap (λ (H : List Shape). def H s) (schema_append above below ∙ e)
      ∙ get_or-append (schema above) t top s (omega (arith, ltb-true s (length (names shapes above)) d, schema-names above))

  -- the shape of a line has the next number, and is the line's form, expanded by the shapes above it
  pub shape_here : (n : Name) (φ : Shape) (below : Book) → def (schema (above ++ (shape n φ ∷ below))) (length (names shapes above)) ≡ expand (schema above) φ
  unfolding schema_from new_shapes
  shape_here n φ below =
      let H = schema above in
      let (t, e) = schema_extends below (H ++ (expand H φ ∷ [])) in
      ap (λ (G : List Shape). def G (length (names shapes above))) (schema_append above (shape n φ ∷ below) ∙ e ∙ append_assoc H (expand H φ ∷ []) t)
      ∙ ap (λ (k : ℕ). def (H ++ (expand H φ ∷ t)) k) (sym (schema-names above))
      ∙ get_or-append_seam H (expand H φ) t top

  -- 01: `(shape S)`, S defined above, in the form of a line or in a part of it (`expand` goes into the parts of a form, and
  -- leaves all else as it is): a node conforms to it exactly when it conforms to shape S.
  pub conforms-named : (below : Book) (s v : ℕ) → defined above shapes s ≡ true → conforms (graph_of (above ++ below)) (expand (schema above) (has_shape s)) v ≡ conforms_in (above ++ below) v s
  unfolding expand conforms_in
  conforms-named below s v d = ap (λ (φ : Shape). conforms (graph_of (above ++ below)) φ v) (sym (shape-above below s d))

  -- 01: `(shape N (shape S))`, a line that gives shape S one more name
  pub conforms-shape : (n : Name) (below : Book) (s v : ℕ) → defined above shapes s ≡ true → (let b = above ++ (shape n (has_shape s) ∷ below) in conforms_in b v (length (names shapes above)) ≡ conforms_in b v s)
  unfolding conforms_in
  conforms-shape n below s v d =
      let b = above ++ (shape n (has_shape s) ∷ below) in
      ap (λ (φ : Shape). conforms (graph_of b) φ v) (shape_here n (has_shape s) below) ∙ conforms-named (shape n (has_shape s) ∷ below) s v d
