-- What an entry means, by its parts: of right tables, each part is what its own number means.
use Prim.Native.Nat.{ℕ, ◌<◌}
use mathlib.Core.List.{List}
use mathlib.Core.Bool.{true, ◌&&◌}
use mathlib.Core.Path.{◌≡◌, refl, ap, ap₂, ◌∙◌}
use lib.Dec.{ltb, leb}
use lib.IntN.{ℤ}
use borrow.Author.Tests.{ltb-true}
use Rattle.base.specs.Numbered.{below}
use Rattle.base.proofs.Numbered.{at-number, below-number}
use Rattle.base.proofs.Bools.{and_left, and_right, two-below}
use Rattle.model.specs.Limits.{max_count}
use Rattle.model.specs.Paths.{Path, predicate, inverse, sequence, alternative, zero_or_more, one_or_more}
use Rattle.model.specs.Shapes.{Shape, conj, disj, neg, count, for_all}
use Rattle.tables.specs.Layout.{path_count, form_count, shape_count, root_at}
use Rattle.tables.specs.Entries.{PathEntry, link, inv, seq, alt, star, plus, Entry}
use Rattle.tables.specs.Decode.{path_of, path_entry_at, path_at, shape_of, entry_at, shape_at, upper_of}
use Rattle.tables.specs.WellFormed.{path_entry_ok, entry_ok, upper_ok}
use Rattle.tables.proofs.WellFormed.{Sound}

module _ (cs : List ℕ) (e : ℕ) where
  -- a right entry looks at lower numbers only
  pub path_parts : (x : PathEntry) → path_entry_ok cs e x ≡ true → (f g : ℕ → Path) → ((k : ℕ) → k < e → f k ≡ g k) → path_of x f ≡ path_of x g
  unfolding path_entry_ok path_of
  path_parts (link p) w f g h = refl
  path_parts (inv a) w f g h = ap inverse (h a (ltb-true a e w))
  path_parts (seq a b) w f g h = ap₂ sequence (h a (two-below a e b e w).0) (h b (two-below a e b e w).1)
  path_parts (alt a b) w f g h = ap₂ alternative (h a (two-below a e b e w).0) (h b (two-below a e b e w).1)
  path_parts (star a) w f g h = ap zero_or_more (h a (ltb-true a e w))
  path_parts (plus a) w f g h = ap one_or_more (h a (ltb-true a e w))
  path_parts PathEntry.bad w f g h = refl

  pub shape-parts : (x : Entry) → entry_ok cs e x ≡ true → (f g : ℕ → Shape) → ((k : ℕ) → k < e → f k ≡ g k) → shape_of cs x f ≡ shape_of cs x g
  unfolding entry_ok shape_of
  shape-parts Entry.top w f g h = refl
  shape-parts (Entry.is c) w f g h = refl
  shape-parts (Entry.shape s) w f g h = h (root_at cs s) (ltb-true (root_at cs s) e (and_right (ltb s (shape_count cs)) (ltb (root_at cs s) e) w))
  shape-parts (Entry.conj a b) w f g h = ap₂ conj (h a (two-below a e b e w).0) (h b (two-below a e b e w).1)
  shape-parts (Entry.disj a b) w f g h = ap₂ disj (h a (two-below a e b e w).0) (h b (two-below a e b e w).1)
  shape-parts (Entry.neg a) w f g h = ap neg (h a (ltb-true a e w))
  shape-parts (Entry.kind k) w f g h = refl
  shape-parts (Entry.datatype t) w f g h = refl
  shape-parts (Entry.lang i n) w f g h = refl
  shape-parts (Entry.from x) w f g h = refl
  shape-parts (Entry.above x) w f g h = refl
  shape-parts (Entry.to x) w f g h = refl
  shape-parts (Entry.under x) w f g h = refl
  shape-parts (Entry.count p a lo hi) w f g h = ap (count lo (upper_of hi) (path_at cs p)) (h a (ltb-true a e (and_right (ltb p (path_count cs)) (ltb a e) (and_left (ltb p (path_count cs) && ltb a e) (leb lo max_count && upper_ok cs hi) w))))
  shape-parts (Entry.all p a) w f g h = ap (for_all (path_at cs p)) (h a (ltb-true a e (and_right (ltb p (path_count cs)) (ltb a e) w)))
  shape-parts (Entry.equal f' p) w f g h = refl
  shape-parts (Entry.apart f' p) w f g h = refl
  shape-parts (Entry.closed i n) w f g h = refl
  shape-parts (Entry.less p l) w f g h = refl
  shape-parts (Entry.lesseq p l) w f g h = refl
  shape-parts (Entry.onelang p) w f g h = refl
  shape-parts Entry.bad w f g h = refl

  -- of any tables: an entry by what lies below it
  pub path_number : path_at cs e ≡ path_of (path_entry_at cs e) (below (predicate 0) (λ k at. path_of (path_entry_at cs k) at) e)
  unfolding path_at
  path_number = at-number (predicate 0) (λ k at. path_of (path_entry_at cs k) at) e

  pub shape-number : (vs : List ℤ) → shape_at cs vs e ≡ shape_of cs (entry_at cs vs e) (below Shape.top (λ k at. shape_of cs (entry_at cs vs k) at) e)
  unfolding shape_at
  shape-number vs = at-number Shape.top (λ k at. shape_of cs (entry_at cs vs k) at) e

  -- of well_formed_lem tables: by what its parts mean
  module _ (s : Sound cs) where
    pub path_at_lem : e < path_count cs → path_at cs e ≡ path_of (path_entry_at cs e) (path_at cs)
    unfolding path_at
    path_at_lem l = path_number ∙ path_parts (path_entry_at cs e) (s.path e l) (below (predicate 0) (λ k at. path_of (path_entry_at cs k) at) e) (path_at cs) (below-number (predicate 0) (λ k at. path_of (path_entry_at cs k) at) e)

    pub shape-at : (vs : List ℤ) → e < form_count cs → shape_at cs vs e ≡ shape_of cs (entry_at cs vs e) (shape_at cs vs)
    unfolding shape_at
    shape-at vs l = shape-number vs ∙ shape-parts (entry_at cs vs e) (s.entry vs e l) (below Shape.top (λ k at. shape_of cs (entry_at cs vs k) at) e) (shape_at cs vs) (below-number Shape.top (λ k at. shape_of cs (entry_at cs vs k) at) e)
