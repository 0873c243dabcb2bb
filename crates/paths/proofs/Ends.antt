-- An end by its kind: the relation that each makes.
use Prim.Native.Nat.{ℕ, ◌<◌}
use mathlib.Core.Bool.{Bool, true, false}
use mathlib.Core.List.{List}
use mathlib.Core.Path.{◌≡◌, refl, sym, ap, ◌∙◌}
use lib.Dec.{eqb}
use borrow.Author.Tests.{ltb-true}
use Rattle.base.proofs.Bools.{eqb_comm}
use Rattle.model.specs.Graph.{Triple}
use Rattle.model.specs.Paths.{ends_of}
use Rattle.tables.specs.Layout.{path_count}
use Rattle.tables.specs.Decode.{path_at}
use Rattle.paths.specs.Facts.{triples_of, edges}
use Rattle.paths.specs.Images.{converse_if, with_images, with_ends}
use Rattle.paths.specs.Ends.{end_in, end_known}
use Rattle.paths.specs.declared.End.{End}
use Rattle.paths.specs.declared.End.TheVariants.{Itself, Link, Path}
use Rattle.paths.proofs.Images.{images_ext}
use Rattle.paths.proofs.Paths.{link-ends}
use Rattle.model.specs.declared.LinkNo.{LinkNo}

-- the path entry that an end names
pub end_below : (cs : List ℕ) {x : End} {e : ℕ} → x ≡ Path e → end_known cs x ≡ true → e < path_count cs
unfolding end_known
end_below cs {e = e} q h = ltb-true e (path_count cs) (ap (end_known cs) (sym q) ∙ h)

module _ (width n : ℕ) (cs : List ℕ) (back : Bool) (from : ℕ → Bool) (into : List ℕ) {x : End} where
  pub end_itself : (ts : List Triple) → x ≡ Itself → with_images width n eqb from into ≡ with_images width n (converse_if back (ends_of n ts (end_in cs x))) from into
  unfolding end_in ends_of
  end_itself ts q = images_ext width n eqb (converse_if back (ends_of n ts (end_in cs Itself))) from into (λ v w _. either back v w) ∙ ap (λ (y : End). with_images width n (converse_if back (ends_of n ts (end_in cs y))) from into) (sym q)
    where
      either : (b : Bool) (v w : ℕ) → eqb v w ≡ converse_if b eqb v w
      either true v w = eqb_comm v w
      either false v w = refl

  pub end-link : (ss ps os : List ℕ) (count : ℕ) {p : LinkNo} → x ≡ Link p → with_images width n (edges ss ps os p.0 back count) from into ≡ with_images width n (converse_if back (ends_of n (triples_of ss ps os count) (end_in cs x))) from into
  unfolding end_in ends_of
  end-link ss ps os count {p = p} q =
      images_ext width n (edges ss ps os p.0 back count) (converse_if back (ends_of n (triples_of ss ps os count) (end_in cs (Link p)))) from into (λ v w _. link-ends ss ps os n p.0 back count v w)
      ∙ ap (λ (y : End). with_images width n (converse_if back (ends_of n (triples_of ss ps os count) (end_in cs y))) from into) (sym q)

  pub end_path : (ts : List Triple) {e : ℕ} → x ≡ Path e → with_ends width n ts (path_at cs e) back from into ≡ with_images width n (converse_if back (ends_of n ts (end_in cs x))) from into
  unfolding end_in ends_of with_ends
  end_path ts {e = e} q = ap (λ (y : End). with_images width n (converse_if back (ends_of n ts (end_in cs y))) from into) (sym q)
