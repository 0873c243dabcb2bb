-- The ends of each kind of path, from sets side by side, read either way.
use Prim.Native.Nat.{ℕ, ◌*◌, ◌≤◌, ◌<◌}
use mathlib.Core.Bool.{Bool, true, false, not, cond, ◌&&◌, ◌||◌, and_comm, and_assoc}
use mathlib.Core.List.{List}
use mathlib.Core.Path.{◌≡◌, refl, sym, ap, ◌∙◌}
use lib.Dec.{eqb}
use lib.ListN.{get_or, replicate}
use Rattle.base.specs.Bounded.{some}
use Rattle.base.proofs.Bounded.{some_ext}
use Rattle.base.proofs.Lists.{any-values}
use Rattle.nodeset.specs.Words.{has}
use Rattle.model.specs.Graph.{Triple, has_triple}
use Rattle.model.specs.Paths.{Path, predicate, inverse, sequence, alternative, ends}
use Rattle.paths.specs.Facts.{triple_in, triples_of, edge, edges}
use Rattle.paths.specs.Images.{converse_if, with_images, with_ends}
use Rattle.paths.proofs.Images.{images_ext, images_or, images_chain}

module _ (ss ps os : List ℕ) where
  -- a triple stands among the facts
  pub has_triple_lem : (s p o count : ℕ) → has_triple (triples_of ss ps os count) s p o ≡ some (λ i. eqb (get_or ss i 0) s && (eqb (get_or ps i 0) p && eqb (get_or os i 0) o)) count
  unfolding has_triple triples_of triple_in
  has_triple_lem s p o count = any-values (triple_in ss ps os) (λ t. eqb t.subject s && (eqb t.predicate p && eqb t.object o)) count

  -- the facts of a link are the ends of that link
  pub link-ends : (n p : ℕ) (back : Bool) (count v w : ℕ) → edges ss ps os p back count v w ≡ converse_if back (ends n (triples_of ss ps os count) (predicate p)) v w
  unfolding edges edge ends
  link-ends n p true count v w = some_ext (λ i. edge ss ps os p true i v w) (λ i. eqb (get_or ss i 0) w && (eqb (get_or ps i 0) p && eqb (get_or os i 0) v)) count (λ i _. turn (eqb (get_or ps i 0) p) (eqb (get_or os i 0) v) (eqb (get_or ss i 0) w)) ∙ sym (has_triple_lem w p v count)
    where
      turn : (a b c : Bool) → (a && (b && c)) ≡ (c && (a && b))
      turn a b c = sym (and_assoc a b c) ∙ and_comm (a && b) c
  link-ends n p false count v w = some_ext (λ i. edge ss ps os p false i v w) (λ i. eqb (get_or ss i 0) v && (eqb (get_or ps i 0) p && eqb (get_or os i 0) w)) count (λ i _. turn (eqb (get_or ps i 0) p) (eqb (get_or ss i 0) v) (eqb (get_or os i 0) w)) ∙ sym (has_triple_lem v p w count)
    where
      turn : (a b c : Bool) → (a && (b && c)) ≡ (b && (a && c))
      turn a b c = sym (and_assoc a b c) ∙ ap (λ (x : Bool). x && c) (and_comm a b) ∙ and_assoc b a c

-- which part of a sequence is gone first
turn_sequence : (n : ℕ) (ts : List Triple) (d e : Path) (back : Bool) (v w : ℕ) → converse_if back (ends n ts (sequence d e)) v w ≡ some (λ u. converse_if back (ends n ts (cond back e d)) v u && converse_if back (ends n ts (cond back d e)) u w) n
unfolding ends
turn_sequence n ts d e true v w = some_ext (λ u. ends n ts d w u && ends n ts e u v) (λ u. ends n ts e u v && ends n ts d w u) n (λ u _. and_comm (ends n ts d w u) (ends n ts e u v))
turn_sequence n ts d e false v w = refl

turn_alternative : (n : ℕ) (ts : List Triple) (d e : Path) (back : Bool) (v w : ℕ) → converse_if back (ends n ts (alternative d e)) v w ≡ (converse_if back (ends n ts d) v w || converse_if back (ends n ts e) v w)
unfolding ends
turn_alternative n ts d e true v w = refl
turn_alternative n ts d e false v w = refl

turn_inverse : (n : ℕ) (ts : List Triple) (p : Path) (back : Bool) (v w : ℕ) → converse_if (not back) (ends n ts p) v w ≡ converse_if back (ends n ts (inverse p)) v w
unfolding ends
turn_inverse n ts p true v w = refl
turn_inverse n ts p false v w = refl

module _ (width n : ℕ) (back : Bool) (from : ℕ → Bool) (into : List ℕ) where
  pub ends-predicate : (ss ps os : List ℕ) (p count : ℕ) → with_images width n (edges ss ps os p back count) from into ≡ with_ends width n (triples_of ss ps os count) (predicate p) back from into
  unfolding with_ends
  ends-predicate ss ps os p count = images_ext width n (edges ss ps os p back count) (converse_if back (ends n (triples_of ss ps os count) (predicate p))) from into (λ v w _. link-ends ss ps os n p back count v w)

  module _ (ts : List Triple) where
    pub ends_inverse : (p : Path) → with_ends width n ts p (not back) from into ≡ with_ends width n ts (inverse p) back from into
    unfolding with_ends
    ends_inverse p = images_ext width n (converse_if (not back) (ends n ts p)) (converse_if back (ends n ts (inverse p))) from into (λ v w _. turn_inverse n ts p back v w)

    pub ends_alternative : (d e : Path) → with_ends width n ts e back from (with_ends width n ts d back from into) ≡ with_ends width n ts (alternative d e) back from into
    unfolding with_ends
    ends_alternative d e =
        images_or width n (converse_if back (ends n ts d)) (converse_if back (ends n ts e)) from into
        ∙ images_ext width n (λ v w. converse_if back (ends n ts d) v w || converse_if back (ends n ts e) v w) (converse_if back (ends n ts (alternative d e))) from into (λ v w _. sym (turn_alternative n ts d e back v w))

    pub ends_sequence : (d e : Path) (k : ℕ) → 0 < width → n * width ≤ 64 * k → with_ends width n ts (cond back d e) back (has (with_ends width n ts (cond back e d) back from (replicate k 0))) into ≡ with_ends width n ts (sequence d e) back from into
    unfolding with_ends
    ends_sequence d e k pos room =
        images_chain width n (converse_if back (ends n ts (cond back e d))) (converse_if back (ends n ts (cond back d e))) from into k pos room
        ∙ images_ext width n (λ v w. some (λ u. converse_if back (ends n ts (cond back e d)) v u && converse_if back (ends n ts (cond back d e)) u w) n) (converse_if back (ends n ts (sequence d e))) from into (λ v w _. sym (turn_sequence n ts d e back v w))
