-- The step that a code and operands make, and what is known of it where it is right.
use Prim.Native.Nat.{ℕ, suc, ◌<◌}
use mathlib.Core.List.{List}
use mathlib.Core.Option.{Option}
use mathlib.Core.Bool.{Bool, true, ◌&&◌, ◌||◌}
use mathlib.Core.Path.{◌≡◌, refl, ap, ap₂}
use lib.Dec.{ltb, leb}
use lib.IntN.{ℤ}
use Rattle.base.specs.Bounded.{◌⇒◌}
use Rattle.base.proofs.Bools.{and_left, two-below}
use Rattle.base.proofs.Bounded.{every_ext, size_ext}
use Rattle.model.specs.Limits.{max_count}
use Rattle.model.specs.Shapes.{within, from}
use Rattle.tables.specs.Layout.{node_count, path_count}
use Rattle.tables.specs.Decode.{graph_at, path_at, upper_of}
use Rattle.tables.specs.WellFormed.{upper_ok}
use Rattle.plan.specs.Steps.{Step}
use Rattle.plan.specs.Sets.{in_step}
use Rattle.plan.specs.WellFormed.{step_ok}

-- a right step looks only at lower steps, and there only at nodes
module _ (sub : Option ℕ) (cs : List ℕ) (vs : List ℤ) (k : ℕ) (f g : ℕ → ℕ → Bool) (h : (j : ℕ) → j < k → (w : ℕ) → w < node_count cs → f j w ≡ g j w) (v : ℕ) (low : v < node_count cs) where
  pub in_step_ext : (s : Step) → step_ok cs k s ≡ true → in_step sub cs vs s f v ≡ in_step sub cs vs s g v
  unfolding step_ok in_step graph_at
  in_step_ext Step.all w = refl
  in_step_ext Step.none w = refl
  in_step_ext (Step.is c) w = refl
  in_step_ext (Step.isnot c) w = refl
  in_step_ext (Step.test e) w = refl
  in_step_ext (Step.untest e) w = refl
  in_step_ext (Step.both i j) w = let l = two-below i k j k w in ap₂ (λ (a b : Bool). a && b) (h i l.0 v low) (h j l.1 v low)
  in_step_ext (Step.either i j) w = let l = two-below i k j k w in ap₂ (λ (a b : Bool). a || b) (h i l.0 v low) (h j l.1 v low)
  in_step_ext (Step.count p j lo hi) w =
      let l = two-below p (path_count cs) j k (and_left (ltb p (path_count cs) && ltb j k) (leb lo (suc max_count) && upper_ok cs hi) w) in
      ap (within lo (upper_of hi)) (size_ext (λ b. from (graph_at cs vs) (path_at cs p) v b && f j b) (λ b. from (graph_at cs vs) (path_at cs p) v b && g j b) (node_count cs) (λ b m. ap (λ (t : Bool). from (graph_at cs vs) (path_at cs p) v b && t) (h j l.1 b m)))
  in_step_ext (Step.every p j) w =
      let l = two-below p (path_count cs) j k w in
      every_ext (λ b. from (graph_at cs vs) (path_at cs p) v b ⇒ f j b) (λ b. from (graph_at cs vs) (path_at cs p) v b ⇒ g j b) (node_count cs) (λ b m. ap (λ (t : Bool). from (graph_at cs vs) (path_at cs p) v b ⇒ t) (h j l.1 b m))
  in_step_ext (Step.equal p l) w = refl
  in_step_ext (Step.unequal p l) w = refl
  in_step_ext (Step.apart p l) w = refl
  in_step_ext (Step.meet p l) w = refl
  in_step_ext (Step.closed e) w = refl
  in_step_ext (Step.opened e) w = refl
  in_step_ext (Step.less p l) w = refl
  in_step_ext (Step.notless p l) w = refl
  in_step_ext (Step.lesseq p l) w = refl
  in_step_ext (Step.notlesseq p l) w = refl
  in_step_ext (Step.onelang p) w = refl
  in_step_ext (Step.manylang p) w = refl
  in_step_ext (Step.from l) w = refl
  in_step_ext (Step.into l) w = refl
  in_step_ext (Step.typed c) w = refl
  in_step_ext Step.bad w = refl
