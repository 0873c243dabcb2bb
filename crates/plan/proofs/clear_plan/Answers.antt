-- The first cells become zeros, the rest stays.
use Prim.Native.Nat.{ℕ, ◌≤◌}
use mathlib.Core.List.{List, ◌++◌}
use mathlib.Core.Path.{◌≡◌, ap, ◌∙◌}
use lib.ListN.{length, take, drop, replicate}
use lib.Seq.{length-take-le}
use Rattle.std.proofs.Common.{rules}
use Rattle.tables.specs.Sizes.{cleared}
use Rattle.plan.specs.Layout.{plan_count}
use Rattle.plan.proofs.clear_plan.Goals as goal

parts : (n : ℕ) (l zs : List ℕ) → n ≤ length l → zs ≡ replicate (length (take n l)) 0 → zs ++ drop n l ≡ cleared n 0 l
unfolding cleared
parts n l zs h e = ap (λ (z : List ℕ). z ++ drop n l) (e ∙ ap (λ (k : ℕ). replicate k 0) (length-take-le n l h))

pub returns : goal.returns
returns c = parts plan_count c.args.plan.now _ c.requires (c.fill.ensures.after (λ y e. search rules))
