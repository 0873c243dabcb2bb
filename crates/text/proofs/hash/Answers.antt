use Prim.Native.Nat.{ℕ}
use mathlib.Core.Path.{ap, ◌∙◌}
use native.Mathlib.Omega.{arith}
use Rattle.std.proofs.Common.{Iter}
use Rattle.std.specs.declared.iter.Rev.{Rev}
use Rattle.text.specs.Pool.{hash_of}
use Rattle.text.proofs.Hashes.{hash_begins, hash_more, hash_done}
use Rattle.text.proofs.Parts.{part_cut}
use Rattle.text.proofs.hash.Goals as goal

pub loop-b-init : goal.loop-b-init
loop-b-init c = hash_begins (ap (λ (k : Rev (Iter ℕ)). k.iter.rest.now) c.into_iter-b-iterator.ensures.into_iter_gives ∙ ap (λ (k : Iter ℕ). k.rest.now) c.rev-b-items.ensures.source ∙ c.iter.ensures.rest)

pub overflow_mul-h : goal.overflow_mul-h
overflow_mul-h c = let h = c.loop-b.invariant.below in omega arith

pub overflow_add-h : goal.overflow_add-h
overflow_add-h c = let h = c.loop-b.invariant.below in omega arith

pub loop-b-preserved : goal.loop-b-preserved
loop-b-preserved c = hash_more c.in-Some.b.now c.loop-b.invariant c.in-Some.ensures.steps

pub returns : goal.returns
returns c = hash_done c.loop-b.b-iterator.iter.rest.now c.loop-b.invariant c.in-None.ensures.steps.0 ∙ ap hash_of (part_cut c.args.book.now c.args.at c.args.end c.requires.0)
