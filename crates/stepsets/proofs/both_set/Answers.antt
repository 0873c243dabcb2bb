use Prim.Native.Nat.{ℕ, ◌*◌}
use mathlib.Core.Bool.{◌&&◌}
use mathlib.Core.List.{List}
use mathlib.Core.Path.{◌∙◌, ap}
use lib.ListN.{drop}
use Rattle.nodeset.specs.Words.{has, words_of}
use Rattle.nodeset.proofs.Sets.{intersection_of}
use Rattle.stepsets.proofs.Nodes.{whole_and}
use Rattle.stepsets.proofs.both_set.Goals as goal

pub returns : goal.returns
returns c =
    let a : List ℕ = (drop (16 * c.args.left) c.args.work.now) in
    let b : List ℕ = (drop (16 * c.args.right) c.args.work.now) in
    let ea = c.load-a.ensures ∙ ap (λ (l : List ℕ). words_of (has l) 16) c.part.ensures in
    let eb = c.load-b.ensures ∙ ap (λ (l : List ℕ). words_of (has l) 16) c.part-2.ensures in
    c.intersection-2.ensures ∙ whole_and (λ v. has a v && has b v) c.args.nodes c.whole.ensures (c.intersection.ensures ∙ intersection_of (has a) (has b) 16 ea eb)
