use Prim.Native.Nat.{◌≤◌}
use mathlib.Core.Path.{sym, subst}
use lib.ListN.{length}
use lib.Seq.{length-take-le}
use Rattle.model.specs.Answers.{answer_of, value_or}
use Rattle.validate.proofs.print.Goals as goal

pub slice_bounds-write_all-end : goal.slice_bounds-write_all-end
slice_bounds-write_all-end g c =
    let a = c.args in
    sym (length-take-le c.in-Ok.n a.page.now (subst (λ w. value_or 0 (answer_of w) ≤ length a.page.now) c.in-Ok.is c.requires))
