use native.Mathlib.Omega.{arith}
use Rattle.base.proofs.Least.{next-after}
use Rattle.nodeset.specs.Words.{has}
use Rattle.nodeset.proofs.IterIterator.next.Goals as goal

-- what comes next lies after the member that was given
pub returns-clause-goes : goal.returns-clause-goes
returns-clause-goes c =
    let s = c.args.self.now in
    record { on = λ _. (tt, tt, omega (arith, c.if-self-member.false, next-after (has s.words.now) {x = s.next} (omega (arith, c.if-self-member.false)) c.next_member-self.ensures)); keeps = tt; rests = λ _. tt }
