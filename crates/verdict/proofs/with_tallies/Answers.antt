-- `with_tallies` meets its contract.
use Prim.Native.Nat.{ℕ}
use mathlib.Core.List.{List}
use mathlib.Core.Bool.{Bool, cond}
use mathlib.Core.Path.{ap, ◌∙◌}
use Rattle.consoles.specs.Tallies.{counted}
use Rattle.model.specs.Answers.{Answer, answer_of}
use Rattle.model.proofs.Answers.{given-ok}
use Rattle.verdict.specs.Answers.{Reply}
use Rattle.verdict.proofs.with_tallies.Goals as goal

abbrev handing : Answer Bool → List ℕ → Reply
handing x ts = record { answer = x; tallies = ts }

pub returns : goal.returns
returns c =
    let a = c.args in
    let ts = a.tallies.counts in
    ap (handing (answer_of a.answer)) (c.after-after.ensures ∙ ap (λ (g : Bool). cond g (counted a.console ts) ts) (c.is_ok.ensures.value ∙ given-ok a.answer))
