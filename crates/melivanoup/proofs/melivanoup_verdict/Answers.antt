-- `melivanoup_verdict` meets its contract: of lent tallies the first eight go in and come back.
use mathlib.Core.Path.{◌≡◌, sym, ap, ◌∙◌}
use mathlib.Core.Bool.{Bool, false}
use native.Mathlib.Omega.{arith}
use Rattle.std.specs.Prelude.{Ok}
use Rattle.model.specs.Answers.{answer_of, Answer, refusal_number, value_or}
use Rattle.verdict.specs.Answers.{question, verdict_answer, tallied}
use Rattle.verdict.proofs.Answers.{lent-short, lent-reply}
use Rattle.melivanoup.specs.Numbers.{one_if}
use Rattle.melivanoup.proofs.melivanoup_verdict.Goals as goal
use Rattle.melivanoup.proofs.melivanoup_verdict.Goals.{After-store}

pub returns-then-tallies-lt-CONSOLES : goal.returns-then-tallies-lt-CONSOLES
returns-then-tallies-lt-CONSOLES c =
    let a = c.args in
    let ts = a.tallies.now in
    let e = lent-short a.names.now a.cells.now a.values.now ts (question a.console a.node a.shape) c.if-tallies-lt-CONSOLES.true in
    record { value = c.number.ensures ∙ ap refusal_number e; new_conforms = ap (λ (x : Answer Bool). one_if (value_or false x)) e; new_tallies = ap (λ (x : Answer Bool). tallied x a.console ts) e }

-- what comes back
handed : (c : After-store) → let a = c.args in let x = verdict_answer a.names.now a.cells.now a.values.now a.tallies.now (question a.console a.node a.shape) in (answer_of c.verdict-outcome.result.answer ≡ x) × (c.store.new.into ≡ tallied x a.console a.tallies.now)
handed c =
    let a = c.args in
    let h = lent-reply a.names.now a.cells.now a.values.now a.tallies.now (question a.console a.node a.shape) (omega (arith, c.if-tallies-lt-CONSOLES.false)) c.load-held.ensures c.verdict-outcome.ensures in
    (h.0, c.store.ensures ∙ h.1)

pub returns-in-Ok-true : goal.returns-in-Ok-true
returns-in-Ok-true c =
    let h = handed (goal.at.returns-in-Ok-true c).After-store in
    let q = ap answer_of (sym (c.in-Ok-true.is ∙ ap Ok c.in-Ok-true.field-0-test)) ∙ h.0 in
    record { value = ap refusal_number q; new_conforms = ap (λ (x : Answer Bool). one_if (value_or false x)) q; new_tallies = h.1 }

pub returns-in-Ok-false : goal.returns-in-Ok-false
returns-in-Ok-false c =
    let h = handed (goal.at.returns-in-Ok-false c).After-store in
    let q = ap answer_of (sym (c.in-Ok-false.is ∙ ap Ok c.in-Ok-false.field-0-test)) ∙ h.0 in
    record { value = ap refusal_number q; new_conforms = ap (λ (x : Answer Bool). one_if (value_or false x)) q; new_tallies = h.1 }

pub returns-in-Err : goal.returns-in-Err
returns-in-Err c =
    let h = handed (goal.at.returns-in-Err c).After-store in
    let q = ap answer_of (sym c.in-Err.is) ∙ h.0 in
    record { value = c.number-in-Err.ensures ∙ ap refusal_number q; new_conforms = ap (λ (x : Answer Bool). one_if (value_or false x)) q; new_tallies = h.1 }
