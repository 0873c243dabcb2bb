use Prim.Native.Nat.{ℕ}
use mathlib.Core.Path.{◌≡◌, refl, ap, ◌∙◌}
use native.Mathlib.Omega.{arith}
use lib.ListN.{length}
use borrow.Author.Rules.{rules}
use borrow.Author.Tests.{le-leb, lt-leb}
use Rattle.model.proofs.Answers.{short}
use Rattle.base.specs.Bytes.{bytes}
use Rattle.text.specs.Decimals.{decimal}
use Rattle.report.specs.Report.{refusal_report}
use Rattle.report.specs.Pages.{refusal_count}
use Rattle.report.proofs.Writing.{put_as, two_fit}
use Rattle.model.specs.Refusals.{code_of, line_of}
use Rattle.report.proofs.Answers.{refused_on, written_on, refusal_fits, refusal_answers}
use Rattle.report.proofs.report_refusal.Goals as goal

pub returns-then-space-lt-REFUSAL_BYTES : goal.returns-then-space-lt-REFUSAL_BYTES
returns-then-space-lt-REFUSAL_BYTES c =
    let a = c.args in
    let r = refused_on (short (refusal_answers (code_of a.refusal) (line_of a.refusal) a.space.now) (lt-leb refusal_count (length a.space.now) c.if-space-lt-REFUSAL_BYTES.true)) in record { result_value = r.0; new_space = r.1.0; result_in_bounds = r.1.1 }

pub line-requires-2 : goal.line-requires-2
line-requires-2 c =
    let k = c.code in
    let at = c.line in
    let number : length (decimal k.result) ≡ length (decimal (code_of c.args.refusal)) = ap (λ (n : ℕ). length (decimal n)) k.ensures in
    let line : length (decimal at.result) ≡ length (decimal (line_of c.args.refusal)) = ap (λ (n : ℕ). length (decimal n)) at.ensures in
    two_fit (bytes "refused") _ _ (omega (arith, number, line, refusal_fits c.args.refusal (omega (arith, at.type_inv, at.ensures)), c.if-space-lt-REFUSAL_BYTES.false))

pub returns : goal.returns
returns c =
    let a = c.args in
    let same : refusal_report c.code.result c.line.result ≡ refusal_report (code_of a.refusal) (line_of a.refusal) = ap (λ (n : ℕ). refusal_report n c.line.result) c.code.ensures ∙ ap (refusal_report (code_of a.refusal)) c.line.ensures in
    let r = written_on (refusal_answers (code_of a.refusal) (line_of a.refusal) a.space.now) (le-leb refusal_count (length a.space.now) c.if-space-lt-REFUSAL_BYTES.false) refl refl (put_as same c.line-2.ensures.put) in
    let page = r.1.0 in
    record { result_value = r.0; new_space = search rules; result_in_bounds = r.1.1 }
