use Prim.Native.Nat.{ℕ}
use mathlib.Core.Path.{sym, ap, ◌∙◌}
use mathlib.Core.Bool.{false}
use lib.ListN.{length}
use Rattle.std.specs.Prelude.{Ok, Err}
use Rattle.model.specs.Books.{Pool}
use Rattle.grammar.specs.Syntax.{used}
use Rattle.grammar.specs.Reading.{max_within, arg_at, readers_at}
use Rattle.itemreader.specs.Answers.{pool_of, same}
use Rattle.itemreader.proofs.Items.{number_got, item_refused, passed_on}
use Rattle.itemreader.proofs.Heads.{headed-word}
use Rattle.linereader.specs.Storing.{target_answer}
use Rattle.linereader.proofs.Targets.{target-bare, target-closed, target-unknown, target-word, target-stop, target_open, target_got}
use Rattle.linereader.proofs.read_target.Goals as goal
use Rattle.linereader.proofs.read_target.Goals.{In-Some}

-- the word's number and the reading after it
low : (c : In-Some) → Prim.Native.Nat.◌<◌ c.in-Some.k 4
low c = (headed-word 4 max_within false (length c.args.book.now) (Ok c.in_ok-k.field-0) c.in-Some.k c.in-Some.end c.in_ok-k.ensures.headed (ap Ok c.in-Some.is)).0

pub returns-then-byte-ne32-clause-value : goal.returns-then-byte-ne32-clause-value
returns-then-byte-ne32-clause-value c =
    let s = c.args in
    λ a b h. rw (target-bare s.book.now a b s.at (λ e. c.if-byte-ne32.true (c.byte.ensures ∙ e)))

pub returns-in_err-k-clause-value : goal.returns-in_err-k-clause-value
returns-in_err-k-clause-value c =
    let s = c.args in
    let z = sym c.byte.ensures ∙ c.if-byte-ne32.false in
    λ a b h.
    let (m, x, e) = target-unknown s.book.now a b s.at z c.in_err-k.field-0.0 (sym c.in_err-k.ensures.value) in
    passed_on c.from_residual.result _ c.from_residual.ensures.1 ∙ ap Err e ∙ sym (ap target_answer x)

pub returns-in_default-clause-value : goal.returns-in_default-clause-value
returns-in_default-clause-value c =
    let s = c.args in
    let z = sym c.byte.ensures ∙ c.if-byte-ne32.false in
    λ a b h. sym (ap target_answer (target-closed s.book.now a b s.at z (sym c.in_ok-k.ensures.value ∙ ap Ok c.in_default.is)))

pub returns-in_err-x-clause-value : goal.returns-in_err-x-clause-value
returns-in_err-x-clause-value c =
    let s = c.args in
    let S = s.book.now in
    let z = sym c.byte.ensures ∙ c.if-byte-ne32.false in
    let p = c.operand_pool in
    λ a b h.
    let R = readers_at S a 30 in
    let (m, x, e) = item_refused same (arg_at S a R (used (pool_of p.result)) b c.in-Some.end) c.in_err-x.field-0.0 (c.in_err-x.ensures.reads a h R b) in
    let stop = target-word S a b s.at z c.in-Some.k c.in-Some.end (sym c.in_ok-k.ensures.value ∙ ap Ok c.in-Some.is) ∙ target-stop S a R b c.in-Some.end c.in-Some.k m (low (goal.at.returns-in_err-x-clause-value c).In-Some) (ap (λ (q : Pool). arg_at S a R (used q) b c.in-Some.end) (sym p.ensures) ∙ x) in
    passed_on c.from_residual-in_err-x.result _ c.from_residual-in_err-x.ensures.1 ∙ ap Err e ∙ sym (ap target_answer stop)

pub returns-then-byte-ne41-clause-value : goal.returns-then-byte-ne41-clause-value
returns-then-byte-ne41-clause-value c =
    let s = c.args in
    let S = s.book.now in
    let z = sym c.byte.ensures ∙ c.if-byte-ne32.false in
    let p = c.operand_pool in
    λ a b h.
    let R = readers_at S a 30 in
    let g = number_got (arg_at S a R (used (pool_of p.result)) b c.in-Some.end) c.in_ok-x.x c.in_ok-x.last (c.in_ok-x.ensures.reads a h R b) in
    let stop = target-word S a b s.at z c.in-Some.k c.in-Some.end (sym c.in_ok-k.ensures.value ∙ ap Ok c.in-Some.is) ∙ target_open S a R b c.in-Some.end c.in-Some.k c.in_ok-x.x c.in_ok-x.last (low (goal.at.returns-then-byte-ne41-clause-value c).In-Some) (ap (λ (q : Pool). arg_at S a R (used q) b c.in-Some.end) (sym p.ensures) ∙ g) (λ e. c.if-byte-ne41.true (c.byte-2.ensures ∙ e)) in
    sym (ap target_answer stop)

pub returns-clause-value : goal.returns-clause-value
returns-clause-value c =
    let s = c.args in
    let S = s.book.now in
    let z = sym c.byte.ensures ∙ c.if-byte-ne32.false in
    let p = c.operand_pool in
    let y = sym c.byte-2.ensures ∙ c.if-byte-ne41.false in
    λ a b h.
    let R = readers_at S a 30 in
    let g = number_got (arg_at S a R (used (pool_of p.result)) b c.in-Some.end) c.in_ok-x.x c.in_ok-x.last (c.in_ok-x.ensures.reads a h R b) in
    target_got S a R b c.in-Some.end c.in-Some.k c.in_ok-x.x c.in_ok-x.last (low (goal.at.returns-clause-value c).In-Some) (ap (λ (q : Pool). arg_at S a R (used q) b c.in-Some.end) (sym p.ensures) ∙ g) y
    ∙ ap target_answer (sym (target-word S a b s.at z c.in-Some.k c.in-Some.end (sym c.in_ok-k.ensures.value ∙ ap Ok c.in-Some.is)))
