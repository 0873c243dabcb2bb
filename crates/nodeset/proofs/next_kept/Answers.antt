-- `next_kept` meets its contract. The least number from where the search stands is the one from where it began.
use Prim.Native.Nat.{ℕ, ◌+◌, ◌*◌, ◌/◌, ◌%◌, ◌^◌, ◌<◌}
use mathlib.Core.Bool.{Bool}
use mathlib.Core.Path.{◌≡◌, refl, sym, ap₂, ◌∙◌}
use native.Mathlib.Omega.{arith}
use Rattle.base.proofs.Least.{next-end}
use Rattle.nodeset.specs.Words.{bit, has}
use Rattle.nodeset.specs.Operations.{DigitByDigit}
use Rattle.nodeset.proofs.Members.{search_hit, search_past, search_end, search_on, kept-digits}
use Rattle.nodeset.proofs.next_kept.Given.{Over, F-post}
use Rattle.nodeset.proofs.next_kept.Goals as goal
use Rattle.nodeset.proofs.next_kept.Goals.{After-op-word}

-- what is sought, where the search stands, and the digits of the word there
abbrev wanted : (g : Over) → (Bool → Bool → Bool) → After-op-word g → ℕ → Bool
wanted g keeps c m = keeps (has c.args.a.now m) (has c.args.b.now m)

abbrev at : (g : Over) → After-op-word g → ℕ
at g c = c.loop-skip.at

abbrev left : (g : Over) → After-op-word g → ℕ
left g c = c.op-word.result / 2 ^ (at g c % 64)

digits : (g : Over) (keeps : Bool → Bool → Bool) (c : After-op-word g) → DigitByDigit keeps (F-post g c.args.op) → (k : ℕ) → k < 64 → wanted g keeps c (at g c / 64 * 64 + k) ≡ bit c.op-word.result k
digits g keeps c law = kept-digits keeps c.args.a.now c.args.b.now (at g c) c.op-word.result
    (λ k. law _ _ _ c.op-word.ensures k ∙ ap₂ (λ (x y : ℕ). keeps (bit x k) (bit y k)) c.cell.ensures c.cell-in-loop-skip.ensures)

pub returns-then-skip-left : goal.returns-then-skip-left
returns-then-skip-left g c keeps law =
    let w = (goal.at.returns-then-skip-left g c).After-op-word in
    search_hit (wanted g keeps w) (at g w) c.op-word.result (digits g keeps w law) c.args.n c.loop-skip.invariant.0 (left g w) refl c.if-rest-gt0.true (omega (arith, c.op-word.type_inv)) c.if-skip-left.true ∙ c.loop-skip.invariant.1 keeps law

pub returns-then-rest-gt0 : goal.returns-then-rest-gt0
returns-then-rest-gt0 g c keeps law =
    let w = (goal.at.returns-then-rest-gt0 g c).After-op-word in
    search_past (wanted g keeps w) (at g w) c.op-word.result (digits g keeps w law) c.args.n c.loop-skip.invariant.0 (left g w) refl c.if-rest-gt0.true (omega (arith, c.op-word.type_inv)) c.if-skip-left.false ∙ c.loop-skip.invariant.1 keeps law

pub returns-then-left-step : goal.returns-then-left-step
returns-then-left-step g c keeps law =
    let w = (goal.at.returns-then-left-step g c).After-op-word in
    search_end (wanted g keeps w) (at g w) c.op-word.result (digits g keeps w law) c.args.n c.loop-skip.invariant.0 (left g w) refl c.if-rest-gt0.false c.if-left-step.true ∙ c.loop-skip.invariant.1 keeps law

pub loop-skip-init : goal.loop-skip-init
loop-skip-init g c = (omega (arith, c.if-n-from), λ keeps law. refl)

pub loop-skip-preserved : goal.loop-skip-preserved
loop-skip-preserved g c = (
  omega (arith, c.loop-skip.invariant.0, c.if-left-step.false),
  λ keeps law. let w = (goal.at.loop-skip-preserved g c).After-op-word in
      search_on (wanted g keeps w) (at g w) c.op-word.result (digits g keeps w law) c.args.n c.loop-skip.invariant.0 (left g w) refl c.if-rest-gt0.false c.if-left-step.false ∙ c.loop-skip.invariant.1 keeps law,
)

pub returns-then-n-from : goal.returns-then-n-from
returns-then-n-from g c keeps law = let a = c.args in sym (next-end (λ m. keeps (has a.a.now m) (has a.b.now m)) a.n a.from c.if-n-from.true)
