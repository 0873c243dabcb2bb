-- Demand 3, said of the answer of the whole run, is said of the numbers that give it.
use Prim.Native.Nat.{ℕ}
use mathlib.Core.Path.{◌≡◌, sym, ap, ap₂, subst, ◌∙◌}
use mathlib.Core.Bool.{Bool, cond}
use mathlib.Core.List.{List}
use native.Mathlib.Omega.{arith}
use borrow.Author.Tests.{ne_eqb}
use Rattle.model.specs.declared.Refusal.{Refusal}
use Rattle.model.specs.Refusals.{code_of, line_of}
use Rattle.std.specs.Prelude.{Result, Ok, Err}
use Rattle.model.specs.Answers.{Answer, value, refusal, answer_of}
use Rattle.model.proofs.Refusals.{code_range}
use Rattle.validation.specs.Lent.{Lent}
use Rattle.validation.specs.Claim.{Demand3}
use Rattle.melivanoup.specs.Numbers.{answer_by}

-- no refusal has the number 0
not_zero : (r : Refusal) → code_of r ≡ 0 → ⊥
not_zero r e = omega (arith, e, code_range r)

refusal_by : (r : Refusal) (k line n : ℕ) → k ≡ code_of r → line ≡ line_of r → refusal (code_of r) (line_of r) ≡ answer_by k line n
refusal_by r k line n e f =
    sym (ap (λ (t : Bool). cond t (value n) (refusal (code_of r) (line_of r))) (ne_eqb (code_of r) 0 (not_zero r))) ∙ sym (ap₂ (λ i j. answer_by i j n) e f)

module _ (s : List ℕ) (before after : Lent) (x : Result ℕ Refusal) (d : Demand3 s before (answer_of x) after) where
  pub by_steps : (n : ℕ) → x ≡ Ok n → Demand3 s before (answer_by 0 0 n) after
  by_steps n e = subst (λ (y : Answer ℕ). Demand3 s before y after) (ap answer_of e) d

  pub by_refusal : (r : Refusal) (k line : ℕ) → x ≡ Err r → k ≡ code_of r → line ≡ line_of r → Demand3 s before (answer_by k line 0) after
  by_refusal r k line e f g = subst (λ (y : Answer ℕ). Demand3 s before y after) (ap answer_of e ∙ refusal_by r k line 0 f g) d
