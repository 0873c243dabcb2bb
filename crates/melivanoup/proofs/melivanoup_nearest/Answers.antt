-- `melivanoup_nearest` meets its contract: the answer in numbers.
use mathlib.Core.Path.{◌≡◌, sym, ap, ◌∙◌}
use Rattle.std.specs.Prelude.{Ok}
use Rattle.model.specs.Answers.{Answer, refusal_number, value_or}
use Rattle.model.specs.Nearest.{Nearest, no_spare}
use Rattle.nearest.specs.Answers.{spare_answer}
use Rattle.melivanoup.specs.Numbers.{one_if, found_in, hops_in, node_in}
use Rattle.melivanoup.proofs.melivanoup_nearest.Goals as goal

-- the same answer, the same numbers
numbers : (x y : Answer Nearest) → x ≡ y → (one_if (found_in (value_or no_spare x)) ≡ one_if (found_in (value_or no_spare y))) × (hops_in (value_or no_spare x) ≡ hops_in (value_or no_spare y)) × (node_in (value_or no_spare x) ≡ node_in (value_or no_spare y))
numbers x y e = (ap (λ (x : Answer Nearest). one_if (found_in (value_or no_spare x))) e, ap (λ (x : Answer Nearest). hops_in (value_or no_spare x)) e, ap (λ (x : Answer Nearest). node_in (value_or no_spare x)) e)

pub returns-in-Ok-Some : goal.returns-in-Ok-Some
returns-in-Ok-Some c =
    let q = ap spare_answer (sym (c.in-Ok-Some.is ∙ ap Ok c.in-Ok-Some.field-0-is)) ∙ c.nearest.ensures in
    let n = numbers _ _ q in
    record { value = ap refusal_number q; new_found = n.0; new_hops = n.1; new_spare = n.2 }

pub returns-in-Ok-None : goal.returns-in-Ok-None
returns-in-Ok-None c =
    let q = ap spare_answer (sym (c.in-Ok-None.is ∙ ap Ok c.in-Ok-None.field-0-is)) ∙ c.nearest.ensures in
    let n = numbers _ _ q in
    record { value = ap refusal_number q; new_found = n.0; new_hops = n.1; new_spare = n.2 }

pub returns-in-Err : goal.returns-in-Err
returns-in-Err c =
    let q = ap spare_answer (sym c.in-Err.is) ∙ c.nearest.ensures in
    let n = numbers _ _ q in
    record { value = c.number.ensures ∙ ap refusal_number q; new_found = n.0; new_hops = n.1; new_spare = n.2 }
