-- `decide` meets its contract, by either way.
use mathlib.Core.Bool.{Bool, true, false, ◌||◌}
use mathlib.Core.Path.{◌≡◌, refl, ◌∙◌}
use native.Mathlib.Omega.{arith}
use lib.Dec.{eqb, leb}
use borrow.Author.Tests.{eqb-false}
use Rattle.tables.specs.Codes as codes
use Rattle.verdict.proofs.decide.Goals as goal

not_first : (a b : Bool) → (a || b) ≡ false → a ≡ false
not_first true b e = e
not_first false b e = refl

pub set_along-requires : goal.set_along-requires
set_along-requires c =
    let k = c.form_code-code.result in
    let e = c.form_code-code.ensures in
    (c.requires.0, omega (arith, e, c.if-code-lt-FORM_COUNT.false), λ h. eqb-false k codes.form_closed (not_first (eqb k codes.form_closed) (leb c.count.result c.few_nodes-few.result) c.if-code-count.false) (e ∙ h))

pub returns : goal.returns
returns c = λ v l h. c.set_along.ensures v l (c.requires.1 v l h)
