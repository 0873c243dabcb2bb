-- The numbers of a step as they stand in a plan, code first.
use Rattle.std.specs.Prelude.{ℕ, List, [], ◌∷◌}
use Rattle.plan.specs.declared.Numbers.{Numbers}

abbrev pub listed : Numbers → List ℕ
listed s = s.code ∷ s.first ∷ s.second ∷ s.third ∷ s.fourth ∷ []
