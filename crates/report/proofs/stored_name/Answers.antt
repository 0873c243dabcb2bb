use Prim.Native.Nat.{ℕ, ◌+◌, ◌-◌, ◌*◌}
use mathlib.Core.List.{List}
use mathlib.Core.Path.{◌≡◌, ap, ◌∙◌}
use native.Mathlib.Omega.{arith}
use lib.Dec.{eqb}
use lib.ListN.{length, take, drop}
use Rattle.std.specs.Prelude.{Option}
use Rattle.std.specs.List.{position}
use Rattle.std.specs.Option.{unwrap_or}
use Rattle.model.specs.Limits.{max_name, name_bytes}
use Rattle.tables.specs.Names.{before_zero, name_from}
use Rattle.tables.proofs.Names.{name_full}
use Rattle.report.proofs.Names.{named}
use Rattle.report.proofs.stored_name.Goals as goal

pub returns-clause-name : goal.returns-clause-name
unfolding name_from
returns-clause-name c =
    let ns = c.args.names.now in
    let at = name_bytes * c.args.v.0 in
    let place : List ℕ = take (at + max_name - at) (drop at ns) in
    let whole : at + max_name - at ≡ max_name = omega arith in
    let same : place ≡ take max_name (drop at ns) = ap (λ (k : ℕ). take k (drop at ns)) whole in
    let found : c.unwrap_or-n.result ≡ unwrap_or (position (λ b. eqb b 0) place) max_name = c.unwrap_or-n.ensures ∙ ap (λ (o : Option ℕ). unwrap_or o max_name) c.first_zero.ensures in
    ap (λ (k : ℕ). take k place) found ∙ (named place max_name (ap length same ∙ name_full ns at (omega arith)) ∙ ap before_zero same)
