-- The answers of the operation, each on its ground; and what the number that it gives is.
use Prim.Native.Nat.{ℕ, ◌<◌}
use mathlib.Core.Bool.{true}
use mathlib.Core.List.{List}
use mathlib.Core.Path.{◌≡◌, refl, sym, ap, ◌∙◌, subst}
use native.Mathlib.Omega.{arith}
use lib.IntN.{ℤ}
use lib.ListN.{take}
use Rattle.base.proofs.Bools.{two-below}
use Rattle.model.specs.Answers.{value, is_given}
use Rattle.model.specs.Paths.{ends}
use Rattle.model.proofs.Answers.{Checked, same-value, given_passed}
use Rattle.model.proofs.Rounds.{rounds-low, rounds_settle, rounds_reach, rounds-needed, rounds-few}
use Rattle.tables.specs.Layout.{cell_count, node_count, path_count}
use Rattle.tables.specs.Decode.{triples_at, path_at}
use Rattle.tables.specs.WellFormed.{well_formed}
use Rattle.tables.specs.Sizes.{long_enough}
use Rattle.tables.proofs.WellFormed.{sound}
use Rattle.rounds.specs.Answers.{has_both, rounds_at, rounds_answer, Told}

pub rounds-checked : (ns cs : List ℕ) (vs : List ℤ) (node path : ℕ) → Checked (long_enough ns cs vs) (well_formed (take cell_count cs)) (has_both (take cell_count cs) node path) (rounds_at (take cell_count cs) node path) (rounds_answer ns cs vs node path)
unfolding rounds_answer
rounds-checked ns cs vs node path = record { answer = refl }

-- ---- what the number is that is given
module _ (cs : List ℕ) (node path : ℕ) where
  pub told_at : well_formed cs ≡ true → node < node_count cs → Told cs node path (rounds_at cs node path)
  unfolding ends
  told_at ok l =
      let n = node_count cs in
      let r = ends n (triples_at cs) (path_at cs path) in
      record {
        least = rounds_settle r n node l;
        fewer = rounds-few r n node l;
        low = omega (arith, rounds-low r n node l, (sound cs ok).nodes);
        all = rounds_reach r n node l;
        needed = rounds-needed r n node l;
      }

pub told : (ns cs : List ℕ) (vs : List ℤ) (node path k : ℕ) → rounds_answer ns cs vs node path ≡ value k → Told (take cell_count cs) node path k
unfolding rounds_answer
told ns cs vs node path k e =
    let cs' = take cell_count cs in
    let (_, formed, there, same) = given_passed (long_enough ns cs vs) (well_formed cs') (has_both cs' node path) (value (rounds_at cs' node path)) (ap is_given e) in
    subst (λ (k : ℕ). Told cs' node path k) (same-value (sym same ∙ e)) (told_at cs' node path formed (two-below node (node_count cs') path (path_count cs') there).0)
