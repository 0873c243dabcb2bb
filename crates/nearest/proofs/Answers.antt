-- The answers of the operation, each on its ground; and what the answer is that is given.
use Prim.Native.Nat.{ℕ, ◌<◌}
use mathlib.Core.Bool.{true, ◌&&◌}
use mathlib.Core.List.{List}
use mathlib.Core.Path.{◌≡◌, refl, sym, ap, ◌∙◌, subst}
use native.Mathlib.Omega.{arith}
use lib.Dec.{ltb}
use lib.IntN.{ℤ}
use lib.ListN.{take}
use borrow.Author.Tests.{ltb-true}
use Rattle.base.proofs.Bools.{two-below, and_left, and_right}
use Rattle.model.specs.Answers.{value, is_given}
use Rattle.model.specs.Paths.{ends}
use Rattle.model.specs.Shapes.{conforms}
use Rattle.model.specs.Nearest.{Nearest, Says}
use Rattle.model.proofs.Answers.{Checked, same-value, given_passed}
use Rattle.model.proofs.Rounds.{rounds-low}
use Rattle.model.proofs.Nearest.{nearest-says, nearest_iff, nearest-few}
use Rattle.tables.specs.Layout.{cell_count, value_count, node_count, path_count, shape_count, root_at}
use Rattle.tables.specs.Decode.{triples_at, path_at, graph_at, shape_at}
use Rattle.tables.specs.WellFormed.{well_formed}
use Rattle.tables.specs.Sizes.{long_enough}
use Rattle.tables.proofs.WellFormed.{sound}
use Rattle.nearest.specs.Answers.{has_all, nearest_at, nearest_answer, Told}

pub nearest-checked : (ns cs : List ℕ) (vs : List ℤ) (node path shape : ℕ) → Checked (long_enough ns cs vs) (well_formed (take cell_count cs)) (has_all (take cell_count cs) node path shape) (nearest_at (take cell_count cs) (take value_count vs) node path shape) (nearest_answer ns cs vs node path shape)
unfolding nearest_answer
nearest-checked ns cs vs node path shape = record { answer = refl }

-- they are there
pub all_there : (cs : List ℕ) (node path shape : ℕ) → has_all cs node path shape ≡ true → (node < node_count cs) × (path < path_count cs) × (shape < shape_count cs)
all_there cs node path shape h =
    let both = two-below node (node_count cs) path (path_count cs) (and_left (ltb node (node_count cs) && ltb path (path_count cs)) (ltb shape (shape_count cs)) h) in
    (both.0, both.1, ltb-true shape (shape_count cs) (and_right (ltb node (node_count cs) && ltb path (path_count cs)) (ltb shape (shape_count cs)) h))

-- ---- what the answer is that is given
module _ (cs : List ℕ) (vs : List ℤ) (node path shape : ℕ) where
  pub told_at : well_formed cs ≡ true → node < node_count cs → Told cs vs node path shape (nearest_at cs vs node path shape)
  told_at ok l =
      let n = node_count cs in
      let r = ends n (triples_at cs) (path_at cs path) in
      let p = conforms (graph_at cs vs) (shape_at cs vs (root_at cs shape)) in
      let says = nearest-says r p n node l in
      record {
        says = says;
        only = λ y s. sym ((nearest_iff r p n node l y).1 s);
        few = λ k w e. let few = nearest-few r p n node l k w (subst (λ (x : Nearest). Says r p n node x) e says) in (few, omega (arith, few, rounds-low r n node l, (sound cs ok).nodes));
      }

pub told : (ns cs : List ℕ) (vs : List ℤ) (node path shape : ℕ) (x : Nearest) → nearest_answer ns cs vs node path shape ≡ value x → Told (take cell_count cs) (take value_count vs) node path shape x
unfolding nearest_answer
told ns cs vs node path shape x e =
    let cs' = take cell_count cs in
    let vs' = take value_count vs in
    let (_, formed, there, same) = given_passed (long_enough ns cs vs) (well_formed cs') (has_all cs' node path shape) (value (nearest_at cs' vs' node path shape)) (ap is_given e) in
    subst (λ (x : Nearest). Told cs' vs' node path shape x) (same-value (sym same ∙ e)) (told_at cs' vs' node path shape formed (all_there cs' node path shape there).0)
