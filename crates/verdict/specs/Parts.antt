-- The parts of a form entry, and where the verdict on it looks at them: at the node itself, or for `count` and `all` at the ends
-- of the path. An entry with one part has it as both.
use Rattle.std.specs.Prelude.{ℕ, ◌<◌, List, Bool, true, cond, ◌&&◌, ◌||◌, ◌≡◌, eqb, leb, ℤ}
use Rattle.nodeset.specs.Words.{has}
use Rattle.model.specs.Paths.{ends}
use Rattle.model.specs.Shapes.{conforms}
use Rattle.tables.specs.Layout.{node_count, form_code_at, form_first_at, form_second_at, root_at}
use Rattle.tables.specs.Codes as codes
use Rattle.tables.specs.Decode.{triples_at, graph_at, path_at, shape_at}
use Rattle.verdict.specs.Memo.{settled, Ready}

-- by code: `count` and `all`; these and `shape`, `and`, `or`, `not`
abbrev pub ends_code : ℕ → Bool
ends_code k = eqb k codes.form_count || eqb k codes.form_all

abbrev pub parts_code : ℕ → Bool
parts_code k = (leb codes.form_shape k && leb k codes.form_not) || ends_code k

-- the first part, of a shape's root and two operands; the second, of the first and the second operand
abbrev pub first_by : ℕ → ℕ → ℕ → ℕ → ℕ
first_by k root a b = cond (eqb k codes.form_shape) root (cond (leb k codes.form_not) a b)

abbrev pub second_by : ℕ → ℕ → ℕ → ℕ
second_by k first b = cond (eqb k codes.form_and || eqb k codes.form_or) b first

module _ (cs : List ℕ) (e : ℕ) where
  unfoldable pub looks_at_ends : Bool
  looks_at_ends = ends_code (form_code_at cs e)

  unfoldable pub has_parts : Bool
  has_parts = parts_code (form_code_at cs e)

  unfoldable pub first_part : ℕ
  first_part = first_by (form_code_at cs e) (root_at cs (form_first_at cs e)) (form_first_at cs e) (form_second_at cs e)

  unfoldable pub second_part : ℕ
  second_part = second_by (form_code_at cs e) first_part (form_second_at cs e)

  -- the verdict at v looks at the parts at w
  unfoldable pub looks_at : ℕ → ℕ → Bool
  looks_at v w = cond looks_at_ends (ends (node_count cs) (triples_at cs) (path_at cs (form_first_at cs e)) v w) (eqb v w)

  -- wherever it looks, the verdict on the parts is known
  abbrev pub PartsKnown : List ℕ → ℕ → Type 0
  PartsKnown memo v = has_parts ≡ true → (w : ℕ) → w < node_count cs → looks_at v w ≡ true → (settled memo first_part w ≡ true) × (settled memo second_part w ≡ true)

-- a set has the nodes that conform to entry e, of those where what is known is enough to tell
abbrev pub ConformingSet : List ℕ → List ℤ → List ℕ → ℕ → List ℕ → Type 0
ConformingSet cs vs memo e set = (v : ℕ) → v < node_count cs → PartsKnown cs e memo v → has set v ≡ conforms (graph_at cs vs) (shape_at cs vs e) v

-- what is known is enough to tell whether node v conforms to entry e
pub record Enough (cs index : List ℕ) (vs : List ℤ) (memo : List ℕ) (e v : ℕ) : Type 0 where
  pub ready : Ready cs index vs memo e
  pub node : v < node_count cs
  pub parts : PartsKnown cs e memo v
