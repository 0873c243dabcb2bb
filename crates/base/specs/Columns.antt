-- Columns of fixed widths, one after the other in a flat list; a column that is not full ends in the default.
use Rattle.std.specs.Prelude.{ℕ, zero, suc, ◌+◌, List, [], ◌∷◌, ◌++◌, get_or}
use Rattle.base.specs.Lists.{values}

pub record Column (A : Type 0) : Type 0 where
  pub width : ℕ
  pub items : List A

module _ {A : Type 0} (d : A) where
  -- a column in its width
  unfoldable pub pad : ℕ → List A → List A
  pad w xs = values (λ i. get_or xs i d) w

  unfoldable pub flat : List (Column A) → List A
  flat [] = []
  flat (c ∷ cs) = pad c.width c.items ++ flat cs

-- where column k begins
abbrev pub offset : {A : Type 0} → List (Column A) → ℕ → ℕ
offset [] k = 0
offset (c ∷ cs) zero = 0
offset (c ∷ cs) (suc k) = c.width + offset cs k

-- column k, and the columns with one more item in column k
abbrev pub column : {A : Type 0} → List (Column A) → ℕ → Column A
column cs k = get_or cs k (record { width = 0; items = [] })

abbrev pub push : {A : Type 0} → List (Column A) → ℕ → A → List (Column A)
push [] k x = []
push (c ∷ cs) zero x = record { width = c.width; items = c.items ++ (x ∷ []) } ∷ cs
push (c ∷ cs) (suc k) x = c ∷ push cs k x
