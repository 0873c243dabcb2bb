-- What is asked of lent tables, and the end of a path condition as the code has it.
use Rattle.std.specs.Prelude.{ℕ, ◌<◌, List, cond, eqb}
use Rattle.tables.specs.Layout.{node_count, form_count, no_number}
use Rattle.paths.specs.Facts.{Tables}
use Rattle.paths.specs.declared.End.{End}
use Rattle.paths.specs.declared.End.TheVariants.{Itself, Path}

-- well_formed_lem tables and the index of their facts, with a form entry and a node
pub record Asked (cs index : List ℕ) (e v : ℕ) : Type 0 where
  pub tables : Tables cs index
  pub entry : e < form_count cs
  pub node : v < node_count cs

-- the operand END: `id` or a path entry
unfoldable pub end_for : ℕ → End
end_for p = cond (eqb p no_number) Itself (Path p)
