-- What an end of the code is in the model, and when it names a path entry that is there.
use Rattle.std.specs.Prelude.{ℕ, List, Bool, true, ltb}
use Rattle.model.specs.Paths as model
use Rattle.model.specs.Paths.{predicate, self, along}
use Rattle.tables.specs.Layout.{path_count}
use Rattle.tables.specs.Decode.{path_at}
use Rattle.paths.specs.declared.End.{End}
use Rattle.paths.specs.declared.End.TheVariants.{Itself, Link, Path}

-- the end in the model
unfoldable pub end_in : List ℕ → End → model.End
end_in cs Itself = self
end_in cs (Link p) = along (predicate p.0)
end_in cs (Path e) = along (path_at cs e)

-- a path entry that is there
unfoldable pub end_known : List ℕ → End → Bool
end_known cs Itself = true
end_known cs (Link p) = true
end_known cs (Path e) = ltb e (path_count cs)
