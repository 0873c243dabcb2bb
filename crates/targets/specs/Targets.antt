-- A target in the model, and where the facts of a link lead.
use Rattle.std.specs.Prelude.{ℕ, ◌<◌, List, Bool}
use Rattle.model.specs.Paths.{ends, predicate}
use Rattle.model.specs.Rules as model
use Rattle.model.specs.Rules.{subjects_of, objects_of, target_class}
use Rattle.tables.specs.Layout.{node_count}
use Rattle.tables.specs.Decode.{triples_at}
use Rattle.paths.specs.Images.{converse_if, image}
use Rattle.targets.specs.declared.Target.{Target}
use Rattle.targets.specs.declared.Target.TheVariants.{From, Into, Typed}

-- the target in the model
abbrev pub target_in : Target → model.Target
target_in (From p) = subjects_of p.0
target_in (Into p) = objects_of p.0
target_in (Typed c) = target_class c.0

-- the class of Typed is a node
abbrev pub TargetOk : List ℕ → Target → Type 0
TargetOk cs (From p) = Unit {0}
TargetOk cs (Into p) = Unit {0}
TargetOk cs (Typed c) = c.0 < node_count cs

-- the facts of link l lead to v from a member of a set; read backwards where back
unfoldable pub link_ends : List ℕ → ℕ → Bool → (ℕ → Bool) → ℕ → Bool
link_ends cs l back set v = image (node_count cs) (converse_if back (ends (node_count cs) (triples_at cs) (predicate l))) set v
