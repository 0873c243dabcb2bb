-- What a memo says of itself.
use Prim.Native.Nat.{ℕ, ◌<◌}
use Rattle.tables.specs.Layout.{node_count, form_count}
use mathlib.Core.List.{List}
use mathlib.Core.Path.{◌≡◌, subst}
use Rattle.paths.specs.declared.indexed.Indexed.{Indexed}
use Rattle.verdict.specs.Memo.{Ready, Settled}
use Rattle.verdict.specs.Parts.{PartsKnown, Enough}
use Rattle.verdict.specs.declared.kept.Memo.{Memo}

module _ (m : Memo) {e : ℕ} where
  pub ready : e < form_count m.tables.cells.now → Ready m.tables.cells.now m.tables.index.now m.tables.values.now m.words e
  ready l = record { tables = m.tables.made; size = m.size; right = m.right; entry = l }

  pub enough : {v : ℕ} → (e < form_count m.tables.cells.now) × (v < node_count m.tables.cells.now) × PartsKnown m.tables.cells.now e m.words v → Enough m.tables.cells.now m.tables.index.now m.tables.values.now m.words e v
  enough h = record { ready = ready h.0; node = h.1; parts = h.2 }

-- over the same tables
pub settled_over : {s t : Indexed} {before after : List ℕ} {e : ℕ} {nodes : List ℕ} → s ≡ t → Settled s.cells.now s.values.now before after e nodes → Settled t.cells.now t.values.now before after e nodes
settled_over {before = before} {after = after} {e = e} {nodes = nodes} q h = subst (λ (t : Indexed). Settled t.cells.now t.values.now before after e nodes) q h
