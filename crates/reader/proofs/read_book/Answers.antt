use mathlib.Core.Path.{◌≡◌, ap, ◌∙◌}
use mathlib.Core.List.{List}
use Prim.Native.Nat.{ℕ}
use native.Mathlib.Omega.{arith}
use Rattle.base.specs.Bytes.{bytes}
use Rattle.model.specs.Books.{links, types}
use Rattle.stores.specs.Lines.{put_name}
use Rattle.model.specs.declared.Counts.{Counts}
use Rattle.std.specs.Prelude.{Ok, Err}
use Rattle.model.specs.declared.Refusal.{Refusal}
use Rattle.reader.proofs.Cleared.{built_names, started}
use Rattle.reader.proofs.Outcomes.{Whole, Turned, was_read, was_turned}
use Rattle.reader.proofs.read_book.Goals as goal
use Rattle.reader.proofs.read_book.Goals.{After-put_built_in, After-read_lines}

-- the tables before the first line
names_then : (c : After-put_built_in) → c.put_built_in.new.names ≡ built_names c.args.names.now
names_then c = c.put_built_in.ensures ∙ ap (λ (l : List ℕ). put_name types 0 (bytes "langstring") (put_name links 0 (bytes "a") l)) c.clear.ensures.new_names

-- what the lines left
whole : (c : After-read_lines) (n : Counts) → c.read_lines.result ≡ Ok n → Whole c.args.book.now c.requires.0 c.read_lines.result c.args.names.now c.put_built_in.new.names c.read_lines.new.names c.args.cells.now c.clear.new.cells c.read_lines.new.cells c.args.values.now c.clear.new.values c.read_lines.new.values (names_then (goal.at.After-read_lines c).After-put_built_in) c.clear.ensures.new_cells c.clear.ensures.new_values n
whole c n e = was_read c.args.book.now c.requires.0 c.read_lines.result c.args.names.now c.put_built_in.new.names c.read_lines.new.names c.args.cells.now c.clear.new.cells c.read_lines.new.cells c.args.values.now c.clear.new.values c.read_lines.new.values (names_then (goal.at.After-read_lines c).After-put_built_in) c.clear.ensures.new_cells c.clear.ensures.new_values c.read_lines.ensures n e

turned : (c : After-read_lines) (x : Refusal) → c.read_lines.result ≡ Err x → Turned c.args.book.now c.requires.0 c.read_lines.result c.args.names.now c.put_built_in.new.names c.read_lines.new.names c.args.cells.now c.clear.new.cells c.read_lines.new.cells c.args.values.now c.clear.new.values c.read_lines.new.values (names_then (goal.at.After-read_lines c).After-put_built_in) c.clear.ensures.new_cells c.clear.ensures.new_values x
turned c x e = was_turned c.args.book.now c.requires.0 c.read_lines.result c.args.names.now c.put_built_in.new.names c.read_lines.new.names c.args.cells.now c.clear.new.cells c.read_lines.new.cells c.args.values.now c.clear.new.values c.read_lines.new.values (names_then (goal.at.After-read_lines c).After-put_built_in) c.clear.ensures.new_cells c.clear.ensures.new_values c.read_lines.ensures x e

pub read_lines-requires : goal.read_lines-requires
read_lines-requires c =
    let s = c.args in
    let p = c.requires in
    let k = c.clear.auto in
    (omega (arith, c.put_built_in.auto.names), omega arith, omega arith, started s.names.now _ s.cells.now _ s.values.now _ (names_then (goal.at.read_lines-requires c).After-put_built_in) c.clear.ensures.new_cells c.clear.ensures.new_values)

pub put_counts-requires : goal.put_counts-requires
put_counts-requires c =
    let w = whole (goal.at.put_counts-requires c).After-read_lines c.in-Ok.counts c.in-Ok.is in
    (omega (arith, c.read_lines.auto, c.clear.auto, c.requires), w.limits, w.fits)

pub returns-in-Ok : goal.returns-in-Ok
returns-in-Ok c =
    let w = whole (goal.at.returns-in-Ok c).After-read_lines c.in-Ok.counts c.in-Ok.is in
    record { result_value = w.answer; new_names = w.names; new_cells = c.put_counts.ensures ∙ w.cells; new_values = w.values }

pub returns-in-Err : goal.returns-in-Err
returns-in-Err c =
    let w = turned (goal.at.returns-in-Err c).After-read_lines c.in-Err.refusal c.in-Err.is in
    let z = c.clear-in-Err.ensures in
    record { result_value = w.answer; new_names = z.new_names ∙ w.names; new_cells = z.new_cells ∙ w.cells; new_values = z.new_values ∙ w.values }
