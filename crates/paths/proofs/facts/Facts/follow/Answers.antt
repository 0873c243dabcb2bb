-- `follow` meets its contract, by the laws of each kind of end.
use mathlib.Core.Path.{◌∙◌}
use Rattle.paths.specs.Over.{triples_over}
use Rattle.paths.specs.Images.{set_count, start_of}
use Rattle.paths.proofs.Ends.{end_below, end_itself, end-link, end_path}
use Rattle.paths.proofs.facts.Facts.follow.Goals as goal

pub spread-requires : goal.spread-requires
spread-requires c =
    let a = c.args in
    let pre = c.requires in
    (end_below a.self.cells.now c.in-Path.is pre.0, pre.1)

pub returns-in-Itself : goal.returns-in-Itself
returns-in-Itself c =
    let a = c.args in
    c.join_itself.ensures ∙ end_itself (set_count a.sets) a.self.n a.self.cells.now a.back (start_of a.sets a.from.now) a.into.now (triples_over a.self) c.in-Itself.is

pub returns-in-Link : goal.returns-in-Link
returns-in-Link c =
    let a = c.args in
    c.join_link.ensures ∙ end-link (set_count a.sets) a.self.n a.self.cells.now a.back (start_of a.sets a.from.now) a.into.now a.self.s.now a.self.p.now a.self.o.now a.self.len c.in-Link.is

pub returns-in-Path : goal.returns-in-Path
returns-in-Path c =
    let a = c.args in
    c.spread.ensures ∙ end_path (set_count a.sets) a.self.n a.self.cells.now a.back (start_of a.sets a.from.now) a.into.now (triples_over a.self) c.in-Path.is
