-- `remember` meets its contract: one number joins, and it is right.
use mathlib.Core.Path.{ap, ◌∙◌}
use Rattle.nodeset.specs.Words.{with}
use Rattle.entries.proofs.Codes.{nodes_le}
use Rattle.verdict.proofs.Memo.{right-more}
use Rattle.verdict.proofs.kept.Memo.remember.Goals as goal

pub invariant_of-self : goal.invariant_of-self
invariant_of-self c =
    let m = c.args.self.now in
    let cs = m.tables.cells.now in
    record {
      size = c.insert.auto.words ∙ m.size;
      right = right-more cs m.tables.values.now m.words c.insert.new.words c.args.e c.args.v.0 c.args.yes m.right c.requires.1 (nodes_le cs m.tables.made) c.requires.2 (c.insert.ensures ∙ ap (with m.words) c.pick-place.ensures);
    }

pub returns-clause-words : goal.returns-clause-words
returns-clause-words c = c.insert.ensures ∙ ap (with c.args.self.now.words) c.pick-place.ensures
