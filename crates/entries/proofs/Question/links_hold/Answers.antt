-- `links_hold` meets its contract: the set of listed links has the links of the list.
use mathlib.Core.List.{[]}
use mathlib.Core.Path.{◌∙◌}
use Rattle.nodeset.specs.Words.{has}
use Rattle.model.specs.Shapes.{only_listed}
use Rattle.tables.specs.Layout.{form_first_at, form_second_at}
use Rattle.tables.specs.Decode.{triples_at}
use Rattle.conditions.proofs.Items.{closed-kept, links-has}
use Rattle.entries.proofs.Codes.{sound_of, closed-links}
use Rattle.entries.proofs.Question.links_hold.Goals as goal

pub returns : goal.returns
returns c =
    let a = c.args in
    let cs = a.self.tables.cells.now in
    let p = a.self.asked in
    let i = form_first_at cs a.self.form in
    let n = form_second_at cs a.self.form in
    closed-kept cs (has c.listed_links-links.result.words) a.self.node.0 c.first_unlisted.result c.first_unlisted.ensures c.is_none.ensures ∙ (λ j. only_listed (triples_at cs) (λ l. links-has cs i n (closed-links cs p.tables [] a.self.form p.entry c.requires) (sound_of cs p.tables).links c.listed_links-links.ensures l j) a.self.node.0)
