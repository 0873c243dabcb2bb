-- `lang_holds` meets its contract: the ends, and no two with one language.
use mathlib.Core.Path.{ap, ◌∙◌}
use Prim.Native.Nat.{ℕ}
use Rattle.model.specs.Paths.{ends, ends_of}
use mathlib.Core.Bool.{Bool, ◌&&◌}
use Rattle.nodeset.specs.Words.{has, words_of}
use Rattle.conditions.proofs.Langs.{onelang-kept, unlike_tagged, has-tagged}
use Rattle.tables.specs.Layout.{node_count}
use Rattle.tables.specs.Decode.{triples_at, path_at}
use Rattle.paths.specs.Ends.{end_in}
use Rattle.entries.proofs.Ends.{path-ok}
use Rattle.entries.proofs.Codes.{nodes_le, lang_path}
use Rattle.entries.proofs.Forms.{set-lang}
use Rattle.entries.proofs.Question.lang_holds.Goals as goal

pub ends-set-requires : goal.ends-set-requires
ends-set-requires c =
    let a = c.args in
    let cs = a.self.tables.cells.now in
    let p = a.self.asked in
    path-ok cs (c.wide.ensures ∙ c.form_first.ensures) (lang_path cs p.tables a.self.tables.values.now a.self.form p.entry c.requires)

pub first_clash-requires : goal.first_clash-requires
first_clash-requires c = nodes_le c.args.self.tables.cells.now c.args.self.asked.tables

pub returns : goal.returns
unfolding end_in ends_of
returns c =
    let a = c.args in
    let cs = a.self.tables.cells.now in
    let vs = a.self.tables.values.now in
    let p = a.self.asked in
    let found : ℕ → Bool = has c.ends-set.result.words in
    let langs = c.languages-langs in
    onelang-kept cs vs (λ w. found w && has langs.result.words w) c.first_clash.result (c.first_clash.ensures vs) c.is_none.ensures ∙ unlike_tagged cs vs found (λ w. found w && has langs.result.words w) (has-tagged cs (nodes_le cs p.tables) langs.ensures found)
    ∙ set-lang cs vs a.self.form a.self.node.0 p (c.ends-set.ensures ∙ ap (λ (i : ℕ). words_of (ends (node_count cs) (triples_at cs) (path_at cs i) a.self.node.0) 16) (c.wide.ensures ∙ c.form_first.ensures)) c.requires
