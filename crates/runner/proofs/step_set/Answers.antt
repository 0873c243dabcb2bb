-- `step_set` meets its contract, case by case.
use Prim.Native.Nat.{ℕ, ◌*◌}
use mathlib.Core.Bool.{◌&&◌, ◌||◌}
use mathlib.Core.Path.{◌≡◌, sym, ap, ◌∙◌, subst}
use native.Mathlib.Omega.{arith}
use lib.Dec.{ltb}
use lib.ListN.{drop}
use Rattle.nodeset.specs.Words.{has, words_of, nodes_of}
use Rattle.plan.specs.Layout.{step_at}
use Rattle.targets.specs.Classes.{sub_of}
use Rattle.runner.specs.declared.Kind.{Kind}
use Rattle.runner.specs.Steps.{step_from}
use Rattle.runner.proofs.Sets.{kind_set, KindOk, kind_ok, kind-from}
use Rattle.runner.proofs.step_set.Given.{Over}
use Rattle.runner.proofs.step_set.Goals as goal
use Rattle.runner.proofs.step_set.Goals.{After-step_kind}

-- the words that its kind asks for are its set; what the calls require of its kind
module _ (g : Over) (c : After-step_kind g) where
  words : {x : Kind} → c.step_kind.result ≡ x → kind_set (sub_of c.args.sub) c.args.rows.now.tables.cells.now c.args.rows.now.tables.values.now c.args.work.now x ≡ step_from (sub_of c.args.sub) c.args.rows.now.tables.cells.now c.args.rows.now.tables.values.now c.args.plan.now c.args.work.now c.args.k
  words e =
      let t = c.args.rows.now.tables in
      ap (kind_set (sub_of c.args.sub) t.cells.now t.values.now c.args.work.now) (sym e ∙ c.step_kind.ensures) ∙ kind-from (sub_of c.args.sub) t.cells.now t.index.now t.made t.values.now c.args.work.now c.args.k c.args.plan.now c.requires.1

  right : {x : Kind} → c.step_kind.result ≡ x → KindOk c.args.rows.now.tables.cells.now x
  right e =
      let cs = c.args.rows.now.tables.cells.now in
      subst (KindOk cs) (sym c.step_kind.ensures ∙ e) (kind_ok cs c.args.k c.requires.0 (step_at c.args.plan.now c.args.k) c.requires.1)

pub plain_set-requires : goal.plain_set-requires
plain_set-requires g c = right g (goal.at.plain_set-requires g c).After-step_kind c.in-Node.is

pub both_set-requires : goal.both_set-requires
both_set-requires g c = right g (goal.at.both_set-requires g c).After-step_kind c.in-Both.is

pub either_set-requires : goal.either_set-requires
either_set-requires g c = right g (goal.at.either_set-requires g c).After-step_kind c.in-Either.is

pub path_set-requires : goal.path_set-requires
path_set-requires g c = (omega (arith, c.args.rows.now.fits), right g (goal.at.path_set-requires g c).After-step_kind c.in-Path.is)

pub ends_set-requires : goal.ends_set-requires
ends_set-requires g c = (omega (arith, c.args.rows.now.fits), right g (goal.at.ends_set-requires g c).After-step_kind c.in-Ends.is)

pub lang_set-requires : goal.lang_set-requires
lang_set-requires g c = (omega (arith, c.args.rows.now.fits), right g (goal.at.lang_set-requires g c).After-step_kind c.in-Lang.is)

pub target_set-requires : goal.target_set-requires
target_set-requires g c = right g (goal.at.target_set-requires g c).After-step_kind c.in-Selected.is

pub links_set-requires : goal.links_set-requires
links_set-requires g c = right g (goal.at.links_set-requires g c).After-step_kind c.in-Links.is

pub returns-in-Whole-clause-words_value : goal.returns-in-Whole-clause-words_value
unfolding kind_set
returns-in-Whole-clause-words_value g c = c.whole.ensures ∙ ap (λ (m : ℕ). words_of (λ v. ltb v m) 16) c.node_count-n.ensures ∙ words g (goal.at.returns-in-Whole-clause-words_value g c).After-step_kind c.in-Whole.is

pub returns-in-Empty-clause-words_value : goal.returns-in-Empty-clause-words_value
unfolding kind_set
returns-in-Empty-clause-words_value g c = words g (goal.at.returns-in-Empty-clause-words_value g c).After-step_kind c.in-Empty.is

pub returns-in-Node-clause-words_value : goal.returns-in-Node-clause-words_value
unfolding kind_set
returns-in-Node-clause-words_value g c = c.plain_set.ensures ∙ words g (goal.at.returns-in-Node-clause-words_value g c).After-step_kind c.in-Node.is

pub returns-in-Both-clause-words_value : goal.returns-in-Both-clause-words_value
unfolding kind_set
returns-in-Both-clause-words_value g c = c.both_set.ensures ∙ ap (nodes_of (λ v. has (drop (16 * c.in-Both.i) c.args.work.now) v && has (drop (16 * c.in-Both.j) c.args.work.now) v)) c.node_count-n.ensures ∙ words g (goal.at.returns-in-Both-clause-words_value g c).After-step_kind c.in-Both.is

pub returns-in-Either-clause-words_value : goal.returns-in-Either-clause-words_value
unfolding kind_set
returns-in-Either-clause-words_value g c = c.either_set.ensures ∙ ap (nodes_of (λ v. has (drop (16 * c.in-Either.i) c.args.work.now) v || has (drop (16 * c.in-Either.j) c.args.work.now) v)) c.node_count-n.ensures ∙ words g (goal.at.returns-in-Either-clause-words_value g c).After-step_kind c.in-Either.is

pub returns-in-Path-clause-words_value : goal.returns-in-Path-clause-words_value
unfolding kind_set
returns-in-Path-clause-words_value g c = c.path_set.ensures.words_value ∙ words g (goal.at.returns-in-Path-clause-words_value g c).After-step_kind c.in-Path.is

pub returns-in-Ends-clause-words_value : goal.returns-in-Ends-clause-words_value
unfolding kind_set
returns-in-Ends-clause-words_value g c = c.ends_set.ensures.words_value ∙ words g (goal.at.returns-in-Ends-clause-words_value g c).After-step_kind c.in-Ends.is

pub returns-in-Lang-clause-words_value : goal.returns-in-Lang-clause-words_value
unfolding kind_set
returns-in-Lang-clause-words_value g c = c.lang_set.ensures.words_value ∙ words g (goal.at.returns-in-Lang-clause-words_value g c).After-step_kind c.in-Lang.is

pub returns-in-Selected-clause-words_value : goal.returns-in-Selected-clause-words_value
unfolding kind_set
returns-in-Selected-clause-words_value g c = c.target_set.ensures ∙ words g (goal.at.returns-in-Selected-clause-words_value g c).After-step_kind c.in-Selected.is

pub returns-in-Links-clause-words_value : goal.returns-in-Links-clause-words_value
unfolding kind_set
returns-in-Links-clause-words_value g c = c.links_set.ensures ∙ words g (goal.at.returns-in-Links-clause-words_value g c).After-step_kind c.in-Links.is
