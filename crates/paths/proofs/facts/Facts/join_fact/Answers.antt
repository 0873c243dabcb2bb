-- `join_fact` meets its contract.
use mathlib.Core.Bool.{cond}
use mathlib.Core.Path.{sym, ap₂, ◌∙◌, subst}
use Prim.Native.Nat.{ℕ, ◌<◌}
use lib.ListN.{get_or}
use Rattle.paths.specs.Images.{set_count, start_of, joined_sets}
use Rattle.paths.proofs.Joins.{cond_lt, picked-number, fact_between}
use Rattle.paths.proofs.facts.Facts.join_fact.Goals as goal

pub join-requires : goal.join-requires
join-requires c =
    let a = c.args in
    let pre = c.requires in
    let v = c.node_at-v.ensures in
    let w = c.node_at-w.ensures in
    let near = picked-number a.back c.node_at-w.result c.node_at-v.result c.pick-near.ensures ∙ ap₂ (cond a.back) w v in
    let far = picked-number a.back c.node_at-v.result c.node_at-w.result c.pick-far.ensures ∙ ap₂ (cond a.back) v w in
    let f = fact_between a.self.now.s.now a.self.now.p.now a.self.now.o.now a.self.now.index.now a.self.now.len a.self.now.n a.self.now.made a.i pre.0 in (
      pre.1,
      a.self.now.made.nodes,
      subst (λ (x : ℕ). x < a.self.now.n) (sym near) (cond_lt a.back (get_or a.self.now.o.now a.i 0) (get_or a.self.now.s.now a.i 0) a.self.now.n f.1 f.0),
      subst (λ (x : ℕ). x < a.self.now.n) (sym far) (cond_lt a.back (get_or a.self.now.s.now a.i 0) (get_or a.self.now.o.now a.i 0) a.self.now.n f.0 f.1),
    )

pub returns : goal.returns
returns c =
    let a = c.args in
    let v = c.node_at-v.ensures in
    let w = c.node_at-w.ensures in
    c.join.ensures ∙ ap₂ (λ (near far : ℕ). joined_sets (set_count a.sets) near far (start_of a.sets a.from.now) a.into.now) (picked-number a.back c.node_at-w.result c.node_at-v.result c.pick-near.ensures ∙ ap₂ (cond a.back) w v) (picked-number a.back c.node_at-v.result c.node_at-w.result c.pick-far.ensures ∙ ap₂ (cond a.back) v w)
