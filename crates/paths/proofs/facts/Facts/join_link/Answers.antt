-- `join_link` meets its contract. The invariant: what is left of the chain, onto what was joined, is what all facts of the link add.
use Prim.Native.Nat.{ℕ, suc, ◌≤◌, ◌<◌, ◌-◌}
use mathlib.Core.Bool.{cond}
use mathlib.Core.Path.{◌≡◌, refl, sym, ap, ◌∙◌, subst}
use native.Mathlib.Omega.{arith}
use lib.ListN.{get_or}
use Rattle.chains.proofs.Chains.{last_le, last-key, walk_falls, walk_next}
use Rattle.model.specs.Limits.{max_links}
use Rattle.paths.specs.Facts.{edges}
use Rattle.paths.specs.Images.{with_images, set_count, start_of}
use Rattle.paths.proofs.Joins.{room-kept, chain-begins, chain-rest, chain_more, chain-ends, joined_small}
use Rattle.paths.proofs.facts.Facts.join_link.Goals as goal

pub loop-next-init : goal.loop-next-init
loop-next-init c =
    let a = c.args in
    let key : ℕ → ℕ = λ i. get_or a.self.now.p.now i 0 in
    let e = chain-begins a.self.now.s.now a.self.now.p.now a.self.now.o.now a.self.now.index.now a.self.now.len a.self.now.n a.self.now.made a.l.0 c.last_fact-next.ensures in (
      subst (λ (k : ℕ). k ≤ a.self.now.len) (sym e) (last_le key a.l.0 a.self.now.len),
      refl,
      λ i. (c.type_inv.into i).fits,
      λ l q. (λ i f. last-key key l a.self.now.len i (sym q ∙ f), chain-rest a.self.now.s.now a.self.now.p.now a.self.now.o.now a.self.now.index.now a.self.now.len a.self.now.n a.self.now.made (set_count a.sets) l a.back (start_of a.sets a.from.now) a.into.now a.self.now.len q),
    )

pub join_fact-requires : goal.join_fact-requires
join_fact-requires c =
    let a = c.args in
    let t = c.loop-next in
    let i : ℕ = t.next - 1 in
    let l : i < a.self.now.len = omega (arith, t.invariant.0, c.loop-next-test.true) in
    (l, room-kept a.sets a.self.now.n a.from.now a.into.now t.into t.invariant.1 c.requires)

pub next_fact-next-requires : goal.next_fact-next-requires
next_fact-next-requires c = omega (arith, c.loop-next.invariant.0, c.args.self.now.made.few)

pub loop-next-smaller : goal.loop-next-smaller
loop-next-smaller c =
    let a = c.args in
    let t = c.loop-next in
    let i : ℕ = t.next - 1 in
    let l : i < a.self.now.len = omega (arith, t.invariant.0, c.loop-next-test.true) in
    let h : c.next_fact-next.result ≤ i = walk_falls (λ k. get_or a.self.now.p.now k 0) a.self.now.len max_links 0 max_links c.args.self.now.made.indexed i l c.next_fact-next.ensures in
    omega (arith, h, c.loop-next-test.true)

pub loop-next-preserved : goal.loop-next-preserved
loop-next-preserved c =
    let a = c.args in
    let t = c.loop-next in
    let i : ℕ = t.next - 1 in
    let l : i < a.self.now.len = omega (arith, t.invariant.0, c.loop-next-test.true) in
    let q : t.next ≡ suc i = omega (arith, c.loop-next-test.true) in
    let step = c.next_fact-next.ensures in
    let h : c.next_fact-next.result ≤ i = walk_falls (λ k. get_or a.self.now.p.now k 0) a.self.now.len max_links 0 max_links c.args.self.now.made.indexed i l step in (
      omega (arith, h, l),
      c.join_fact.auto.into ∙ t.invariant.1,
      joined_small (set_count a.sets) (cond a.back (get_or a.self.now.o.now i 0) (get_or a.self.now.s.now i 0)) (cond a.back (get_or a.self.now.s.now i 0) (get_or a.self.now.o.now i 0)) (start_of a.sets a.from.now) t.into c.join_fact.ensures,
      λ p e.
          let own = t.invariant.3 p e in
          let k = own.0 i q in
          let after = walk_next (λ k. get_or a.self.now.p.now k 0) a.self.now.len max_links 0 max_links c.args.self.now.made.indexed p i l k step in
          (λ j f. last-key (λ i. get_or a.self.now.p.now i 0) p i j (sym after ∙ f), chain_more a.self.now.s.now a.self.now.p.now a.self.now.o.now a.self.now.index.now a.self.now.len a.self.now.n a.self.now.made (set_count a.sets) p a.back (start_of a.sets a.from.now) t.into i l k c.join_fact.ensures after ∙ ap (λ (k : ℕ). with_images (set_count a.sets) a.self.now.n (edges a.self.now.s.now a.self.now.p.now a.self.now.o.now p a.back k) (start_of a.sets a.from.now) t.into) (sym q) ∙ own.1),
    )

pub returns : goal.returns
returns c =
    let a = c.args in
    let t = c.loop-next in
    let z : 0 ≡ t.next = omega (arith, c.loop-next-test.false) in
    chain-ends a.self.now.s.now a.self.now.p.now a.self.now.o.now a.self.now.index.now a.self.now.len a.self.now.n a.self.now.made (set_count a.sets) a.l.0 a.back (start_of a.sets a.from.now) t.into t.invariant.2
    ∙ ap (λ (k : ℕ). with_images (set_count a.sets) a.self.now.n (edges a.self.now.s.now a.self.now.p.now a.self.now.o.now a.l.0 a.back k) (start_of a.sets a.from.now) t.into) z
    ∙ (t.invariant.3 a.l.0 (chain-begins a.self.now.s.now a.self.now.p.now a.self.now.o.now a.self.now.index.now a.self.now.len a.self.now.n a.self.now.made a.l.0 c.last_fact-next.ensures)).1
