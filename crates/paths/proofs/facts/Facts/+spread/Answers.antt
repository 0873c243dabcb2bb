-- `spread` and what it calls meet their contracts, by the laws of each code. They fall on path entry numbers.
use Prim.Native.Nat.{ℕ, ◌+◌, ◌*◌, ◌<◌, ◌≤◌}
use mathlib.Core.Bool.{Bool, not, cond}
use mathlib.Core.List.{List}
use mathlib.Core.Path.{◌≡◌, refl, sym, ap, ap₂, ◌∙◌, subst}
use native.Mathlib.Omega.{arith}
use lib.Dec.{eqb}
use lib.ListN.{replicate}
use Rattle.model.specs.Limits.{max_nodes}
use Rattle.model.specs.Paths.{Path}
use Rattle.tables.specs.Codes as codes
use Rattle.tables.specs.Layout.{path_count}
use Rattle.tables.specs.Decode.{path_at}
use Rattle.paths.specs.Facts.{edges}
use Rattle.paths.specs.Over.{triples_over}
use Rattle.paths.specs.Images.{set_count, start_of, Room, with_images, with_ends}
use Rattle.paths.specs.declared.Sets.{Sets}
use Rattle.paths.specs.declared.Sets.TheVariants.{Own}
use Rattle.paths.proofs.Joins.{cond_lt, room-kept}
use Rattle.paths.proofs.Entries.{repeated_path, inv_below, parts_below, repeat-part-below, path_repeat}
use Rattle.paths.proofs.Codes.{spread_link, spread_inv, spread_alt, spread_seq}
use Rattle.paths.proofs.Nodes.{ends-nodes}
use Rattle.paths.proofs.Repeats.{ends-repeated, mid_ok, all_words, own_words, carried_room, own_room}
use Rattle.paths.proofs.facts.Facts.+spread.Goals as goal

-- a call at an entry below
lower : {t e x m : ℕ} → 4 * m + 3 < t → x ≡ m → m < e → (cs : List ℕ) → e < path_count cs → (n : ℕ) (sets : Sets) (from into : List ℕ) → Room sets n from into → (4 * x + 3 < t) × ((x < path_count cs) × Room sets n from into)
lower q f l cs h n sets from into room = (omega arith, (omega arith, room))

-- one of two entries below
picked : {x y z e : ℕ} (b : Bool) → x ≡ cond b y z → y < e → z < e → x < e
picked {y = y} {z = z} {e = e} b q l r = subst (λ (x : ℕ). x < e) (sym q) (cond_lt b y z e l r)

pub repeat-slice_bounds-spread-end : goal.repeat-slice_bounds-spread-end
repeat-slice_bounds-spread-end t c = refl

pub repeat-spread-requires : goal.repeat-spread-requires
repeat-spread-requires t c = let a = c.args in let q = c.decreases in let pre = c.requires in let l = repeat-part-below a.self.now.cells.now a.self.now.formed a.e pre.0 pre.2 in lower (omega (arith, q, l)) c.path_first-a.ensures l a.self.now.cells.now pre.0 a.self.now.n Own a.from.now (replicate (16 * max_nodes) 0) (omega arith, own_words a.self.now.n a.self.now.made.nodes)

pub repeat-close_rows-requires : goal.repeat-close_rows-requires
repeat-close_rows-requires t c = let a = c.args in let q = c.decreases in let pre = c.requires in let r = own_room a.self.now.n (16 * max_nodes) (triples_over a.self.now) (path_at a.self.now.cells.now c.path_first-a.result) a.back a.from.now (ends-nodes a.self.now.s.now a.self.now.p.now a.self.now.o.now a.self.now.index.now a.self.now.len a.self.now.n a.self.now.made (path_at a.self.now.cells.now c.path_first-a.result)) c.spread.ensures in (a.self.now.made.nodes, omega (arith, r.0, a.self.now.made.nodes), r.1)

pub repeat-invariant_of-pairs : goal.repeat-invariant_of-pairs
repeat-invariant_of-pairs t c = let a = c.args in let q = c.decreases in let pre = c.requires in let r = own_room a.self.now.n (16 * max_nodes) (triples_over a.self.now) (path_at a.self.now.cells.now c.path_first-a.result) a.back a.from.now (ends-nodes a.self.now.s.now a.self.now.p.now a.self.now.o.now a.self.now.index.now a.self.now.len a.self.now.n a.self.now.made (path_at a.self.now.cells.now c.path_first-a.result)) c.spread.ensures in let k = c.close_rows.auto.rows in record { few = a.self.now.made.nodes; room = omega (arith, k, r.0, a.self.now.made.nodes); within = c.close_rows.ensures.within }

pub repeat-gain-requires : goal.repeat-gain-requires
repeat-gain-requires t c = c.requires.1

pub repeat-returns : goal.repeat-returns
repeat-returns t c = let a = c.args in let q = c.decreases in let pre = c.requires in let p = path_at a.self.now.cells.now c.path_first-a.result in
    c.gain.ensures
    ∙ ends-repeated (set_count a.sets) a.self.now.n a.self.now.made.nodes (eqb c.path_code-none.result codes.path_star) a.back (start_of a.sets a.from.now) a.into.now (16 * max_nodes) (omega (arith, a.self.now.made.nodes)) a.from.now (triples_over a.self.now) p (ends-nodes a.self.now.s.now a.self.now.p.now a.self.now.o.now a.self.now.index.now a.self.now.len a.self.now.n a.self.now.made p) c.spread.ensures c.close_rows.ensures.new_rows
    ∙ ap (λ (x : Path). with_ends (set_count a.sets) a.self.now.n (triples_over a.self.now) x a.back (start_of a.sets a.from.now) a.into.now) (ap₂ (λ (k x : ℕ). repeated_path (eqb k codes.path_star) (path_at a.self.now.cells.now x)) c.path_code-none.ensures c.path_first-a.ensures ∙ sym (path_repeat a.self.now.cells.now a.self.now.formed a.e pre.0 pre.2))

pub seq-set_words-requires : goal.seq-set_words-requires
seq-set_words-requires t c = c.args.self.now.made.nodes

pub seq-seq_few-requires : goal.seq-seq_few-requires
seq-seq_few-requires t c = let a = c.args in let q = c.decreases in let pre = c.requires in (omega (arith, q), (pre.0, pre.1, pre.2, subst (λ (k : ℕ). k ≤ max_nodes) c.set_words.ensures c.if-set_words-le-MAX_NODES.true))

pub seq-seq_many-requires : goal.seq-seq_many-requires
seq-seq_many-requires t c = let a = c.args in let q = c.decreases in let pre = c.requires in (omega (arith, q), (pre.0, pre.1, pre.2))

pub seq-returns-then-set_words-le-MAX_NODES : goal.seq-returns-then-set_words-le-MAX_NODES
seq-returns-then-set_words-le-MAX_NODES t c = c.seq_few.ensures

pub seq-returns-else-set_words-le-MAX_NODES : goal.seq-returns-else-set_words-le-MAX_NODES
seq-returns-else-set_words-le-MAX_NODES t c = c.seq_many.ensures

pub seq_by-spread-requires : goal.seq_by-spread-requires
seq_by-spread-requires t c = let a = c.args in let q = c.decreases in let pre = c.requires in let l = parts_below a.self.now.cells.now a.self.now.formed a.e pre.0 (omega (arith, pre.2)) (omega (arith, pre.2)) in let x = picked {e = a.e} a.back c.pick-x.ensures (omega (arith, c.path_first-a.ensures, c.path_second-b.ensures, l.0, l.1)) (omega (arith, c.path_first-a.ensures, c.path_second-b.ensures, l.0, l.1)) in lower (omega (arith, q, x)) refl x a.self.now.cells.now pre.0 a.self.now.n a.sets a.from.now a.mid.now (pre.1.0, pre.3.1)

pub seq_by-spread-requires-2 : goal.seq_by-spread-requires-2
seq_by-spread-requires-2 t c = let a = c.args in let q = c.decreases in let pre = c.requires in let l = parts_below a.self.now.cells.now a.self.now.formed a.e pre.0 (omega (arith, pre.2)) (omega (arith, pre.2)) in let x = picked {e = a.e} a.back c.pick-y.ensures (omega (arith, c.path_first-a.ensures, c.path_second-b.ensures, l.0, l.1)) (omega (arith, c.path_first-a.ensures, c.path_second-b.ensures, l.0, l.1)) in lower (omega (arith, q, x)) refl x a.self.now.cells.now pre.0 a.self.now.n c.carried-next.result c.spread.new.into a.into.now (carried_room a.sets a.self.now.n a.from.now a.mid.now c.spread.new.into a.into.now c.carried-next.ensures c.spread.auto.into pre.3.1 pre.1)

pub seq_by-returns : goal.seq_by-returns
seq_by-returns t c = let a = c.args in let q = c.decreases in let pre = c.requires in c.spread-2.ensures ∙ spread_seq a.self.now.cells.now a.self.now.formed a.e pre.0 a.sets a.self.now.n a.back (start_of a.sets a.from.now) a.into.now (triples_over a.self.now) pre.2 c.pick-x.result c.pick-y.result (c.pick-x.ensures ∙ ap₂ (cond a.back) c.path_second-b.ensures c.path_first-a.ensures) (c.pick-y.ensures ∙ ap₂ (cond a.back) c.path_first-a.ensures c.path_second-b.ensures) pre.3 c.spread.ensures c.carried-next.ensures

pub seq_few-slice_bounds-seq_by-end : goal.seq_few-slice_bounds-seq_by-end
seq_few-slice_bounds-seq_by-end t c = refl

pub seq_few-seq_by-requires : goal.seq_few-seq_by-requires
seq_few-seq_by-requires t c = let a = c.args in let q = c.decreases in let pre = c.requires in (omega (arith, q), (pre.0, pre.1, pre.2, mid_ok a.sets a.self.now.n max_nodes a.self.now.made.nodes (omega arith) pre.3))

pub seq_few-returns : goal.seq_few-returns
seq_few-returns t c = c.seq_by.ensures

pub seq_many-slice_bounds-seq_by-end : goal.seq_many-slice_bounds-seq_by-end
seq_many-slice_bounds-seq_by-end t c = refl

pub seq_many-seq_by-requires : goal.seq_many-seq_by-requires
seq_many-seq_by-requires t c = let a = c.args in let q = c.decreases in let pre = c.requires in (omega (arith, q), (pre.0, pre.1, pre.2, mid_ok a.sets a.self.now.n (16 * max_nodes) a.self.now.made.nodes (omega arith) (all_words a.sets a.self.now.n a.self.now.made.nodes)))

pub seq_many-returns : goal.seq_many-returns
seq_many-returns t c = c.seq_by.ensures

pub spread-join_link-requires : goal.spread-join_link-requires
spread-join_link-requires t c = let a = c.args in let q = c.decreases in let pre = c.requires in pre.1

pub spread-spread-requires : goal.spread-spread-requires
spread-spread-requires t c = let a = c.args in let q = c.decreases in let pre = c.requires in let l = inv_below a.self.now.cells.now a.self.now.formed a.e pre.0 (sym c.path_code.ensures ∙ c.in-1.is) in lower (omega (arith, q, l)) c.path_first-a.ensures l a.self.now.cells.now pre.0 a.self.now.n a.sets a.from.now a.into.now pre.1

pub spread-seq-requires : goal.spread-seq-requires
spread-seq-requires t c = let a = c.args in let q = c.decreases in let pre = c.requires in (omega (arith, q), (pre.0, pre.1, sym c.path_code.ensures ∙ c.in-2.is))

pub spread-spread-requires-in-3 : goal.spread-spread-requires-in-3
spread-spread-requires-in-3 t c = let a = c.args in let q = c.decreases in let pre = c.requires in let l = parts_below a.self.now.cells.now a.self.now.formed a.e pre.0 (omega (arith, c.path_code.ensures, c.in-3.is)) (omega (arith, c.path_code.ensures, c.in-3.is)) in lower (omega (arith, q, l.0)) c.path_first-a.ensures l.0 a.self.now.cells.now pre.0 a.self.now.n a.sets a.from.now a.into.now pre.1

pub spread-spread-requires-in-3-2 : goal.spread-spread-requires-in-3-2
spread-spread-requires-in-3-2 t c = let a = c.args in let q = c.decreases in let pre = c.requires in let l = parts_below a.self.now.cells.now a.self.now.formed a.e pre.0 (omega (arith, c.path_code.ensures, c.in-3.is)) (omega (arith, c.path_code.ensures, c.in-3.is)) in lower (omega (arith, q, l.1)) c.path_second-b.ensures l.1 a.self.now.cells.now pre.0 a.self.now.n a.sets a.from.now c.spread-in-3.new.into (room-kept a.sets a.self.now.n a.from.now a.into.now c.spread-in-3.new.into c.spread-in-3.auto.into pre.1)

pub spread-repeat-requires : goal.spread-repeat-requires
spread-repeat-requires t c = let a = c.args in let q = c.decreases in let pre = c.requires in (omega (arith, q), (pre.0, pre.1, omega (arith, c.path_code.ensures, c.in_default.in_default-own.rest)))

pub spread-returns-in-0 : goal.spread-returns-in-0
spread-returns-in-0 t c = let a = c.args in let q = c.decreases in let pre = c.requires in c.join_link.ensures ∙ ap (λ (l : ℕ). with_images (set_count a.sets) a.self.now.n (edges a.self.now.s.now a.self.now.p.now a.self.now.o.now l a.back a.self.now.len) (start_of a.sets a.from.now) a.into.now) c.path_link.ensures ∙ spread_link a.self.now.cells.now a.self.now.formed a.e pre.0 a.sets a.self.now.n a.back (start_of a.sets a.from.now) a.into.now a.self.now.s.now a.self.now.p.now a.self.now.o.now a.self.now.len (sym c.path_code.ensures ∙ c.in-0.is)

pub spread-returns-in-1 : goal.spread-returns-in-1
spread-returns-in-1 t c = let a = c.args in let q = c.decreases in let pre = c.requires in c.spread.ensures ∙ ap (λ (x : ℕ). with_ends (set_count a.sets) a.self.now.n (triples_over a.self.now) (path_at a.self.now.cells.now x) (not a.back) (start_of a.sets a.from.now) a.into.now) c.path_first-a.ensures ∙ spread_inv a.self.now.cells.now a.self.now.formed a.e pre.0 a.sets a.self.now.n a.back (start_of a.sets a.from.now) a.into.now (triples_over a.self.now) (sym c.path_code.ensures ∙ c.in-1.is)

pub spread-returns-in-2 : goal.spread-returns-in-2
spread-returns-in-2 t c = c.seq.ensures

pub spread-returns-in-3 : goal.spread-returns-in-3
spread-returns-in-3 t c = let a = c.args in let q = c.decreases in let pre = c.requires in c.spread-in-3-2.ensures ∙ ap₂ (λ (x : ℕ) (m : List ℕ). with_ends (set_count a.sets) a.self.now.n (triples_over a.self.now) (path_at a.self.now.cells.now x) a.back (start_of a.sets a.from.now) m) c.path_second-b.ensures (c.spread-in-3.ensures ∙ ap (λ (x : ℕ). with_ends (set_count a.sets) a.self.now.n (triples_over a.self.now) (path_at a.self.now.cells.now x) a.back (start_of a.sets a.from.now) a.into.now) c.path_first-a.ensures) ∙ spread_alt a.self.now.cells.now a.self.now.formed a.e pre.0 a.sets a.self.now.n a.back (start_of a.sets a.from.now) a.into.now (triples_over a.self.now) (sym c.path_code.ensures ∙ c.in-3.is)

pub spread-returns-in_default : goal.spread-returns-in_default
spread-returns-in_default t c = c.repeat.ensures
