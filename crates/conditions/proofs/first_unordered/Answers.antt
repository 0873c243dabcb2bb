-- `first_unordered` meets its contract. The invariants: each member of a before x is with no member of b in a pair that is not so
-- ordered, and x with none of the first k seconds.
use Prim.Native.Nat.{ℕ}
use mathlib.Core.Bool.{Bool, true, not, ◌||◌}
use mathlib.Core.Path.{◌≡◌, refl, sym, ap, ◌∙◌, subst}
use native.Mathlib.Omega.{arith}
use lib.Dec.{eqb}
use lib.ListN.{get_or, length}
use Rattle.base.specs.Bounded.{every}
use Rattle.base.proofs.Bounded.{every_more}
use Rattle.base.proofs.Least.{next-after}
use Rattle.nodeset.specs.Words.{has}
use Rattle.tables.specs.Codes as codes
use Rattle.tables.specs.Layout.{kind_at, number_at}
use Rattle.tables.specs.Decode.{term_at}
use Rattle.conditions.specs.Pairs.{unordered, comes_back}
use Rattle.conditions.specs.Searches.{first_pair, among, pair_found}
use Rattle.conditions.proofs.Members.{passed_none, passed_more, passed_all}
use Rattle.conditions.proofs.Listing.{listed-once, quiet, passed_by, pair_miss, row_quiet, pair-hit}
use Rattle.conditions.proofs.Terms.{read_back}
use Rattle.conditions.proofs.Pairs.{order_test}
use Rattle.conditions.proofs.first_unordered.Goals as goal
use Rattle.conditions.proofs.first_unordered.Goals.{After-breaks_order}

pub returns-then-n-x : goal.returns-then-n-x
returns-then-n-x c =
    let a = c.args in
    let cs = a.cells.now in
    let vs = a.values.now in
    let f : ℕ → ℕ → Bool = λ x y. unordered a.order (term_at cs vs x) (term_at cs vs y) in
    let n = c.node_count-n.result in
    sym (ap (first_pair (among (has a.a.now) (has a.b.now) f)) (sym c.node_count-n.ensures) ∙ pair_miss (has a.a.now) (has a.b.now) f n (passed_all (has a.a.now) (quiet (has a.b.now) f n) n (passed_none (has a.a.now) (quiet (has a.b.now) f n) n c.next_member-x.ensures) c.if-n-x.true))

pub search-init : goal.search-init
search-init c =
    let a = c.args in
    let cs = a.cells.now in
    let vs = a.values.now in
    let f : ℕ → ℕ → Bool = λ x y. unordered a.order (term_at cs vs x) (term_at cs vs y) in
    let n = c.node_count-n.result in
    (refl, c.node_count-n.ensures, listed-once c.gather-seconds.ensures, passed_none (has a.a.now) (quiet (has a.b.now) f n) n c.next_member-x.ensures)

pub loop-y-init : goal.loop-y-init
unfolding every
loop-y-init c = (c.search.invariant.0, refl)

-- what is asked of the pair
asked : (c : After-breaks_order)
    → let a = c.args in
    c.breaks_order.result ≡ unordered a.order (term_at a.cells.now a.values.now c.search.x) (term_at a.cells.now a.values.now (get_or c.gather-seconds.result.now c.loop-y.y-index 0))
asked c =
    let a = c.args in
    let cs = a.cells.now in
    let vs = a.values.now in
    let i = c.search.invariant in
    let y : ℕ = get_or c.gather-seconds.result.now c.loop-y.y-index 0 in
    c.breaks_order.ensures
    ∙ (λ j. not (c.has_number-known.ensures j) || (not (eqb (kind_at cs y) codes.node_number) || comes_back a.order (read_back c.number-value.result c.number-value.type_inv c.number-value.ensures j) (number_at vs y)))
    ∙ order_test cs vs c.search.x y (omega (arith, c.search-test, i.1)) (omega (arith, i.1, (i.2.inside c.loop-y.y-index (omega (arith, c.loop-y-test))).0)) a.order

pub loop-y-preserved : goal.loop-y-preserved
loop-y-preserved c =
    let a = c.args in
    let cs = a.cells.now in
    let vs = a.values.now in
    let f : ℕ → ℕ → Bool = λ x y. unordered a.order (term_at cs vs x) (term_at cs vs y) in
    let l = c.loop-y in
    (l.invariant.0, every_more (λ j. not (f c.search.x (get_or c.gather-seconds.result.now j 0))) l.y-index l.invariant.1 (ap not (sym (asked (goal.at.loop-y-preserved c).After-breaks_order) ∙ c.if-breaks_order.false)))

pub search-smaller : goal.search-smaller
search-smaller c = let a = c.args in omega (arith, next-after (has a.a.now) {x = c.search.x} (omega (arith, c.search-test)) c.next_member-x-in-search.ensures, c.search-test)

pub search-preserved : goal.search-preserved
search-preserved c =
    let a = c.args in
    let cs = a.cells.now in
    let vs = a.values.now in
    let f : ℕ → ℕ → Bool = λ x y. unordered a.order (term_at cs vs x) (term_at cs vs y) in
    let n = c.node_count-n.result in
    let s = c.search in
    let l = c.loop-y in
    let full : passed_by f s.x c.gather-seconds.result.now (length c.gather-seconds.result.now) ≡ true = subst (λ (k : ℕ). passed_by f s.x c.gather-seconds.result.now k ≡ true) (let e : l.y-index ≡ length c.gather-seconds.result.now = omega (arith, c.loop-y-test) in e) l.invariant.1 in
    (l.invariant.0, s.invariant.1, s.invariant.2, passed_more (has a.a.now) (quiet (has a.b.now) f n) n s.invariant.3 (omega (arith, c.search-test)) (row_quiet (has a.a.now) (has a.b.now) f n s.invariant.2 s.x full) c.next_member-x-in-search.ensures)

pub returns-after-search : goal.returns-after-search
returns-after-search c =
    let a = c.args in
    let cs = a.cells.now in
    let vs = a.values.now in
    let f : ℕ → ℕ → Bool = λ x y. unordered a.order (term_at cs vs x) (term_at cs vs y) in
    let n = c.node_count-n.result in
    let s = c.search in
    ap pair_found s.invariant.0 ∙ sym (ap (first_pair (among (has a.a.now) (has a.b.now) f)) (sym s.invariant.1) ∙ pair_miss (has a.a.now) (has a.b.now) f n (passed_all (has a.a.now) (quiet (has a.b.now) f n) n s.invariant.3 (omega (arith, c.search-test))))

pub returns-then-breaks_order : goal.returns-then-breaks_order
returns-then-breaks_order c =
    let a = c.args in
    let cs = a.cells.now in
    let vs = a.values.now in
    let f : ℕ → ℕ → Bool = λ x y. unordered a.order (term_at cs vs x) (term_at cs vs y) in
    let n = c.node_count-n.result in
    let s = c.search in
    let l = c.loop-y in
    let y : ℕ = get_or c.gather-seconds.result.now l.y-index 0 in
    sym (ap (first_pair (among (has a.a.now) (has a.b.now) f)) (sym s.invariant.1) ∙ pair-hit (has a.a.now) (has a.b.now) f n s.invariant.2 s.invariant.3 (omega (arith, c.search-test)) (omega (arith, c.loop-y-test)) l.invariant.1 (sym (asked (goal.at.returns-then-breaks_order c).After-breaks_order) ∙ c.if-breaks_order.true))
