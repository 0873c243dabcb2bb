-- `first_clash` meets its contract. The invariants: each of the ends before place i has the language of none after it, and the one
-- at place i that of none before place k.
use Prim.Native.Nat.{ℕ, ◌<◌}
use mathlib.Core.Bool.{true, ◌&&◌}
use mathlib.Core.List.{List}
use mathlib.Core.Path.{◌≡◌, refl, sym, ap, ◌∙◌, subst}
use native.Mathlib.Omega.{arith}
use lib.Dec.{eqb}
use lib.IntN.{ℤ}
use lib.ListN.{get_or, length}
use Rattle.base.specs.Bounded.{every}
use Rattle.base.proofs.Bounded.{every_more}
use Rattle.nodeset.specs.Words.{has}
use Rattle.tables.specs.Codes as codes
use Rattle.tables.specs.Layout.{kind_at, lang_at}
use Rattle.conditions.specs.Searches.{first_pair, among, pair_found}
use Rattle.conditions.proofs.Terms.{lang_test}
use Rattle.conditions.proofs.Listing.{ordered, clear_of, clear_begins, clear_more, clear_rest, clash_miss, clash-hit}
use Rattle.conditions.proofs.Langs.{alike, clash-ordered}
use Rattle.conditions.proofs.first_clash.Goals as goal
use Rattle.conditions.proofs.first_clash.Goals.{After-same_language}

pub search-init : goal.search-init
unfolding every
search-init c = (refl, c.node_count-n.ensures, c.gather-ends.ensures, λ vs. refl)

pub loop-k-init : goal.loop-k-init
loop-k-init c = (c.search.invariant.0, λ vs. clear_begins (alike c.args.cells.now vs) c.gather-ends.result.now c.search.i)

-- the second stands among the ends
here : (c : After-same_language) → c.loop-k.k < length c.gather-ends.result.now
here c = omega (arith, c.loop-k-test)

-- what is asked of the pair
asked : (c : After-same_language) (vs : List ℤ)
    → c.same_language.result ≡ alike c.args.cells.now vs (get_or c.gather-ends.result.now c.search.i 0) (get_or c.gather-ends.result.now c.loop-k.k 0)
asked c vs =
    let cs = c.args.cells.now in
    let i = c.search.invariant in
    let x : ℕ = get_or c.gather-ends.result.now c.search.i 0 in
    let y : ℕ = get_or c.gather-ends.result.now c.loop-k.k 0 in
    c.same_language.ensures
    ∙ (λ j. c.has_language-known.ensures j && (eqb (kind_at cs y) codes.node_words && eqb (c.node_lang-lang.ensures j) (lang_at cs y)))
    ∙ lang_test cs vs x y (omega (arith, i.1, (i.2.inside c.search.i (omega (arith, c.search-test))).0)) (omega (arith, i.1, (i.2.inside c.loop-k.k (here c)).0))

pub loop-k-preserved : goal.loop-k-preserved
loop-k-preserved c =
    let l = c.loop-k in
    (l.invariant.0, λ vs. clear_more (alike c.args.cells.now vs) c.gather-ends.result.now c.search.i l.k (l.invariant.1 vs) (sym (asked (goal.at.loop-k-preserved c).After-same_language vs) ∙ c.if-same_language.false))

pub search-preserved : goal.search-preserved
search-preserved c =
    let cs = c.args.cells.now in
    let ends : List ℕ = c.gather-ends.result.now in
    let s = c.search in
    let l = c.loop-k in
    let count : ℕ = length c.gather-ends.result.now in
    (l.invariant.0, s.invariant.1, s.invariant.2, λ vs. every_more (λ j. clear_of (alike cs vs) ends j count) s.i (s.invariant.3 vs) (clear_rest (alike cs vs) ends s.i l.k count (omega (arith, c.loop-k-test)) (l.invariant.1 vs)))

pub returns-after-search : goal.returns-after-search
returns-after-search c =
    let a = c.args in
    let cs = a.cells.now in
    let s = c.search in
    let done : s.i ≡ (length c.gather-ends.result.now) = omega (arith, c.search.auto, c.search-test) in
    λ vs. ap pair_found s.invariant.0
    ∙ sym (sym (clash-ordered cs vs (λ w. has a.a.now w && has a.b.now w)) ∙ ap (first_pair (among (λ w. has a.a.now w && has a.b.now w) (λ w. has a.a.now w && has a.b.now w) (ordered (alike cs vs)))) (sym s.invariant.1) ∙ clash_miss (λ w. has a.a.now w && has a.b.now w) (alike cs vs) c.node_count-n.result s.invariant.2 (subst (λ (k : ℕ). every (λ j. clear_of (alike cs vs) c.gather-ends.result.now j (length c.gather-ends.result.now)) k ≡ true) done (s.invariant.3 vs)))

pub returns-then-same_language : goal.returns-then-same_language
returns-then-same_language c =
    let a = c.args in
    let cs = a.cells.now in
    let s = c.search in
    let l = c.loop-k in
    λ vs. sym (sym (clash-ordered cs vs (λ w. has a.a.now w && has a.b.now w)) ∙ ap (first_pair (among (λ w. has a.a.now w && has a.b.now w) (λ w. has a.a.now w && has a.b.now w) (ordered (alike cs vs)))) (sym s.invariant.1) ∙ clash-hit (λ w. has a.a.now w && has a.b.now w) (alike cs vs) c.node_count-n.result s.invariant.2 {k = l.k} (omega arith) (here (goal.at.returns-then-same_language c).After-same_language) (s.invariant.3 vs) (l.invariant.1 vs) (sym (asked (goal.at.returns-then-same_language c).After-same_language vs) ∙ c.if-same_language.true))
