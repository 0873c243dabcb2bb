-- The spares that a search reaches, and the round that is the first to reach one.
use Prim.Native.Nat.{ℕ, ◌*◌, ◌≤◌, ◌<◌, zero-le}
use mathlib.Core.Bool.{Bool, true, false, not, ◌&&◌}
use mathlib.Core.List.{List}
use mathlib.Core.Logic.{⊎_elim}
use mathlib.Core.Path.{◌≡◌, refl, sym, ap, ◌∙◌, subst}
use native.Mathlib.Omega.{arith}
use lib.IntN.{ℤ}
use borrow.Author.Tests.{le-ltb}
use Rattle.base.specs.Bounded.{every}
use Rattle.base.specs.Least.{next_from, least}
use Rattle.base.proofs.Bools.{bool_cases, and_left, and_right, and_both, never_both, same_test}
use Rattle.base.proofs.Bounded.{some_ext, some-every}
use Rattle.base.proofs.Least.{Next, next-found, next_ext, found_some}
use Rattle.nodeset.specs.Words.{has, words_of, intersection}
use Rattle.nodeset.proofs.Sets.{words_of_ext, has_of, length_of}
use Rattle.closure.specs.Rows.{leads, rows_of, Within}
use Rattle.closure.proofs.Rows.{leads-nodes}
use Rattle.model.specs.Limits.{max_nodes}
use Rattle.model.specs.Repeats.{up_to, star}
use Rattle.model.specs.Shapes.{conforms}
use Rattle.model.specs.Nearest.{at, no_spare, any_spare, spare_within, nearest}
use Rattle.model.proofs.Nearest.{within-at, within-some, nearest-found, nearest-none, nearest_ext}
use Rattle.tables.specs.Layout.{node_count}
use Rattle.tables.specs.Decode.{graph_at, shape_at}
use Rattle.reach.proofs.Levels.{After, at_distance, first-reached, reached-first, star-node}
use Rattle.verdict.specs.Memo.{Decided}

-- ---- a round of the search, after others that reached no spare
module _ (rows : List ℕ) (n v : ℕ) (few : n ≤ max_nodes) (inside : Within n rows) (l : v < n) (spares : List ℕ) where
  abbrev r : ℕ → ℕ → Bool
  r = leads rows

  abbrev p : ℕ → Bool
  p = has spares

  module _ {k : ℕ} {reached frontier : List ℕ} (a : After r n v k reached frontier) (none : (j : ℕ) → j < k → spare_within r p n v j ≡ false) where
    -- the spares within so many repetitions stand in the frontier
    in_frontier : (w : ℕ) → w < n → (has frontier w && p w) ≡ (up_to r n k v w && p w)
    in_frontier w lw = ap (λ (b : Bool). b && p w) (has_of (at_distance r n v k) 16 a.new w (omega (arith, lw, few))) ∙ same_test (at_distance r n v k w && p w) (up_to r n k v w && p w)
        (λ e. and_both (up_to r n k v w) (p w) (first-reached rows n v few inside l k w (and_left (at_distance r n v k w) (p w) e)) (and_right (at_distance r n v k w) (p w) e))
        (λ e.
        let h : p w ≡ true = and_right (up_to r n k v w) (p w) e in
        and_both (at_distance r n v k w) (p w) (⊎_elim (λ f. f) (λ f. absurd (never_both (within-at r p n v f.0 w lw f.2 h) (none f.0 (omega (arith, f.1))))) (reached-first rows n v few inside l k w (and_left (up_to r n k v w) (p w) e))) h)

    module _ {node : ℕ} (e : node ≡ next_from (λ m. has frontier m && has spares m) 0 n) where
      first : node ≡ least (λ w. up_to r n k v w && p w) n
      first = e ∙ next_ext (λ m. has frontier m && has spares m) (λ w. up_to r n k v w && p w) 0 n in_frontier

      -- the first of them is the nearest
      pub met : node < n → at k node ≡ nearest r p n v
      met lw =
          let next : Next (λ w. up_to r n k v w && p w) 0 n node = subst (Next (λ w. up_to r n k v w && p w) 0 n) (sym first) (next-found (λ w. up_to r n k v w && p w) n 0 zero-le) in
          sym (nearest-found r p n v l k node none lw (next.hit lw) (λ u lu. next.none u zero-le lu))

      -- there is none
      pub not-met : n ≤ node → spare_within r p n v k ≡ false
      not-met h = within-some r p n v k ∙ sym (found_some (λ w. up_to r n k v w && p w) n first) ∙ le-ltb node n h

-- ---- the spares of all that the search reaches
module _ (cs : List ℕ) (vs : List ℤ) (rows : List ℕ) (v e : ℕ) (few : node_count cs ≤ max_nodes) (inside : Within (node_count cs) rows) (l : v < node_count cs) where
  abbrev n : ℕ
  n = node_count cs

  abbrev meets : ℕ → Bool
  meets = conforms (graph_at cs vs) (shape_at cs vs e)

  pub spares-reached : (reached set : List ℕ) {both : List ℕ} → reached ≡ words_of (star (leads rows) n v) 16 → Decided cs vs e reached set → both ≡ intersection reached set → both ≡ words_of (λ w. star (leads rows) n v w && meets w) 16
  unfolding intersection
  spares-reached reached set er d eb = eb ∙ ap (words_of (λ m. has reached m && has set m)) (length_of (star (leads rows) n v) 16 er) ∙ words_of_ext (λ m. has reached m && has set m) (λ w. star (leads rows) n v w && meets w) 16 (λ w lw.
      let same : has reached w ≡ star (leads rows) n v w = has_of (star (leads rows) n v) 16 er w lw in
      bool_cases (λ b. has reached w ≡ b → (b && has set w) ≡ (b && meets w)) (has reached w) (λ _ h. d w (star-node rows n v few inside l w lw (sym same ∙ h)) h) (λ _ _. refl) refl ∙ ap (λ (b : Bool). b && meets w) same)

  module _ {set : List ℕ} (es : set ≡ words_of (λ w. star (leads rows) n v w && meets w) 16) where
    has-spare : (w : ℕ) → w < n → has set w ≡ (star (leads rows) n v w && meets w)
    has-spare w lw = has_of (λ w. star (leads rows) n v w && meets w) 16 es w (omega (arith, lw, few))

    -- none of them below n, and there is no spare; else the rows lead to one
    spares-any : any_spare (leads rows) (has set) n v ≡ not (every (λ w. not (has set w)) n)
    spares-any = some_ext (λ w. star (leads rows) n v w && has set w) (has set) n (λ w lw. ap (λ (b : Bool). star (leads rows) n v w && b) (has-spare w lw) ∙ again (star (leads rows) n v w) (meets w) ∙ sym (has-spare w lw)) ∙ some-every (has set) n
      where
        again : (a b : Bool) → (a && (a && b)) ≡ (a && b)
        again true b = refl
        again false b = refl

    -- the nearest of them over the rows of a path is the nearest along the path
    module _ (path : ℕ → ℕ → Bool) (er : rows ≡ rows_of n path (16 * max_nodes)) {m : ℕ} (em : m ≡ n) where
      along : nearest (leads rows) (has set) m v ≡ nearest path meets n v
      along = ap (λ (m : ℕ). nearest (leads rows) (has set) m v) em ∙ nearest_ext (leads rows) path (has set) meets n v (leads-nodes n path (16 * max_nodes) er few (omega (arith, few))) (λ w lw h. has-spare w lw ∙ ap (λ (b : Bool). b && meets w) h) l

      any : any_spare (leads rows) (has set) m v ≡ not (every (λ w. not (has set w)) m)
      any = subst (λ (m : ℕ). any_spare (leads rows) (has set) m v ≡ not (every (λ w. not (has set w)) m)) (sym em) spares-any

      pub no-spare-along : every (λ w. not (has set w)) m ≡ true → no_spare ≡ nearest path meets n v
      no-spare-along h = sym (nearest-none (leads rows) (has set) m v (any ∙ ap not h)) ∙ along

      pub spare-along : {k w : ℕ} → at k w ≡ nearest (leads rows) (has set) m v → at k w ≡ nearest path meets n v
      spare-along e = e ∙ along

      pub spare_there : every (λ w. not (has set w)) m ≡ false → any_spare (leads rows) (has set) m v ≡ true
      spare_there h = any ∙ ap not h
