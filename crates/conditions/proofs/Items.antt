-- The items of a list and the triples of the tables, looked at one by one.
use Prim.Native.Nat.{ℕ, zero, suc, ◌+◌, ◌-◌, ◌≤◌, ◌<◌}
use mathlib.Core.List.{List, [], ◌∷◌}
use mathlib.Core.Bool.{Bool, true, false, not, cond, ◌&&◌, ◌||◌, or-false, or_comm, not-not}
use mathlib.Core.Option.{Option, or_else}
use mathlib.Core.Path.{◌≡◌, refl, sym, ap, ap₂, ◌∙◌, subst}
use native.Mathlib.Numerals.{add-one}
use native.Mathlib.Omega.{arith}
use lib.Dec.{eqb, ltb}
use lib.ListN.{get_or, replicate}
use borrow.Author.Tests.{eq-eqb, ne_eqb, eqb-true, eqb-false, ltb-true, ltb-false}
use Rattle.std.specs.Prelude as std
use Rattle.std.specs.List.{list_any, range_with_len}
use Rattle.base.specs.Bounded.{some}
use Rattle.base.proofs.Bools.{and_left, and_right, bool_cases}
use Rattle.base.proofs.Bounded.{every-at, some-none, some_ext}
use Rattle.base.specs.Lists.{member, values_from}
use Rattle.base.proofs.Lists.{member_append, values_from_snoc, any-values}
use Rattle.nodeset.specs.Words.{has, words_of, with}
use Rattle.nodeset.proofs.Sets.{has_of, has_out, length_of, zeros, with-step, words_of_ext}
use Rattle.chains.specs.Chains.{last_with}
use Rattle.chains.proofs.Chains.{last_le, last-key, walk_begins, walk_falls, walk_next}
use Rattle.tables.specs.Layout.{link_count, fact_count, item_count, item_at, subject_at, predicate_at}
use Rattle.tables.specs.Decode.{triple_at, triples_at, items_at}
use Rattle.tables.specs.WellFormed.{item_ok, items_ok}
use Rattle.tables.proofs.WellFormed.{sound}
use Rattle.paths.specs.Facts.{subject_heads, subject_nexts, Tables}
use Rattle.plan.specs.Conditions.{some_unlisted}
use Rattle.plan.proofs.Complements.{not-closed}
use Rattle.model.specs.Limits.{max_nodes, max_links}
use Rattle.model.specs.Shapes.{only_listed}
use Rattle.conditions.specs.Pairs.{link_words, unlisted}
use Rattle.conditions.specs.Searches.{first, before, found, nothing, fact_found}
use Rattle.conditions.proofs.Searches.{some_fact, none-of, kept, first_found}

-- x is one of f i, f (i + 1), .., n of them
member-values : (f : ℕ → ℕ) (i n x : ℕ) → member x (values_from f i n) ≡ some (λ k. eqb x (f (i + k))) n
unfolding member some values_from
member-values f i zero x = refl
member-values f i (suc n) x =
    ap (member x) (values_from_snoc f i n) ∙ member_append x (values_from f i n) (f (i + n) ∷ [])
    ∙ ap₂ (λ (a b : Bool). a || b) (member-values f i n x) (or-false (eqb x (f (i + n)))) ∙ or_comm (some (λ k. eqb x (f (i + k))) n) (eqb x (f (i + n)))

module _ (cs : List ℕ) where
  pub listed-some : (i n x : ℕ) → some (λ k. eqb x (item_at cs (i + k))) n ≡ member x (items_at cs i n)
  unfolding items_at
  listed-some i n x = sym (member-values (item_at cs) i n x)

  -- x is among the items from i on, looked at one by one
  pub any-member : (i n x : ℕ) → list_any (λ k. eqb x (item_at cs k)) (range_with_len i n) ≡ member x (items_at cs i n)
  unfolding items_at member values_from
  any-member i zero x = refl
  any-member i (suc n) x = ap (λ (k : ℕ). eqb x (item_at cs i) || list_any (λ k. eqb x (item_at cs k)) (range_with_len k n)) (add-one i) ∙ ap (λ (b : Bool). eqb x (item_at cs i) || b) (any-member (suc i) n x)

  -- the set of the links of a list, gathered one after the other
  module _ (i : ℕ) where
    abbrev pub begun : ℕ → ℕ → Bool
    begun k l = some (λ j. eqb l (item_at cs (i + j))) k

    pub links-none : replicate link_words 0 ≡ words_of (begun 0) link_words
    unfolding some
    links-none = zeros link_words

    pub links-more : {ws new : List ℕ} {l : ℕ} (k : ℕ) → ws ≡ words_of (begun k) link_words → l ≡ item_at cs (i + k) → new ≡ with ws l → new ≡ words_of (begun (k + 1)) link_words
    unfolding some
    links-more {ws} {new} {l} k e q f = f ∙ with-step (begun k) (begun (k + 1)) link_words l e (λ m b. or_comm (begun k m) (eqb m l) ∙ ap (λ (x : ℕ). eqb m x || begun k m) q ∙ ap (λ (j : ℕ). begun j m) (sym (add-one k)))

    pub links-all : {ws : List ℕ} (n k : ℕ) → k ≡ n → ws ≡ words_of (begun k) link_words → ws ≡ words_of (λ l. member l (items_at cs i n)) link_words
    links-all n k q e = e ∙ ap (λ (j : ℕ). words_of (begun j) link_words) q ∙ words_of_ext (begun n) (λ l. member l (items_at cs i n)) link_words (λ l b. listed-some i n l)

  -- of a well_formed_lem list the set has every link
  pub links-has : {ws : List ℕ} (i n : ℕ) → items_ok cs (link_count cs) i n ≡ true → link_count cs ≤ max_links → ws ≡ words_of (λ l. member l (items_at cs i n)) link_words → (l : ℕ) → has ws l ≡ member l (items_at cs i n)
  unfolding items_ok
  links-has {ws} i n ok few e l = bool_cases (λ t. ltb l max_links ≡ t → has ws l ≡ member l (items_at cs i n)) (ltb l max_links)
      (λ _ q. has_of (λ x. member x (items_at cs i n)) link_words e l (omega (arith, ltb-true l max_links q)))
      (λ _ q. has_out ws l (let g : max_links ≤ l = ltb-false l max_links q in omega (arith, length_of (λ x. member x (items_at cs i n)) link_words e)) ∙ sym (sym (listed-some i n l) ∙ some_ext (λ k. eqb l (item_at cs (i + k))) (λ k. false) n (λ k b. ne_eqb l (item_at cs (i + k)) (λ h. let g : max_links ≤ l = ltb-false l max_links q in let z : ⊥ = omega (arith, ltb-true (item_at cs (i + k)) (link_count cs) (and_right (ltb (i + k) (item_count cs)) (ltb (item_at cs (i + k)) (link_count cs)) (every-at (λ k. item_ok cs (link_count cs) (i + k)) n ok k b))) in z)) ∙ some-none n))
      refl

  -- nothing is found where every triple out of v has a listed predicate; something where some has not
  module _ (listed : ℕ → Bool) (v : ℕ) where
    pub unlisted-some : some_unlisted (triples_at cs) listed v ≡ some (unlisted cs listed v) (fact_count cs)
    unfolding unlisted some_unlisted triples_at triple_at
    unlisted-some = any-values (triple_at cs) (λ t. eqb t.subject v && not (listed t.predicate)) (fact_count cs)

    pub unlisted-breaks : found (first (unlisted cs listed v) (fact_count cs)) ≡ some_unlisted (triples_at cs) listed v
    unlisted-breaks = first_found (unlisted cs listed v) (fact_count cs) ∙ sym unlisted-some

    pub unlisted-keeps : nothing (first (unlisted cs listed v) (fact_count cs)) ≡ only_listed (triples_at cs) listed v
    unlisted-keeps = kept (first (unlisted cs listed v) (fact_count cs)) (only_listed (triples_at cs) listed v) (unlisted-breaks ∙ sym (not-closed (triples_at cs) listed v))

    -- the same of what the code found, read off
    pub closed-kept : (o : std.Option ℕ) {t : Bool} → fact_found o ≡ first (unlisted cs listed v) (fact_count cs) → std.is_some o ≡ not t → t ≡ only_listed (triples_at cs) listed v
    closed-kept o e h = none-of (fact_found o) (some_fact o) h ∙ ap nothing e ∙ unlisted-keeps

    pub closed-broken : (o : std.Option ℕ) → fact_found o ≡ first (unlisted cs listed v) (fact_count cs) → std.is_some o ≡ some_unlisted (triples_at cs) listed v
    closed-broken o e = some_fact o ∙ ap found e ∙ unlisted-breaks

  -- it matters only which predicates of the triples are listed
  module _ (p q : ℕ → Bool) (v : ℕ) (e : (i : ℕ) → i < fact_count cs → p (predicate_at cs i) ≡ q (predicate_at cs i)) where
    pub unlisted_ext : some_unlisted (triples_at cs) p v ≡ some_unlisted (triples_at cs) q v
    unfolding unlisted
    unlisted_ext = unlisted-some p v ∙ some_ext (unlisted cs p v) (unlisted cs q v) (fact_count cs) (λ i l. ap (λ (b : Bool). eqb (subject_at cs i) v && not b) (e i l)) ∙ sym (unlisted-some q v)

    pub listed_ext : only_listed (triples_at cs) p v ≡ only_listed (triples_at cs) q v
    listed_ext = sym (not-not (only_listed (triples_at cs) p v)) ∙ ap not (not-closed (triples_at cs) p v ∙ unlisted_ext ∙ sym (not-closed (triples_at cs) q v)) ∙ not-not (only_listed (triples_at cs) q v)

-- ---- the search along the chain of a node, which has come to `next`: what it has found is the first after what is left
some-kept : {A : Type 0} (o : Option A) (x : A) (p : Option A) → or_else (or_else o (Option.some x)) p ≡ or_else o (Option.some x)
unfolding or_else
some-kept Option.none x p = refl
some-kept (Option.some y) x p = refl

or_none : {A : Type 0} (o : Option A) → or_else o Option.none ≡ o
unfolding or_else
or_none Option.none = refl
or_none (Option.some y) = refl

-- of items with the key alone, only those up to the last count
first-last : (key : ℕ → ℕ) (h : ℕ) (p : ℕ → Bool) (n : ℕ) → ((i : ℕ) → i < n → p i ≡ true → key i ≡ h) → first p n ≡ first p (last_with key h n)
unfolding last_with first
first-last key h p zero w = refl
first-last key h p (suc n) w = go (eqb (key n) h) refl (p n) refl (first-last key h p n (λ i l. w i (omega arith)))
  where
    go : (b : Bool) → eqb (key n) h ≡ b → (c : Bool) → p n ≡ c → first p n ≡ first p (last_with key h n) → first p (suc n) ≡ first p (cond b (suc n) (last_with key h n))
    go true e c f below = refl
    go false e true f below = absurd (eqb-false (key n) h e (w n (omega arith) f))
    go false e false f below = ap (λ (b : Bool). or_else (first p n) (cond b (Option.some n) Option.none)) f ∙ or_none (first p n) ∙ below

-- where the chain of the facts out of v begins
abbrev pub chain_of : List ℕ → ℕ → ℕ
chain_of index v = cond (ltb v max_nodes) (get_or index (subject_heads + v) 0) 0

pub record Sought (cs : List ℕ) (listed : ℕ → Bool) (v next : ℕ) (answer : Option ℕ) : Type 0 where
  pub low : next ≤ fact_count cs
  pub own : (i : ℕ) → next ≡ suc i → subject_at cs i ≡ v
  pub rest : or_else (first (unlisted cs listed v) next) answer ≡ first (unlisted cs listed v) (fact_count cs)

module _ (cs index : List ℕ) (t : Tables cs index) (listed : ℕ → Bool) (v : ℕ) where
  -- only the facts out of v count
  up_to : (n : ℕ) {next : ℕ} → next ≡ last_with (subject_at cs) v n → first (unlisted cs listed v) next ≡ first (unlisted cs listed v) n
  unfolding unlisted
  up_to n e = ap (first (unlisted cs listed v)) e ∙ sym (first-last (subject_at cs) v (unlisted cs listed v) n (λ i l h. eqb-true (subject_at cs i) v (and_left (eqb (subject_at cs i) v) (not (listed (predicate_at cs i))) h)))

  pub sought_first : {next : ℕ} → next ≡ chain_of index v → Sought cs listed v next (before 0)
  unfolding before
  sought_first {next} e = record {
    low = subst (λ (k : ℕ). k ≤ fact_count cs) (sym last) (last_le (subject_at cs) v (fact_count cs));
    own = λ i q. last-key (subject_at cs) v (fact_count cs) i (sym last ∙ q);
    rest = or_none (first (unlisted cs listed v) next) ∙ up_to (fact_count cs) last;
  }
    where
      last : next ≡ last_with (subject_at cs) v (fact_count cs)
      last = walk_begins (subject_at cs) (fact_count cs) max_nodes subject_heads subject_nexts t.subjects (λ i l. omega (arith, (sound cs t.ok).subject i l, (sound cs t.ok).nodes)) v refl e

  module _ {next after new : ℕ} (lowest i : ℕ) {yes : Bool} (s : Sought cs listed v next (before lowest)) (q : next ≡ suc i) (ey : yes ≡ listed (predicate_at cs i)) (en : new ≡ cond yes lowest next) (ea : after ≡ get_or index (subject_nexts + i) 0) where
    here : i < fact_count cs
    here = omega (arith, s.low)

    pub sought_falls : after ≤ i
    sought_falls = walk_falls (subject_at cs) (fact_count cs) max_nodes subject_heads subject_nexts t.subjects i here ea

    last : after ≡ last_with (subject_at cs) v i
    last = walk_next (subject_at cs) (fact_count cs) max_nodes subject_heads subject_nexts t.subjects v i here (s.own i q) ea

    -- what fact i adds
    found_here : before new ≡ cond (not yes) (Option.some i) (before lowest)
    unfolding before
    found_here = ap before (en ∙ ap (cond yes lowest) q) ∙ which yes
      where
        which : (b : Bool) → before (cond b lowest (suc i)) ≡ cond (not b) (Option.some i) (before lowest)
        which true = refl
        which false = refl

    pub sought_more : Sought cs listed v after (before new)
    unfolding first unlisted
    sought_more = record {
      low = omega (arith, here, sought_falls);
      own = λ j r. last-key (subject_at cs) v i j (sym last ∙ r);
      rest = ap₂ or_else (up_to i last) found_here ∙ step (not yes) ∙ ap (λ (b : Bool). or_else (or_else (first (unlisted cs listed v) i) (cond b (Option.some i) Option.none)) (before lowest)) (ap not ey ∙ ap (λ (b : Bool). b && not (listed (predicate_at cs i))) (sym (eq-eqb (subject_at cs i) v (s.own i q)))) ∙ ap (λ (k : ℕ). or_else (first (unlisted cs listed v) k) (before lowest)) (sym q) ∙ s.rest;
    }
      where
        step : (b : Bool) → or_else (first (unlisted cs listed v) i) (cond b (Option.some i) (before lowest)) ≡ or_else (or_else (first (unlisted cs listed v) i) (cond b (Option.some i) Option.none)) (before lowest)
        step true = sym (some-kept (first (unlisted cs listed v) i) i (before lowest))
        step false = ap (λ (o : Option ℕ). or_else o (before lowest)) (sym (or_none (first (unlisted cs listed v) i)))

  pub sought_done : {next : ℕ} {answer : Option ℕ} → next ≡ 0 → Sought cs listed v next answer → answer ≡ first (unlisted cs listed v) (fact_count cs)
  unfolding first or_else
  sought_done {next} {answer} e s = ap (λ (k : ℕ). or_else (first (unlisted cs listed v) k) answer) (sym e) ∙ s.rest

-- a number less one, which 0 has not
pub before-is : (n : ℕ) (o : std.Option ℕ) → std.SomeIff o (1 ≤ n) (n - 1) → fact_found o ≡ before n
unfolding before
before-is zero std.None h = refl
before-is zero (std.Some i) h = absurd (let z : 1 ≤ 0 = h.0 in omega arith)
before-is (suc n) std.None h = absurd (h (omega arith))
before-is (suc n) (std.Some i) h = ap (λ (k : ℕ). Option.some k) (h.1 ∙ (let e : suc n - 1 ≡ n = omega arith in e))
