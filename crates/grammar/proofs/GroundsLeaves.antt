-- The readers of single items and of lists: what they say is settled by what they have seen, and a refusal has its ground.
use Prim.Native.Nat.{ℕ, zero, suc, ◌+◌, ◌-◌, ◌≤◌, ◌<◌}
use mathlib.Core.Path.{◌≡◌, refl, sym, ap, ◌∙◌, subst}
use mathlib.Core.List.{List, [], ◌∷◌, map}
use mathlib.Core.Bool.{Bool, true, false, not, cond}
use mathlib.Core.Logic.{⊎_elim}
use native.Mathlib.Omega.{arith}
use lib.ListN.{length, get_or}
use lib.Seq.{slice}
use borrow.Author.Tests.{ltb-false}
use Rattle.base.specs.Lists.{anyb}
use Rattle.base.specs.Bytes.{bytes, eql}
use Rattle.base.proofs.Bools.{and_both, bool_cases, never_both}
use Rattle.base.proofs.Bytes.{eql_true, eql-refl}
use Rattle.text.specs.Items.{item_end}
use Rattle.text.specs.Decimals.{number_of, bound_of, decimal}
use Rattle.text.specs.Pool.{index_of}
use Rattle.text.proofs.Items.{item_end-from}
use Rattle.text.proofs.Places.{index_at, index_nothing}
use Rattle.text.proofs.Inverse.{number_range, number-not, bound-over, bound-not}
use Rattle.text.specs.Spans.{Span}
use Rattle.text.proofs.Spans.{span_byte, span_join}
use Rattle.text.proofs.Words.{item_span}
use Rattle.model.specs.Paths.{predicate}
use Rattle.model.specs.Shapes.{Kind, an_iri, a_blank, a_literal, at_most, unbounded, top}
use Rattle.model.specs.Books.{Book, Pool, links, names}
use Rattle.model.specs.Valid.{defined, capacity, has_room}
use Rattle.model.specs.Limits.{max_forms, max_paths, max_items, max_count}
use Rattle.grammar.specs.Writing.{name_of, write_kind}
use Rattle.grammar.specs.Valid.{well_named, new_name}
use Rattle.grammar.specs.Syntax.{Slot, new, kind_word, value, low, high, form, list}
use Rattle.grammar.specs.Reading.{Read, got, refused, and_then, Begun, known, unknown, used_at, new_at, kind_numbered, kind_at, valued, value_at, bounded, low_at, high_at, list_at, true_at}
use Rattle.grammar.proofs.Leaves.{used_only, fresh_nothing, nothing_fresh}
use Rattle.grammar.proofs.GroundsLocal.{stop-item, Settled, settled_got, settled_refused, settled-lower, settled-cond, settled-byte, settled-item, settled_then}
use Rattle.grammar.specs.Grounds.{PathSlot, NameSlot, an_item, words, Fits, Waits, item, Item, is_true, is-link, Ground, misfit, value_range, low_range, high_range, undefined, repeated, pool_full, items-full, forms-full, paths-full}
use Rattle.std.specs.Prelude.{Option, Some, None}
use Rattle.std.specs.Prelude.{Result, Ok, Err, ℤ}
use Rattle.text.specs.declared.NumberError.{NumberError}
use Rattle.text.specs.declared.NumberError.TheVariants.{Malformed, Range}

-- a name that is found is one of those
found-any : (ws : List (List ℕ)) (w : List ℕ) (k : ℕ) → index_of ws w ≡ Some k → anyb (eql w) ws ≡ true
found-any ws w k e = bool_cases (λ b. anyb (eql w) ws ≡ b → b ≡ true) (anyb (eql w) ws) (λ _ _. refl)
    (λ _ f. let i = (index_at ws w k).0 e in absurd (fresh_nothing ws w f k i.0 i.1)) refl

pub found_none : (ws : List (List ℕ)) (w : List ℕ) → index_of ws w ≡ None → anyb (eql w) ws ≡ false
found_none ws w e = nothing_fresh ws w ((index_nothing ws w).0 e)

-- a test of an item that fails
pub other_item : (w v : List ℕ) → eql w v ≡ false → w ≡ v → ⊥
other_item w v e i = never_both (ap (λ (u : List ℕ). eql u v) i ∙ eql-refl v) e

abbrev pub Settles : (s : List ℕ) (above : Book) (start : ℕ) {A : Type 0} → ℕ → (List ℕ → Read A) → Type 0
Settles s above start {A} from m = Settled s (Ground s above start) {A = A} from m

abbrev pub item_at : List ℕ → ℕ → List ℕ
item_at s p = slice p (item_end s p) s

-- the space at q and the item after it
pub space_item : (s : List ℕ) (above : Book) (start q : ℕ) (w : List ℕ) → Item s above start q w → Span s q (item_end s (q + 1)) (32 ∷ w)
space_item s above start q w i =
    let sp = span_byte s q 31 i.0 in
    span_join sp (subst (λ (w : List ℕ). Span s (q + 1) (item_end s (q + 1)) w) i.1 (item_span s (q + 1) sp.within))

-- a place, with a space before it
module _ {s : List ℕ} {above : Book} {start q o : ℕ} {k : Slot} {ks : List Slot} {n : Begun} (W : Waits s above start q (k ∷ ks) n o) (sp : get_or s q 0 ≡ 32) where
  -- ---- a name of the pool; spelt: what fits there is a well made name
  module _ (pool : Pool) (N : NameSlot k pool) (spelt : Fits above k (item_at s (q + 1)) → well_named pool (item_at s (q + 1)) ≡ true) (bare : get_or s (q + 1) 0 ≡ 40 → words k ≡ []) where
    known-settled : well_named pool (item_at s (q + 1)) ≡ true → (f : Option ℕ) → index_of (names pool above) (item_at s (q + 1)) ≡ f → Settles s above start (item_end s (q + 1)) (λ t. known t above f (item_end s (q + 1)))
    known-settled w (Some a) e = settled_got a (item_end s (q + 1))
    known-settled w None e = settled_refused (q + 1) (undefined W N (item_at s (q + 1)) (sp, refl) w (found_none (names pool above) (item_at s (q + 1)) e)) (stop-item s (q + 1))

    pub name_settled : Settles s above start (item_end s (q + 1)) (λ t. used_at t above pool (q + 1))
    unfolding used_at
    name_settled = settled-item (q + 1) (λ t w e. cond (well_named pool w) (known t above (index_of (names pool above) w) e) (refused 2))
        (settled-cond (well_named pool (item_at s (q + 1))) (λ w. known-settled w (index_of (names pool above) (item_at s (q + 1))) refl)
        (λ w. settled_refused (q + 1) (misfit W (item_at s (q + 1)) (sp, refl) (λ f. never_both (spelt f) w) bare) (stop-item s (q + 1))))

    -- and what is made of its number
    pub name_then : {A : Type 0} (m : List ℕ → ℕ → ℕ → Read A) → ((a : ℕ) → item_at s (q + 1) ≡ name_of above pool a → defined above pool a ≡ true → Settles s above start (item_end s (q + 1)) (λ t. m t a (item_end s (q + 1)))) → Settles s above start (item_end s (q + 1)) (λ t. and_then (used_at t above pool (q + 1)) (m t))
    unfolding used_at
    name_then m M = settled_then name_settled
        (λ a nx e.
        let u = used_only s above pool (item_at s (q + 1)) (item_end s (q + 1)) a nx e in
        subst (λ (j : ℕ). Settles s above start j (λ t. m t a j)) u.1 (M a u.0 u.2))

    -- a test more of it: what fails it does not fit
    pub name_check : (b : ℕ → Bool) → ((a : ℕ) → item_at s (q + 1) ≡ name_of above pool a → defined above pool a ≡ true → b a ≡ false → Fits above k (item_at s (q + 1)) → ⊥) → Settles s above start (item_end s (q + 1)) (λ t. and_then (used_at t above pool (q + 1)) (λ v next. cond (b v) (got v next) (refused 2)))
    name_check b f = name_then (λ t v next. cond (b v) (got v next) (refused 2))
        (λ a i d. settled-cond (b a) (λ _. settled_got a (item_end s (q + 1))) (λ e. settled_refused (q + 1) (misfit W (item_at s (q + 1)) (sp, refl) (f a i d e) bare) (stop-item s (q + 1))))

    -- a bare link
    pub link-settled : PathSlot k → pool ≡ links → (full : Bool) → (full ≡ true → max_paths ≤ n.paths) → Settles s above start (item_end s (q + 1)) (λ t. and_then (used_at t above pool (q + 1)) (λ p next. cond full (refused 7) (got (predicate p) next)))
    link-settled P i full f = name_then (λ t p next. cond full (refused 7) (got (predicate p) next))
        (λ a e d. settled-cond full
        (λ u. settled_refused (q + 1) (paths-full W P (is-link P a (ap (λ (x : Pool). defined above x a) (sym i) ∙ d) (sp, e ∙ ap (λ (x : Pool). name_of above x a) i)) (f u)) (stop-item s (q + 1)))
        (λ _. settled_got (predicate a) (item_end s (q + 1))))

-- ---- a new name
module _ {s : List ℕ} {above : Book} {start q o : ℕ} {ks : List Slot} {n : Begun} (pool : Pool) (W : Waits s above start q (new pool ∷ ks) n o) (sp : get_or s q 0 ≡ 32) where
  room_settled : new_name above pool (item_at s (q + 1)) ≡ true → Settles s above start (item_end s (q + 1)) (λ t. cond (has_room above pool) (got (item_at s (q + 1)) (item_end s (q + 1))) (refused 7))
  unfolding has_room
  room_settled w = settled-cond (has_room above pool) (λ _. settled_got (item_at s (q + 1)) (item_end s (q + 1)))
      (λ e. settled_refused (q + 1) (pool_full W (item_at s (q + 1)) (sp, refl) w (ltb-false (length (names pool above)) (capacity pool) e)) (stop-item s (q + 1)))

  unknown-settled : well_named pool (item_at s (q + 1)) ≡ true → (f : Option ℕ) → index_of (names pool above) (item_at s (q + 1)) ≡ f → Settles s above start (item_end s (q + 1)) (λ t. unknown t above f (cond (has_room above pool) (got (item_at s (q + 1)) (item_end s (q + 1))) (refused 7)))
  unfolding new_name
  unknown-settled w (Some a) e = settled_refused (q + 1) (repeated W (item_at s (q + 1)) (sp, refl) w (found-any (names pool above) (item_at s (q + 1)) a e)) (stop-item s (q + 1))
  unknown-settled w None e = room_settled (and_both (well_named pool (item_at s (q + 1))) (not (anyb (eql (item_at s (q + 1))) (names pool above))) w (ap not (found_none (names pool above) (item_at s (q + 1)) e)))

  pub new_settled : Settles s above start (item_end s (q + 1)) (λ t. new_at t above pool (q + 1))
  unfolding new_at
  new_settled = settled-item (q + 1) (λ t w e. cond (well_named pool w) (unknown t above (index_of (names pool above) w) (cond (has_room above pool) (got w e) (refused 7))) (refused 2))
      (settled-cond (well_named pool (item_at s (q + 1))) (λ w. unknown-settled w (index_of (names pool above) (item_at s (q + 1))) refl) (λ w. settled_refused (q + 1) (misfit W (item_at s (q + 1)) (sp, refl) (λ f. never_both f w) (λ _. refl)) (stop-item s (q + 1))))

-- ---- kinds, numbers, bounds
kind-not : (w : List ℕ) → index_of (map write_kind (an_iri ∷ a_blank ∷ a_literal ∷ [])) w ≡ None → (k : Kind) → w ≡ write_kind k → ⊥
kind-not w e an_iri i = (index_nothing (map write_kind (an_iri ∷ a_blank ∷ a_literal ∷ [])) w).0 e 0 (omega arith) (sym i)
kind-not w e a_blank i = (index_nothing (map write_kind (an_iri ∷ a_blank ∷ a_literal ∷ [])) w).0 e 1 (omega arith) (sym i)
kind-not w e a_literal i = (index_nothing (map write_kind (an_iri ∷ a_blank ∷ a_literal ∷ [])) w).0 e 2 (omega arith) (sym i)

-- two: it is no decimal; three: it is one above 1,024
bound-cases : (s : List ℕ) (above : Book) (start q : ℕ) → (((x : ℕ) → item_at s (q + 1) ≡ decimal x → ⊥) → Ground s above start 2 (q + 1)) → ((x : ℕ) → item_at s (q + 1) ≡ decimal x → max_count < x → Ground s above start 3 (q + 1)) → (r : Result ℕ NumberError) → bound_of (item_at s (q + 1)) ≡ r → Settles s above start (item_end s (q + 1)) (λ t. bounded t above r (item_end s (q + 1)))
bound-cases s above start q two three (Err Malformed) e = settled_refused (q + 1) (two ((bound-not (item_at s (q + 1))).0 e)) (stop-item s (q + 1))
bound-cases s above start q two three (Err Range) e = let (x, i, r) = (bound-over (item_at s (q + 1))).0 e in settled_refused (q + 1) (three x i r) (stop-item s (q + 1))
bound-cases s above start q two three (Ok x) e = settled_got x (item_end s (q + 1))

module _ {s : List ℕ} {above : Book} {start q o : ℕ} {ks : List Slot} {n : Begun} where
  kind-cases : Waits s above start q (kind_word ∷ ks) n o → get_or s q 0 ≡ 32 → (f : Option ℕ) → index_of (map write_kind (an_iri ∷ a_blank ∷ a_literal ∷ [])) (item_at s (q + 1)) ≡ f → Settles s above start (item_end s (q + 1)) (λ t. kind_numbered t above f (item_end s (q + 1)))
  kind-cases W sp (Some k) e = settled_got (get_or (an_iri ∷ a_blank ∷ a_literal ∷ []) k a_literal) (item_end s (q + 1))
  kind-cases W sp None e = settled_refused (q + 1) (misfit W (item_at s (q + 1)) (sp, refl) (λ f. kind-not (item_at s (q + 1)) e f.0 f.1) (λ _. refl)) (stop-item s (q + 1))

  pub kind-settled : Waits s above start q (kind_word ∷ ks) n o → get_or s q 0 ≡ 32 → Settles s above start (item_end s (q + 1)) (λ t. kind_at t above (q + 1))
  unfolding kind_at
  kind-settled W sp = settled-item (q + 1) (λ t w e. kind_numbered t above (index_of (map write_kind (an_iri ∷ a_blank ∷ a_literal ∷ [])) w) e) (kind-cases W sp (index_of (map write_kind (an_iri ∷ a_blank ∷ a_literal ∷ [])) (item_at s (q + 1))) refl)

  value-cases : Waits s above start q (value ∷ ks) n o → get_or s q 0 ≡ 32 → (r : Result ℤ NumberError) → number_of (item_at s (q + 1)) ≡ r → Settles s above start (item_end s (q + 1)) (λ t. valued t above r (item_end s (q + 1)))
  value-cases W sp (Err Malformed) e = settled_refused (q + 1) (misfit W (item_at s (q + 1)) (sp, refl) (λ f. (number-not (item_at s (q + 1))).0 e f.0 f.1) (λ _. refl)) (stop-item s (q + 1))
  value-cases W sp (Err Range) e = let (z, i, r) = (number_range (item_at s (q + 1))).0 e in settled_refused (q + 1) (value_range W z (sp, i) r) (stop-item s (q + 1))
  value-cases W sp (Ok x) e = settled_got x (item_end s (q + 1))

  pub value-settled : Waits s above start q (value ∷ ks) n o → get_or s q 0 ≡ 32 → Settles s above start (item_end s (q + 1)) (λ t. value_at t above (q + 1))
  unfolding value_at
  value-settled W sp = settled-item (q + 1) (λ t w e. valued t above (number_of w) e) (value-cases W sp (number_of (item_at s (q + 1))) refl)

  pub low-settled : Waits s above start q (low ∷ ks) n o → get_or s q 0 ≡ 32 → Settles s above start (item_end s (q + 1)) (λ t. low_at t above (q + 1))
  unfolding low_at
  low-settled W sp = settled-item (q + 1) (λ t w e. bounded t above (bound_of w) e)
      (bound-cases s above start q (λ d. misfit W (item_at s (q + 1)) (sp, refl) (λ f. d f.0 f.1) (λ _. refl)) (λ x i r. low_range W x (sp, i) r) (bound_of (item_at s (q + 1))) refl)

  pub high-settled : Waits s above start q (high ∷ ks) n o → get_or s q 0 ≡ 32 → Settles s above start (item_end s (q + 1)) (λ t. high_at t above (q + 1))
  unfolding high_at low_at
  high-settled W sp = settled-item (q + 1) (λ t w e. cond (eql w (bytes "*")) (got unbounded e) (and_then (bounded t above (bound_of w) e) (λ n next. got (at_most n) next)))
      (settled-cond (eql (item_at s (q + 1)) (bytes "*")) (λ _. settled_got unbounded (item_end s (q + 1)))
      (λ e. settled_then
      (bound-cases s above start q (λ d. misfit W (item_at s (q + 1)) (sp, refl) (⊎_elim (other_item (item_at s (q + 1)) (bytes "*") e) (λ f. d f.0 f.1)) (λ _. refl)) (λ x i r. high_range W x (sp, i) r) (bound_of (item_at s (q + 1))) refl)
      (λ x nx _. settled_got (at_most x) nx)))

  -- ---- a bare `true`
  pub true_settled : Waits s above start q (form ∷ ks) n o → get_or s q 0 ≡ 32 → (get_or s (q + 1) 0 ≡ 40 → ⊥) → (full : Bool) → (full ≡ true → max_forms ≤ n.forms) → Settles s above start (item_end s (q + 1)) (λ t. true_at t above full (q + 1))
  unfolding true_at
  true_settled W sp bare full f = settled-item (q + 1) (λ t w e. cond (eql w (bytes "true")) (cond full (refused 7) (got top e)) (refused 2))
      (settled-cond (eql (item_at s (q + 1)) (bytes "true"))
      (λ i. settled-cond full (λ u. settled_refused (q + 1) (forms-full W (is_true (sp, eql_true (item_at s (q + 1)) (bytes "true") i)) (f u)) (stop-item s (q + 1))) (λ _. settled_got top (item_end s (q + 1))))
      (λ e. settled_refused (q + 1) (misfit W (item_at s (q + 1)) (sp, refl) (other_item (item_at s (q + 1)) (bytes "true") e) (λ b. absurd (bare b))) (stop-item s (q + 1))))

-- ---- a list
module _ {s : List ℕ} {above : Book} {start o : ℕ} {ks : List Slot} (pool : Pool) where
  pub list_settled : (room : ℕ) {q : ℕ} {n : Begun} → Waits s above start q (list pool ∷ ks) n o → room ≡ max_items - n.items → Settles s above start q (λ t. list_at t above pool room q)
  unfolding list_at
  list_settled zero {q} {n} W i = settled-byte q 32 (omega arith)
      (λ sp. settled-lower (omega (arith, item_end-from s (q + 1)))
      (name_then W sp pool an_item (λ f. f) (λ _. refl) (λ t k next. refused 7) (λ a e d. settled_refused (q + 1) (items-full W a d (sp, e) (omega arith)) (stop-item s (q + 1)))))
      (λ _. settled_got [] q)
  list_settled (suc room) {q} {n} W i = settled-byte q 32 (omega arith)
      (λ sp. settled-lower (omega (arith, item_end-from s (q + 1)))
      (name_then W sp pool an_item (λ f. f) (λ _. refl) (λ t k next. and_then (list_at t above pool room next) (λ ks last. got (k ∷ ks) last))
      (λ a e d. settled_then (list_settled room (item W a (space_item s above start q (name_of above pool a) (sp, e)) d) (omega arith)) (λ ks last _. settled_got (a ∷ ks) last))))
      (λ _. settled_got [] q)
