-- Single items, case by case: what the reading gives, by the tests that the code makes.
use Prim.Native.Nat.{ℕ, zero, suc, ◌+◌, ◌-◌, ◌*◌, ◌<◌, ◌≤◌}
use mathlib.Core.Path.{◌≡◌, refl, sym, ap, ap₂, ◌∙◌}
use mathlib.Core.List.{List, [], ◌∷◌}
use mathlib.Core.Bool.{Bool, true, false, not, cond}
use native.Mathlib.Omega.{arith}
use borrow.Author.Tests.{eq-eqb, ne_eqb, le-ltb, lt-ltb, leb-true}
use lib.Dec.{eqb, leb}
use lib.IntN.{ℤ}
use lib.ListN.{length, get_or, set}
use lib.Seq.{slice, length-slice}
use Rattle.base.specs.Bytes.{bytes, eql}
use Rattle.base.proofs.Bools.{and_left}
use Rattle.text.specs.Items.{item_end, is_name}
use Rattle.text.specs.Decimals.{is_mag, value_from, number_of, bound_of, number_fault}
use Rattle.text.specs.Pool.{find, index_of}
use Rattle.text.proofs.Parts.{inside}
use Rattle.text.proofs.Items.{item_end-from, item_end-within, name_short}
use Rattle.text.proofs.Places.{FirstOf, find_at, index_at}
use Rattle.model.specs.Graph.{iri, lang_string}
use Rattle.model.specs.Shapes.{an_iri, a_blank, a_literal, at_most, unbounded}
use Rattle.model.specs.Books.{Book, Pool, nodes, links, types, langs, shapes, names, collect, new_terms}
use Rattle.model.specs.Valid.{capacity, has_room, is_resource}
use Rattle.model.specs.Limits.{max_nodes, max_count, max_name, name_bytes}
use Rattle.tables.specs.Layout.{items, name_count}
use Rattle.encoding.specs.Flatten.{kind_code, upper_number}
use Rattle.stores.specs.Entries.{put_items}
use Rattle.encoding.specs.Encode.{pool_base}
use Rattle.grammar.specs.Valid.{well_named, reserved}
use Rattle.grammar.specs.Syntax.{used, subject, literal_type, low, high}
use Rattle.grammar.specs.Reading.{Read, got, refused, and_then, Readers, Begun, known, used_at, subject_at, literal_type_at, new_at, kind_at, value_at, low_at, high_at, list_at, arg_at}
use Rattle.model.specs.declared.Counts.{Counts}
use Rattle.itemreader.specs.declared.Pool as code
use Rattle.itemreader.specs.Answers.{Item, Value, pool_of, item_of, value_of, same, Below, Counted, items_after, Listed}
use Rattle.model.specs.Refusals.{fault_of}
use Rattle.model.specs.declared.Fault.{Fault}
use Rattle.itemreader.specs.Held.{count_of, Limits}
use Rattle.itemreader.specs.Words.{kinds}
use Rattle.std.specs.Prelude.{Option, Some, None, Result, Ok, Err, IsErrAnd}
use Rattle.std.proofs.lemmas.Result.{err_from_is_err_and}
use Rattle.text.specs.declared.NumberError.{NumberError}
use Rattle.text.specs.declared.NumberError.TheVariants.{Malformed, Range}

-- ---- the item after a byte that is not 0: where it lies
module _ (s : List ℕ) (at end x : ℕ) (z : get_or s at 0 ≡ suc x) (q : end ≡ item_end s (at + 1)) where
  pub item-within : (at + 1 ≤ end) × (end ≤ length s)
  item-within =
      let i : at < length s = inside s at (λ e. omega arith) in
      (omega (arith, item_end-from s (at + 1)), omega (arith, item_end-within s (at + 1) (omega arith)))

-- a part that is free for use as a name is short
pub named-short : (p : Pool) (s : List ℕ) (at end : ℕ) → end ≤ length s → well_named p (slice at end s) ≡ true → end - at ≤ max_name
unfolding well_named
named-short p s at end h e =
    let n = name_short (slice at end s) (and_left (is_name (slice at end s)) (not (reserved p (slice at end s))) e) in
    omega (arith, length-slice at end s h)

pub found_below : (ns : List ℕ) (base n : ℕ) (w : List ℕ) (k : ℕ) → find ns base n w ≡ Some k → k < n
found_below ns base n w k e = ((find_at ns base n w k).0 e).0

-- a bound that was read is up to 1,024
pub bound-below : (w : List ℕ) (n : ℕ) → bound_of w ≡ Ok n → n < max_count + 1
unfolding bound_of
bound-below w n e = go (is_mag w) (leb (value_from 0 w) max_count) (leb-true (value_from 0 w) max_count) e
  where
    go : (b c : Bool) → (c ≡ true → value_from 0 w ≤ max_count) → cond b (cond c (Ok (value_from 0 w)) (Err Range)) (Err Malformed) ≡ Ok n → n < max_count + 1
    go true true h e = let q : value_from 0 w ≡ n = cc in let l = h refl in omega arith
    go true false h e = let z : ◌≡◌ {A = ℕ} 0 1 = cc in absurd (omega arith)
    go false c h e = let z : ◌≡◌ {A = ℕ} 0 1 = cc in absurd (omega arith)

pub kind-below : (w : List ℕ) (k : ℕ) → index_of kinds w ≡ Some k → k < 3
kind-below w k e = ((index_at kinds w k).0 e).0

pub below_more : (m n len : ℕ) (r : Item) → m ≤ n → Below m len r → Below n len r
below_more m n len (Ok (k, next)) l h = let b = h.0 in (omega arith, h.1)
below_more m n len (Err e) l h = tt

-- a pool within its limit lies within the names
pub pool_within : (n : Counts) (p : code.Pool) → Limits n → pool_base (pool_of p) + count_of n (pool_of p) * name_bytes ≤ name_count
unfolding pool_base
pool_within n code.Pool.Nodes l = omega arith
pool_within n code.Pool.Links l = omega arith
pool_within n code.Pool.Types l = omega arith
pool_within n code.Pool.Langs l = omega arith
pool_within n code.Pool.Shapes l = omega arith

pub count_limit : (n : Counts) (p : Pool) → Limits n → count_of n p ≤ max_nodes
count_limit n nodes l = omega arith
count_limit n links l = omega arith
count_limit n types l = omega arith
count_limit n langs l = omega arith
count_limit n shapes l = omega arith

module _ (s : List ℕ) (a : Book) (at end : ℕ) (q : end ≡ item_end s at) where
  -- ---- names
  module _ (p : Pool) where
    pub used_ill : well_named p (slice at end s) ≡ false → used_at s a p at ≡ refused 2
    unfolding used_at
    used_ill e = rw (← q, e)

    pub new_ill : well_named p (slice at end s) ≡ false → new_at s a p at ≡ refused 2
    unfolding new_at
    new_ill e = rw (← q, e)

    module _ (e : well_named p (slice at end s) ≡ true) where
      pub used_unknown : index_of (names p a) (slice at end s) ≡ None → used_at s a p at ≡ refused 5
      unfolding used_at
      used_unknown f = rw (← q, e, f)

      pub used_known : (k : ℕ) → index_of (names p a) (slice at end s) ≡ Some k → used_at s a p at ≡ got k end
      unfolding used_at
      used_known k f = rw (← q, e, f)

      pub new_known : (k : ℕ) → index_of (names p a) (slice at end s) ≡ Some k → new_at s a p at ≡ refused 6
      unfolding new_at
      new_known k f = rw (← q, e, f)

      pub new_full : index_of (names p a) (slice at end s) ≡ None → has_room a p ≡ false → new_at s a p at ≡ refused 7
      unfolding new_at
      new_full f h = rw (← q, e, f, h)

      pub new_free : index_of (names p a) (slice at end s) ≡ None → has_room a p ≡ true → new_at s a p at ≡ got (slice at end s) end
      unfolding new_at
      new_free f h = rw (← q, e, f, h)

  -- ---- kinds and numbers
  pub kind-unknown : index_of kinds (slice at end s) ≡ None → kind_at s a at ≡ refused 2
  unfolding kind_at
  kind-unknown e = rw (← q, e)

  pub kind-known : (k : ℕ) → index_of kinds (slice at end s) ≡ Some k → item_of kind_code (kind_at s a at) ≡ Ok (k, end)
  unfolding kind_at kind_code
  kind-known k e = rw (← q, e, by_number k ((index_at kinds (slice at end s) k).0 e).0)
    where
      by_number : (k : ℕ) → k < 3 → kind_code (get_or (an_iri ∷ a_blank ∷ a_literal ∷ []) k a_literal) ≡ k
      by_number zero h = refl
      by_number (suc zero) h = refl
      by_number (suc (suc zero)) h = refl
      by_number (suc (suc (suc k))) h = absurd (omega arith)

  pub value_not : (e : NumberError) → number_of (slice at end s) ≡ Err e → (value_of (value_at s a at) ≡ Err (number_fault e))
  unfolding value_at
  value_not Malformed e = rw (← q, e)
  value_not Range e = rw (← q, e)

  pub value-is : (x : ℤ) → number_of (slice at end s) ≡ Ok x → value_at s a at ≡ got x end
  unfolding value_at
  value-is x e = rw (← q, e)

  pub low-not : (e : NumberError) → bound_of (slice at end s) ≡ Err e → (item_of same (low_at s a at) ≡ Err (number_fault e))
  unfolding low_at
  low-not Malformed e = rw (← q, e)
  low-not Range e = rw (← q, e)

  pub low-is : (n : ℕ) → bound_of (slice at end s) ≡ Ok n → low_at s a at ≡ got n end
  unfolding low_at
  low-is n e = rw (← q, e)

  pub high-star : eql (slice at end s) (bytes "*") ≡ true → high_at s a at ≡ got unbounded end
  unfolding high_at
  high-star e = rw (← q, e)

  high-low : eql (slice at end s) (bytes "*") ≡ false → item_of upper_number (high_at s a at) ≡ item_of same (low_at s a at)
  unfolding high_at upper_number
  high-low e = rw (← q, e) (go (low_at s a at))
    where
      go : (x : Read ℕ) → item_of upper_number (and_then x (λ n next. got (at_most n) next)) ≡ item_of same x
      go (got n next) = refl
      go (refused k) = refl

-- HI where no `*` stands is read as LO is
pub high_arg : (s : List ℕ) (a : Book) (R : Readers) (b : Begun) (at : ℕ) → get_or s at 0 ≡ 32 → (end : ℕ) → end ≡ item_end s (at + 1) → eql (slice (at + 1) end s) (bytes "*") ≡ false → (r : Item) → r ≡ item_of same (arg_at s a R low b at) → r ≡ item_of upper_number (arg_at s a R high b at)
unfolding arg_at
high_arg s a R b at z end q e r p = p ∙ rw (eq-eqb (get_or s at 0) 32 z) (sym (high-low s a (at + 1) end q e))

-- ---- what an answer says of the reading
-- what `?` returns is the fault that it met
pub passed_on : {T : Type 0} (r : Result T Fault) (e : Fault) → IsErrAnd r (λ y. y ≡ e) → r ≡ Err e
passed_on r e h = let p = err_from_is_err_and r h in p.1 ∙ ap Err p.2

pub ok_pair : {A : Type 0} (a b : A) (m n : ℕ) → ◌≡◌ {A = Result (A × ℕ) Fault} (Ok (a, m)) (Ok (b, n)) → (a ≡ b) × (m ≡ n)
ok_pair {A} a b m n e = let p : ◌≡◌ {A = A × ℕ} (a, m) (b, n) = cc in (ap (λ (x : A × ℕ). x.0) p, ap (λ (x : A × ℕ). x.1) p)

pub item_got : {A : Type 0} (f : A → ℕ) (x : Read A) (k next : ℕ) → ◌≡◌ {A = Item} (Ok (k, next)) (item_of f x) → (y : A) × (x ≡ got y next) × (f y ≡ k)
item_got f (got y n) k next p = let e = ok_pair k (f y) next n p in (y, ap (got y) (sym e.1), sym e.0)
item_got f (refused j) k next p = let z : ◌≡◌ {A = ℕ} 0 1 = cc in absurd (omega arith)

pub number_got : (x : Read ℕ) (k next : ℕ) → ◌≡◌ {A = Item} (Ok (k, next)) (item_of same x) → x ≡ got k next
number_got x k next p = let y = item_got same x k next p in y.1 ∙ ap (λ (j : ℕ). got j next) y.2

pub item_refused : {A : Type 0} (f : A → ℕ) (x : Read A) (e : Fault) → ◌≡◌ {A = Item} (Err e) (item_of f x) → (k : ℕ) × (x ≡ refused k) × (e ≡ fault_of k)
item_refused f (got y n) e p = let z : ◌≡◌ {A = ℕ} 0 1 = cc in absurd (omega arith)
item_refused f (refused j) e p = (j, refl, cc)

pub counted-less : (m n most len : ℕ) (r : Item) → n ≤ m → Counted m most len r → Counted n most len r
counted-less m n most len (Ok (k, next)) l g = let h = g.0 in (omega arith, g.1, g.2)
counted-less m n most len (Err e) l g = tt

-- ---- room for one more name
module _ (a : Book) (p : Pool) (n : ℕ) (l : n ≡ length (names p a)) where
  pub room-none : capacity p ≤ n → has_room a p ≡ false
  unfolding has_room
  room-none h = rw (← l) (le-ltb n (capacity p) h)

  pub room-some : n < capacity p → has_room a p ≡ true
  unfolding has_room
  room-some h = rw (← l) (lt-ltb n (capacity p) h)

-- ---- a name used, with a test more
pub then_refused : {A : Type 0} (b : Bool) (x : Read ℕ) (f : ℕ → ℕ → Read A) (k : ℕ) → cond b x (refused 2) ≡ refused k → cond b (and_then x f) (refused 2) ≡ refused k
then_refused true x f k e = rw e
then_refused false x f k e = let q : ◌≡◌ {A = ℕ} 2 k = cc in rw (sym q)

pub then_got : {A : Type 0} (b : Bool) (x : Read ℕ) (f : ℕ → ℕ → Read A) (v next : ℕ) → cond b x (refused 2) ≡ got v next → cond b (and_then x f) (refused 2) ≡ f v next
then_got true x f v next e = rw e
then_got false x f v next e = let z : ◌≡◌ {A = ℕ} 0 1 = cc in absurd (omega arith)

module _ (s : List ℕ) (a : Book) (R : Readers) (b : Begun) (at : ℕ) where
  pub subject_refused : (k : ℕ) → arg_at s a R (used nodes) b at ≡ refused k → arg_at s a R subject b at ≡ refused k
  unfolding arg_at subject_at
  subject_refused k e = then_refused (eqb (get_or s at 0) 32) (used_at s a nodes (at + 1)) _ k e

  pub type_refused : (k : ℕ) → arg_at s a R (used types) b at ≡ refused k → arg_at s a R literal_type b at ≡ refused k
  unfolding arg_at literal_type_at
  type_refused k e = then_refused (eqb (get_or s at 0) 32) (used_at s a types (at + 1)) _ k e

  module _ (v next : ℕ) where
    pub subject_got : arg_at s a R (used nodes) b at ≡ got v next → arg_at s a R subject b at ≡ cond (is_resource (get_or (collect new_terms a) v iri)) (got v next) (refused 2)
    unfolding arg_at subject_at
    subject_got e = then_got (eqb (get_or s at 0) 32) (used_at s a nodes (at + 1)) _ v next e

    pub type_got : arg_at s a R (used types) b at ≡ got v next → arg_at s a R literal_type b at ≡ cond (not (eqb v lang_string)) (got v next) (refused 2)
    unfolding arg_at literal_type_at
    type_got e = then_got (eqb (get_or s at 0) 32) (used_at s a types (at + 1)) _ v next e

-- a number that was read is that of a name
pub used_below : (s : List ℕ) (a : Book) (R : Readers) (b : Begun) (p : Pool) (at v next : ℕ) → arg_at s a R (used p) b at ≡ got v next → v < length (names p a)
unfolding arg_at used_at
used_below s a R b p at v next e = go (eqb (get_or s at 0) 32) (well_named p w) (index_of (names p a) w) e (λ k. (index_at (names p a) w k).0)
  where
    w : List ℕ
    w = slice (at + 1) (item_end s (at + 1)) s

    go : (x y : Bool) (f : Option ℕ) → cond x (cond y (known s a f (item_end s (at + 1))) (refused 2)) (refused 2) ≡ got v next → ((k : ℕ) → f ≡ Some k → FirstOf (λ j. get_or (names p a) j []) (length (names p a)) w k) → v < length (names p a)
    go true true (Some k) e g = let q : k ≡ v = cc in rw (sym q) (g k refl).0
    go true true None e g = let z : ◌≡◌ {A = ℕ} 0 1 = cc in absurd (omega arith)
    go true false f e g = let z : ◌≡◌ {A = ℕ} 0 1 = cc in absurd (omega arith)
    go false y f e g = let z : ◌≡◌ {A = ℕ} 0 1 = cc in absurd (omega arith)

-- ---- lists
module _ (s : List ℕ) (a : Book) (p : Pool) (at : ℕ) where
  pub list_end : (room : ℕ) → (get_or s at 0 ≡ 32 → ⊥) → list_at s a p room at ≡ got [] at
  unfolding list_at
  list_end zero n = rw (ne_eqb (get_or s at 0) 32 n)
  list_end (suc room) n = rw (ne_eqb (get_or s at 0) 32 n)

  module _ (z : get_or s at 0 ≡ 32) (R : Readers) (b : Begun) where
    arg_used : arg_at s a R (used p) b at ≡ used_at s a p (at + 1)
    unfolding arg_at
    arg_used = rw (eq-eqb (get_or s at 0) 32 z)

    pub list_refused : (room k : ℕ) → arg_at s a R (used p) b at ≡ refused k → list_at s a p room at ≡ refused k
    unfolding list_at
    list_refused zero k e = rw (eq-eqb (get_or s at 0) 32 z, sym arg_used ∙ e)
    list_refused (suc room) k e = rw (eq-eqb (get_or s at 0) 32 z, sym arg_used ∙ e)

    module _ (k next : ℕ) (e : arg_at s a R (used p) b at ≡ got k next) where
      pub list_full : (room : ℕ) → room ≡ 0 → list_at s a p room at ≡ refused 7
      unfolding list_at
      list_full room q = rw (q, eq-eqb (get_or s at 0) 32 z, sym arg_used ∙ e)

      pub list_more : (room rest : ℕ) → room ≡ suc rest → list_at s a p room at ≡ and_then (list_at s a p rest next) (λ ks last. got (k ∷ ks) last)
      unfolding list_at
      list_more room rest q = rw (q, eq-eqb (get_or s at 0) 32 z, sym arg_used ∙ e)

-- one more item, before a list that was read
module _ (i k : ℕ) where
  pub more-answer : (x : Read (List ℕ)) → item_of (items_after (i + 1)) x ≡ item_of (items_after i) (and_then x (λ ks last. got (k ∷ ks) last))
  more-answer (got ks next) = let e : i + 1 + length ks ≡ i + suc (length ks) = omega arith in ap (λ (n : ℕ). Ok (n, next)) e
  more-answer (refused r) = refl

  pub more-listed : (x : Read (List ℕ)) (before after : List ℕ) → Listed x (i + 1) (set before (items + i) k) after → Listed (and_then x (λ ks last. got (k ∷ ks) last)) i before after
  unfolding put_items
  more-listed (got ks next) before after e = e
  more-listed (refused r) before after e = tt

pub listed_got : (x : Read (List ℕ)) (ks : List ℕ) (next i : ℕ) (before after : List ℕ) → x ≡ got ks next → Listed x i before after → after ≡ put_items i ks before
listed_got x ks next i before after e w = rw e at w

-- ---- a value, by the answer for it
pub value_got : (x : Read ℤ) (v : ℤ) (next : ℕ) → ◌≡◌ {A = Value} (Ok (v, next)) (value_of x) → x ≡ got v next
value_got (got y n) v next p = let e = ok_pair v y next n p in ap₂ got (sym e.0) (sym e.1)
value_got (refused k) v next p = let z : ◌≡◌ {A = ℕ} 0 1 = cc in absurd (omega arith)

pub value_refused : (x : Read ℤ) (e : Fault) → ◌≡◌ {A = Value} (Err e) (value_of x) → (k : ℕ) × (x ≡ refused k) × (e ≡ fault_of k)
value_refused (got y n) e p = let z : ◌≡◌ {A = ℕ} 0 1 = cc in absurd (omega arith)
value_refused (refused j) e p = (j, refl, cc)
