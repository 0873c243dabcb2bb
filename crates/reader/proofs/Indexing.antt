-- The index after a line, and at the start: the chains of all names.
use Prim.Native.Nat.{ℕ, ◌+◌, ◌/◌, ◌%◌, ◌<◌, ◌≤◌}
use mathlib.Core.Path.{◌≡◌, refl, sym, ap, ◌∙◌, subst}
use mathlib.Core.List.{List, [], ◌∷◌, ◌++◌}
use mathlib.Core.Bool.{Bool, true, false, cond}
use mathlib.Core.Logic.{⊎_elim}
use native.Mathlib.Nat.{mod-lt}
use native.Mathlib.Omega.{arith}
use lib.Dec.{eqb, ltb}
use lib.ListN.{length, get_or, set, replicate, length-set, length-replicate, length-append, get_or-replicate, get_or-append}
use lib.Seq.{get_or-set_other}
use borrow.Author.Tests.{eqb-false, lt-ltb, le-ltb, ltb-true, ltb-false}
use Rattle.chains.specs.Chains.{Chained, linked}
use Rattle.chains.proofs.Chains.{chained-none, chained_same, chained_more}
use Rattle.text.specs.Pool.{padded, place, hash_of, name_key}
use Rattle.text.proofs.Places.{pool_place}
use Rattle.model.specs.Books.{Name, Line, link, type, lang, node, fact, shape, rule, Book, Pool, nodes, links, types, langs, shapes, pool_number, joins, new_names, names}
use Rattle.model.specs.Valid.{capacity}
use Rattle.model.proofs.Lines.{names_snoc}
use Rattle.model.specs.Limits.{name_bytes}
use Rattle.encoding.specs.Encode.{encode_names, pool_base}
use Rattle.stores.proofs.Prefixes.{Prefix}
use Rattle.stores.proofs.Lookups.{pool_held}
use Rattle.model.specs.declared.Counts.{Counts}
use Rattle.itemreader.specs.Held.{count_of, Limits, Indexed, name_places, name_index_count}
use Rattle.model.specs.declared.Counts.{Counts}
use Rattle.itemreader.proofs.Places.{pool_inside, pools_apart, count-within}
use Rattle.linereader.specs.Storing.{counted}
use Rattle.reader.specs.Answers.{no_counts}
use Rattle.reader.specs.Running.{built_in_counts}
use Rattle.reader.specs.Indexing.{pool_joined, all_joined}

-- the chains of the first k names of a pool
abbrev Pooled : List ℕ → List ℕ → Pool → ℕ → Type 0
Pooled ns index p k = Chained (name_key ns (pool_base p) (capacity p)) k (capacity p) (pool_base p / name_bytes) (name_places + pool_base p / name_bytes) index

-- ---- one pool, by what the code has
module _ (ns : List ℕ) (n m : Counts) (p : Pool) (index : List ℕ) (i j : ℕ) (x : i ≡ count_of n p) (y : j ≡ count_of m p) where
  pub joined_yes : (first slots h : ℕ) → first ≡ pool_base p → slots ≡ capacity p → h ≡ hash_of (place ns first i) → i < j → linked index (first / name_bytes) (name_places + first / name_bytes) (h % slots) i ≡ pool_joined ns n m p index
  unfolding pool_joined
  joined_yes first slots h f s q l = rw (q, f, s, x) (rw (lt-ltb (count_of n p) (count_of m p) (rw (← x, ← y) l)))

  pub joined_no : j ≤ i → index ≡ pool_joined ns n m p index
  unfolding pool_joined
  joined_no l = rw (le-ltb (count_of n p) (count_of m p) (rw (← x, ← y) l))

-- ---- what was added joins
-- each pool has at most one name more
module _ (ns : List ℕ) (n m : Counts) (grew : (p : Pool) → (count_of n p ≤ count_of m p) × (count_of m p ≤ count_of n p + 1)) (L : Limits m) where
  long : (p : Pool) (index : List ℕ) → name_index_count ≤ length index → name_index_count ≤ length (pool_joined ns n m p index)
  unfolding pool_joined
  long p index h = go (ltb (count_of n p) (count_of m p))
    where
      go : (t : Bool) → name_index_count ≤ length (cond t (linked index (pool_base p / name_bytes) (name_places + pool_base p / name_bytes) (name_key ns (pool_base p) (capacity p) (count_of n p)) (count_of n p)) index)
      go true = simp length-set h
      go false = h

  -- the pool's own chains
  own : (p : Pool) {index : List ℕ} → name_index_count ≤ length index → Pooled ns index p (count_of n p) → Pooled ns (pool_joined ns n m p index) p (count_of m p)
  unfolding pool_joined
  own p {index} h c = go (ltb (count_of n p) (count_of m p)) refl
    where
      go : (t : Bool) → ltb (count_of n p) (count_of m p) ≡ t → Pooled ns (cond t (linked index (pool_base p / name_bytes) (name_places + pool_base p / name_bytes) (name_key ns (pool_base p) (capacity p) (count_of n p)) (count_of n p)) index) p (count_of m p)
      go true e =
          let l = ltb-true (count_of n p) (count_of m p) e in
          let g = (grew p).1 in
          let w = count-within m p L in
          let i = (pool_inside p).0 in
          let z : count_of n p + 1 ≡ count_of m p = omega arith in
          subst (Pooled ns (linked index (pool_base p / name_bytes) (name_places + pool_base p / name_bytes) (name_key ns (pool_base p) (capacity p) (count_of n p)) (count_of n p)) p) z
          (chained_more (name_key ns (pool_base p) (capacity p)) (count_of n p) (capacity p) (pool_base p / name_bytes) (name_places + pool_base p / name_bytes) (omega arith) (mod-lt (hash_of (place ns (pool_base p) (count_of n p))) (pool_inside p).1) (omega arith) c)
      go false e =
          let l = ltb-false (count_of n p) (count_of m p) e in
          let g = (grew p).0 in
          let z : count_of n p ≡ count_of m p = omega arith in
          subst (Pooled ns index p) z c

  -- another pool's
  other : (p q : Pool) {k : ℕ} {index : List ℕ} → eqb (pool_number q) (pool_number p) ≡ false → k ≤ capacity q → Pooled ns index q k → Pooled ns (pool_joined ns n m p index) q k
  unfolding pool_joined
  other p q {k} {index} ne w c = go (ltb (count_of n p) (count_of m p)) refl
    where
      -- away from the two places that change
      far : (x : ℕ) → (x ≡ name_places + pool_base p / name_bytes + count_of n p → ⊥) → (x ≡ pool_base p / name_bytes + name_key ns (pool_base p) (capacity p) (count_of n p) → ⊥) → get_or (linked index (pool_base p / name_bytes) (name_places + pool_base p / name_bytes) (name_key ns (pool_base p) (capacity p) (count_of n p)) (count_of n p)) x 0 ≡ get_or index x 0
      far x a b =
          get_or-set_other (set index (name_places + pool_base p / name_bytes + count_of n p) (get_or index (pool_base p / name_bytes + name_key ns (pool_base p) (capacity p) (count_of n p)) 0)) (pool_base p / name_bytes + name_key ns (pool_base p) (capacity p) (count_of n p)) x (count_of n p + 1) 0 b
          ∙ get_or-set_other index (name_places + pool_base p / name_bytes + count_of n p) x (get_or index (pool_base p / name_bytes + name_key ns (pool_base p) (capacity p) (count_of n p)) 0) 0 a

      go : (t : Bool) → ltb (count_of n p) (count_of m p) ≡ t → Pooled ns (cond t (linked index (pool_base p / name_bytes) (name_places + pool_base p / name_bytes) (name_key ns (pool_base p) (capacity p) (count_of n p)) (count_of n p)) index) q k
      go false e = c
      go true e =
          let l = ltb-true (count_of n p) (count_of m p) e in
          let b = count-within m p L in
          let x = mod-lt (hash_of (place ns (pool_base p) (count_of n p))) (pool_inside p).1 in
          let i = (pool_inside p).0 in
          let j = (pool_inside q).0 in
          ⊎_elim
          (λ (o : pool_base p / name_bytes + capacity p ≤ pool_base q / name_bytes). chained_same (λ _ _. refl) (λ h r. far (pool_base q / name_bytes + h) (λ z. omega arith) (λ z. omega arith)) (λ k r. far (name_places + pool_base q / name_bytes + k) (λ z. omega arith) (λ z. omega arith)) c)
          (λ (o : pool_base q / name_bytes + capacity q ≤ pool_base p / name_bytes). chained_same (λ _ _. refl) (λ h r. far (pool_base q / name_bytes + h) (λ z. omega arith) (λ z. omega arith)) (λ k r. far (name_places + pool_base q / name_bytes + k) (λ z. omega arith) (λ z. omega arith)) c)
          (pools_apart p q (eqb-false (pool_number q) (pool_number p) ne))

  before : (p : Pool) → count_of n p ≤ capacity p
  before p = let g = (grew p).0 in omega (arith, count-within m p L)

  after : (p q : Pool) {index : List ℕ} → eqb (pool_number q) (pool_number p) ≡ false → Pooled ns index q (count_of m q) → Pooled ns (pool_joined ns n m p index) q (count_of m q)
  after p q ne c = other p q ne (count-within m q L) c

  joined_all : {index : List ℕ} → name_index_count ≤ length index → ((q : Pool) → Pooled ns index q (count_of n q)) → (q : Pool) → Pooled ns (all_joined ns n m index) q (count_of m q)
  unfolding all_joined
  joined_all {index} h c nodes = after shapes nodes refl (after langs nodes refl (after types nodes refl (after links nodes refl (own nodes h (c nodes)))))
  joined_all {index} h c links = after shapes links refl (after langs links refl (after types links refl (own links (long nodes index h) (other nodes links refl (before links) (c links)))))
  joined_all {index} h c types =
      let i = pool_joined ns n m nodes index in
      after shapes types refl (after langs types refl (own types (long links i (long nodes index h)) (other links types refl (before types) (other nodes types refl (before types) (c types)))))
  joined_all {index} h c langs =
      let i = pool_joined ns n m nodes index in
      let j = pool_joined ns n m links i in
      after shapes langs refl (own langs (long types j (long links i (long nodes index h))) (other types langs refl (before langs) (other links langs refl (before langs) (other nodes langs refl (before langs) (c langs)))))
  joined_all {index} h c shapes =
      let i = pool_joined ns n m nodes index in
      let j = pool_joined ns n m links i in
      let k = pool_joined ns n m types j in
      own shapes (long langs k (long types j (long links i (long nodes index h)))) (other langs shapes refl (before shapes) (other types shapes refl (before shapes) (other links shapes refl (before shapes) (other nodes shapes refl (before shapes) (c shapes)))))

-- ---- at the start
pub start-indexed : (ns : List ℕ) → Indexed ns built_in_counts (all_joined ns no_counts built_in_counts (replicate name_index_count 0))
start-indexed ns = record { chains = joined_all ns no_counts built_in_counts grew limits long none }
  where
    grew : (p : Pool) → (count_of no_counts p ≤ count_of built_in_counts p) × (count_of built_in_counts p ≤ count_of no_counts p + 1)
    grew nodes = (omega arith, omega arith)
    grew links = (omega arith, omega arith)
    grew types = (omega arith, omega arith)
    grew langs = (omega arith, omega arith)
    grew shapes = (omega arith, omega arith)

    limits : Limits built_in_counts
    limits = record { node_limit = omega arith; link_limit = omega arith; type_limit = omega arith; lang_limit = omega arith; shape_limit = omega arith }

    long : name_index_count ≤ length (replicate {A = ℕ} name_index_count 0)
    long = omega (arith, length-replicate {A = ℕ} name_index_count 0)

    empty : (q : Pool) → Pooled ns (replicate name_index_count 0) q 0
    empty q = chained-none (name_key ns (pool_base q) (capacity q)) (capacity q) (pool_base q / name_bytes) (name_places + pool_base q / name_bytes) (λ h l. let i = (pool_inside q).0 in get_or-replicate name_index_count (pool_base q / name_bytes + h) 0 0 (omega arith))

    none : (q : Pool) → Pooled ns (replicate name_index_count 0) q (count_of no_counts q)
    none nodes = empty nodes
    none links = empty links
    none types = empty types
    none langs = empty langs
    none shapes = empty shapes

-- ---- after a line
one : (b : Bool) (w : Name) → length (cond b (w ∷ []) []) ≤ 1
one true w = omega arith
one false w = omega arith

new_one : (p : Pool) (l : Line) → length (new_names p l) ≤ 1
unfolding new_names joins
new_one p (link w) = one (eqb (pool_number p) (pool_number links)) w
new_one p (type w) = one (eqb (pool_number p) (pool_number types)) w
new_one p (lang w) = one (eqb (pool_number p) (pool_number langs)) w
new_one p (node w t) = one (eqb (pool_number p) (pool_number nodes)) w
new_one p (fact t) = omega arith
new_one p (shape w φ) = one (eqb (pool_number p) (pool_number shapes)) w
new_one p (rule r) = omega arith

counted-at : (l : Line) (n : Counts) (p : Pool) → count_of (counted l n) p ≡ count_of n p + length (new_names p l)
counted-at l n nodes = refl
counted-at l n links = refl
counted-at l n types = refl
counted-at l n langs = refl
counted-at l n shapes = refl

module _ (a : Book) (l : Line) (P : Prefix a) (P' : Prefix (a ++ (l ∷ []))) (t : List ℕ) where
  -- what was there stays in its place
  same_place : (q : Pool) (i : ℕ) → i < length (names q a) → place (encode_names a ++ t) (pool_base q) i ≡ place (encode_names (a ++ (l ∷ [])) ++ t) (pool_base q) i
  same_place q i h =
      let e = names_snoc q a l in
      pool_place (names q a) (P.names-made q) (pool_held a P t q) i h
      ∙ sym (pool_place (names q (a ++ (l ∷ []))) (P'.names-made q) (pool_held (a ++ (l ∷ [])) P' t q) i (omega (arith, ap length e, length-append (names q a) (new_names q l)))
      ∙ ap padded (ap (λ (ws : List Name). get_or ws i []) e ∙ get_or-append (names q a) (new_names q l) [] i h))

  pub line-indexed : {ns ns' index : List ℕ} {n m : Counts} → ns ≡ encode_names a ++ t → ns' ≡ encode_names (a ++ (l ∷ [])) ++ t → ((p : Pool) → count_of n p ≡ length (names p a)) → m ≡ counted l n → Limits m → name_index_count ≤ length index
      → Indexed ns n index → Indexed ns' m (all_joined ns' n m index)
  line-indexed {ns} {ns'} {index} {n} {m} e e' c z L h I =
      record {
        chains = joined_all ns' n m grew L h (λ q. chained_same (λ i k. ap (λ (x : List ℕ). hash_of x % capacity q) (kept q i k)) (λ _ _. refl) (λ _ _. refl) (I.chains q));
      }
    where
      grew : (p : Pool) → (count_of n p ≤ count_of m p) × (count_of m p ≤ count_of n p + 1)
      grew p = let y = ap (λ (k : Counts). count_of k p) z ∙ counted-at l n p in let o = new_one p l in (omega arith, omega arith)

      kept : (q : Pool) (i : ℕ) → i < count_of n q → place ns (pool_base q) i ≡ place ns' (pool_base q) i
      kept q i k = rw (e, e') (same_place q i (omega (arith, c q)))
