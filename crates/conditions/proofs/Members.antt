-- A search that goes from member to member of a set, and what it has seen; sets that are gathered.
use Prim.Native.Nat.{ℕ, ◌+◌, ◌*◌, ◌≤◌, ◌<◌, zero-le}
use mathlib.Core.Bool.{Bool, true, false, ◌&&◌, ◌||◌, and-true, and-false, or-false}
use mathlib.Core.List.{List}
use mathlib.Core.Path.{◌≡◌, refl, sym, ap, ap₂, ◌∙◌, subst}
use native.Mathlib.Omega.{arith}
use lib.Dec.{eqb, ltb}
use lib.ListN.{length, replicate}
use borrow.Author.Tests.{eqb-true, eqb-false, ltb-true, ltb-false, lt-ltb, le-ltb}
use Rattle.base.specs.Bounded.{◌⇒◌, every}
use Rattle.base.proofs.Bools.{bool_cases}
use Rattle.base.proofs.Bounded.{every-at, every-all, every_more}
use Rattle.base.specs.Least.{next_from}
use Rattle.base.proofs.Least.{Next, next-found}
use Rattle.nodeset.specs.Words.{has, words_of, nodes_of}
use Rattle.nodeset.proofs.Sets.{words_of_ext, has_of, length_of, zeros, ltb-more}

-- the search stands at i, which is a member or n, and q holds of all members before it
pub record Passed (p q : ℕ → Bool) (n i : ℕ) : Type 0 where
  pub within : i ≤ n
  pub all : every (λ x. p x ⇒ q x) i ≡ true
  pub hit : i < n → p i ≡ true

-- up to the next member there is none
every_gap : (p q : ℕ → Bool) (i r : ℕ) → every (λ x. p x ⇒ q x) i ≡ true → ((j : ℕ) → i ≤ j → j < r → p j ≡ false) → every (λ x. p x ⇒ q x) r ≡ true
every_gap p q i r e h = every-all (λ x. p x ⇒ q x) r λ x l. bool_cases (λ b. ltb x i ≡ b → (p x ⇒ q x) ≡ true) (ltb x i)
    (λ _ t. every-at (λ x. p x ⇒ q x) i e x (ltb-true x i t)) (λ _ t. ap (λ (b : Bool). b ⇒ q x) (h x (ltb-false x i t) l)) refl

module _ (p q : ℕ → Bool) (n : ℕ) where
  move : (i r : ℕ) → i ≤ n → every (λ x. p x ⇒ q x) i ≡ true → r ≡ next_from p i n → Passed p q n r
  move i r l e f = subst (λ (r : ℕ). Passed p q n r) (sym f) (let x : Next p i n (next_from p i n) = next-found p n i l in record { within = x.within; all = every_gap p q i (next_from p i n) e x.none; hit = x.hit })

  pub passed_none : {r : ℕ} → r ≡ next_from p 0 n → Passed p q n r
  unfolding every
  passed_none {r} f = move 0 r zero-le refl f

  pub passed_more : {i r : ℕ} → Passed p q n i → i < n → q i ≡ true → r ≡ next_from p (i + 1) n → Passed p q n r
  passed_more {i} {r} s l h f = move (i + 1) r (omega arith) (every_more (λ x. p x ⇒ q x) i s.all (ap₂ (λ (a b : Bool). a ⇒ b) (s.hit l) h)) f

  pub passed_all : {i : ℕ} → Passed p q n i → n ≤ i → every (λ x. p x ⇒ q x) n ≡ true
  passed_all {i} s l = subst (λ (k : ℕ). every (λ x. p x ⇒ q x) k ≡ true) (let e : i ≡ n = omega (arith, s.within) in e) s.all

-- ---- the members that have t, gathered one after the other: ws has those before x, and x is a member or n
module _ (p t : ℕ → Bool) (n : ℕ) where
  abbrev up_to : ℕ → ℕ → Bool
  up_to x m = ltb m x && (p m && t m)

  pub record Gathered (ws : List ℕ) (x : ℕ) : Type 0 where
    pub within : x ≤ n
    pub words : ws ≡ words_of (up_to x) 16
    pub hit : x < n → p x ≡ true

  -- none where p has none
  past : (i r m : ℕ) → ((j : ℕ) → i ≤ j → j < r → p j ≡ false) → i ≤ m → up_to r m ≡ false
  past i r m h l = bool_cases (λ b. ltb m r ≡ b → (b && (p m && t m)) ≡ false) (ltb m r) (λ _ q. ap (λ (b : Bool). b && t m) (h m l (ltb-true m r q))) (λ _ q. refl) refl

  pub gathered_none : {r : ℕ} → r ≡ next_from p 0 n → Gathered (replicate 16 0) r
  gathered_none {r} f = subst (λ (r : ℕ). Gathered (replicate 16 0) r) (sym f) (let x : Next p 0 n (next_from p 0 n) = next-found p n 0 zero-le in record {
    within = x.within;
    words = zeros 16 ∙ words_of_ext (λ m. false) (up_to (next_from p 0 n)) 16 (λ m l. sym (past 0 (next_from p 0 n) m x.none zero-le));
    hit = x.hit;
  })

  -- x with those before it are those before the next member
  with-next : (x r m : ℕ) → p x ≡ true → x < r → ((j : ℕ) → x + 1 ≤ j → j < r → p j ≡ false) → (up_to x m || (t x && eqb m x)) ≡ up_to r m
  with-next x r m h l gap = bool_cases (λ b. eqb m x ≡ b → (up_to x m || (t x && b)) ≡ up_to r m) (eqb m x)
      (λ _ q. let e : m ≡ x = eqb-true m x q in
      ap (λ (b : Bool). (b && (p m && t m)) || (t x && true)) (le-ltb m x (omega arith)) ∙ and-true (t x)
      ∙ sym (ap₂ (λ (a b : Bool). a && b) (lt-ltb m r (omega arith)) (ap₂ (λ (a b : Bool). a && b) (ap p e ∙ h) (ap t e))))
      (λ _ q. let ne : m ≡ x → ⊥ = eqb-false m x q in
      ap (λ (b : Bool). up_to x m || b) (and-false (t x)) ∙ or-false (up_to x m) ∙ bool_cases (λ b. ltb m x ≡ b → (b && (p m && t m)) ≡ up_to r m) (ltb m x)
      (λ _ k. sym (ap (λ (b : Bool). b && (p m && t m)) (lt-ltb m r (omega (arith, ltb-true m x k)))))
      (λ _ k. sym (past (x + 1) r m gap (let g : x ≤ m = ltb-false m x k in omega arith))) refl)
      refl

  pub gathered-more : {ws new : List ℕ} {x r : ℕ} {b : Bool} → Gathered ws x → x < n → b ≡ t x → r ≡ next_from p (x + 1) n → new ≡ words_of (λ m. has ws m || (b && eqb m x)) (length ws) → Gathered new r
  gathered-more {ws} {new} {x} {r} {b} s l eb f e =
      let z : Next p (x + 1) n (next_from p (x + 1) n) = next-found p n (x + 1) (omega arith) in
      subst (λ (r : ℕ). Gathered new r) (sym f) (record {
        within = z.within;
        words = e ∙ ap (words_of (λ m. has ws m || (b && eqb m x))) (length_of (up_to x) 16 s.words)
            ∙ words_of_ext (λ m. has ws m || (b && eqb m x)) (up_to (next_from p (x + 1) n)) 16 (λ m k.
            ap₂ (λ (a c : Bool). a || (c && eqb m x)) (has_of (up_to x) 16 s.words m k) eb ∙ with-next x (next_from p (x + 1) n) m (s.hit l) (omega (arith, z.onward)) z.none);
        hit = z.hit;
      })

  pub gathered-length : {ws : List ℕ} {x : ℕ} → Gathered ws x → 16 ≡ length ws
  gathered-length {x = x} s = sym (length_of (up_to x) 16 s.words)

  pub gathered-all : {ws : List ℕ} {x : ℕ} → Gathered ws x → n ≤ x → ws ≡ words_of (up_to n) 16
  gathered-all {ws} {x} s l = s.words ∙ ap (λ (k : ℕ). words_of (up_to k) 16) (let e : x ≡ n = omega (arith, s.within) in e)

-- x joins words of p, where b
pub grown : {ws : List ℕ} (p q : ℕ → Bool) (k x : ℕ) (b : Bool) → ws ≡ words_of p k → ((m : ℕ) → m < 64 * k → (p m || (b && eqb m x)) ≡ q m) → words_of (λ m. has ws m || (b && eqb m x)) (length ws) ≡ words_of q k
grown {ws} p q k x b e h =
    ap (words_of (λ m. has ws m || (b && eqb m x))) (length_of p k e)
    ∙ words_of_ext (λ m. has ws m || (b && eqb m x)) q k (λ m l. ap (λ (a : Bool). a || (b && eqb m x)) (has_of p k e m l) ∙ h m l)

-- ---- the nodes that have a property, gathered node by node
module _ (p : ℕ → Bool) where
  pub nodes-none : replicate 16 0 ≡ nodes_of p 0
  unfolding nodes_of
  nodes-none = zeros 16 ∙ words_of_ext (λ m. false) (λ v. ltb v 0 && p v) 16 (λ m l. ap (λ (b : Bool). b && p m) (sym (le-ltb m 0 (omega arith))))

  pub nodes-more : {ws : List ℕ} (i : ℕ) (b : Bool) → ws ≡ nodes_of p i → b ≡ p i → words_of (λ m. has ws m || (b && eqb m i)) (length ws) ≡ nodes_of p (i + 1)
  unfolding nodes_of
  nodes-more i b e f = grown (λ v. ltb v i && p v) (λ v. ltb v (i + 1) && p v) 16 i b e (λ m l. here m (eqb m i) refl ∙ ap (λ (a : Bool). a && p m) (sym (ltb-more m i)))
    where
      with_i : (a x : Bool) → ((a && x) || x) ≡ ((a || true) && x)
      with_i true true = refl
      with_i true false = refl
      with_i false x = refl

      here : (m : ℕ) (d : Bool) → eqb m i ≡ d → ((ltb m i && p m) || (b && d)) ≡ ((ltb m i || d) && p m)
      here m true q = ap (λ (x : Bool). (ltb m i && p m) || x) (and-true b ∙ f ∙ ap p (sym (eqb-true m i q))) ∙ with_i (ltb m i) (p m)
      here m false q = ap (λ (x : Bool). (ltb m i && p m) || x) (and-false b) ∙ or-false (ltb m i && p m) ∙ ap (λ (x : Bool). x && p m) (sym (or-false (ltb m i)))

  pub nodes-length : {ws : List ℕ} (i : ℕ) → ws ≡ nodes_of p i → 16 ≡ length ws
  unfolding nodes_of
  nodes-length i e = sym (length_of (λ v. ltb v i && p v) 16 e)

  pub nodes_done : {ws : List ℕ} (i n : ℕ) → i ≡ n → ws ≡ nodes_of p i → ws ≡ nodes_of p n
  nodes_done i n e f = f ∙ ap (nodes_of p) e
