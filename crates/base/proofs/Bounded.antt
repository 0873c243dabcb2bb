-- `some`, `every`, `size` and `members` in words of logic, and their algebra, for every bound.
use Prim.Native.Nat.{ℕ, zero, suc, ◌+◌, ◌≤◌, ◌<◌}
use mathlib.Core.Bool.{Bool, true, false, not, cond, ◌&&◌, ◌||◌, or-false, and-false, or-true, true≢false}
use mathlib.Core.List.{List, [], ◌∷◌, ◌++◌}
use mathlib.Core.Path.{◌≡◌, refl, sym, ap, ap₂, ◌∙◌}
use mathlib.Core.Logic.{◌⊎◌, inl, inr, ⊎_elim, ◌↔◌}
use native.Mathlib.Nat.{le_refl, le-suc, le_trans, eq-or-lt_of_le, le_of_suc-le-suc, add-zero, add-suc}
use native.Mathlib.Numerals.{add-one}
use native.Mathlib.Omega.{arith}
use lib.Dec.{eqb, ltb}
use lib.ListN.{length, length-append}
use borrow.Author.Tests.{eq-eqb, lt-ltb, le-ltb}
use Rattle.base.specs.Bounded.{some, every, one, size, members}
use Rattle.base.specs.Lists.{member, allb, ascending}
use Rattle.base.proofs.Lists.{member_append, ascending_snoc, allb_append}
use Rattle.base.proofs.Bools.{and_left, and_right, and_both, or_cases, or_swap, same_test, never_both, not-not, not_and}

-- ---- every
pub every-at : (p : ℕ → Bool) (n : ℕ) → every p n ≡ true → (i : ℕ) → i < n → p i ≡ true
unfolding every
every-at p zero e i l = absurd (omega arith)
every-at p (suc n) e i l = ⊎_elim (λ q. ap p q ∙ and_left (p n) (every p n) e) (λ l'. every-at p n (and_right (p n) (every p n) e) i l') (eq-or-lt_of_le (le_of_suc-le-suc l))

pub every-all : (p : ℕ → Bool) (n : ℕ) → ((i : ℕ) → i < n → p i ≡ true) → every p n ≡ true
unfolding every
every-all p zero h = refl
every-all p (suc n) h = and_both (p n) (every p n) (h n (le_refl (suc n))) (every-all p n (λ i l. h i (le_trans l (le-suc n))))

-- `every` is "for all below n"
pub every_iff : (p : ℕ → Bool) (n : ℕ) → (every p n ≡ true) ↔ ((i : ℕ) → i < n → p i ≡ true)
every_iff p n = (every-at p n, every-all p n)

pub every_more : (p : ℕ → Bool) (i : ℕ) → every p i ≡ true → p i ≡ true → every p (i + 1) ≡ true
unfolding every
every_more p i e h = ap (every p) (add-one i) ∙ and_both (p i) (every p i) h e

pub every-fails : (p : ℕ → Bool) (n i : ℕ) → i < n → p i ≡ false → every p n ≡ false
every-fails p n i l h = Rattle.base.proofs.Bools.bool_cases (λ b. every p n ≡ b → every p n ≡ false) (every p n) (λ _ e. absurd (never_both (every-at p n e i l) h)) (λ _ e. e) refl

pub every_ext : (p q : ℕ → Bool) (n : ℕ) → ((i : ℕ) → i < n → p i ≡ q i) → every p n ≡ every q n
every_ext p q n h = same_test (every p n) (every q n) (λ e. every-all q n (λ i l. sym (h i l) ∙ every-at p n e i l)) (λ e. every-all p n (λ i l. h i l ∙ every-at q n e i l))

-- ---- some
pub some_at : (p : ℕ → Bool) (n i : ℕ) → i < n → p i ≡ true → some p n ≡ true
unfolding some
some_at p zero i l h = absurd (omega arith)
some_at p (suc n) i l h = ⊎_elim (λ e. ap (λ (b : Bool). b || some p n) (ap p (sym e) ∙ h)) (λ l'. ap (λ (b : Bool). p n || b) (some_at p n i l' h) ∙ or-true (p n)) (eq-or-lt_of_le (le_of_suc-le-suc l))

pub some_witness : (p : ℕ → Bool) (n : ℕ) → some p n ≡ true → (i : ℕ) × (i < n) × (p i ≡ true)
unfolding some
some_witness p zero e = absurd (mathlib.Core.Bool.true≢false (sym e))
some_witness p (suc n) e = ⊎_elim (λ h. (n, le_refl (suc n), h)) (λ h. let (i, l, q) = some_witness p n h in (i, le_trans l (le-suc n), q)) (or_cases (p n) (some p n) e)

-- `some` is "there is one below n"
pub some_iff : (p : ℕ → Bool) (n : ℕ) → (some p n ≡ true) ↔ ((i : ℕ) × (i < n) × (p i ≡ true))
some_iff p n = (some_witness p n, λ w. some_at p n w.0 w.1 w.2)

pub some_ext : (p q : ℕ → Bool) (n : ℕ) → ((i : ℕ) → i < n → p i ≡ q i) → some p n ≡ some q n
unfolding some
some_ext p q zero h = refl
some_ext p q (suc n) h = ap₂ (λ (a b : Bool). a || b) (h n (le_refl (suc n))) (some_ext p q n (λ i l. h i (le_trans l (le-suc n))))

pub some-none : (n : ℕ) → some (λ i. false) n ≡ false
unfolding some
some-none zero = refl
some-none (suc n) = some-none n

pub some_or : (a b : ℕ → Bool) (n : ℕ) → some (λ i. a i || b i) n ≡ (some a n || some b n)
unfolding some
some_or a b zero = refl
some_or a b (suc n) = ap (λ (x : Bool). (a n || b n) || x) (some_or a b n) ∙ or_swap (a n) (b n) (some a n) (some b n)

pub some_and : (c : Bool) (a : ℕ → Bool) (n : ℕ) → some (λ i. c && a i) n ≡ (c && some a n)
some_and true a n = refl
some_and false a n = some-none n

pub some-swap : (r : ℕ → ℕ → Bool) (m n : ℕ) → some (λ i. some (r i) m) n ≡ some (λ j. some (λ i. r i j) n) m
unfolding some
some-swap r m zero = sym (some-none m)
some-swap r m (suc n) = ap (λ (x : Bool). some (r n) m || x) (some-swap r m n) ∙ sym (some_or (r n) (λ j. some (λ i. r i j) n) m)

-- one number alone
pub some_eq : (q : ℕ → Bool) (a n : ℕ) → a < n → some (λ v. eqb a v && q v) n ≡ q a
some_eq q a n l = same_test (some (λ v. eqb a v && q v) n) (q a)
    (λ e. let (i, _, h) = some_witness (λ v. eqb a v && q v) n e in ap q (borrow.Author.Tests.eqb-true a i (and_left (eqb a i) (q i) h)) ∙ and_right (eqb a i) (q i) h)
    (λ h. some_at (λ v. eqb a v && q v) n a l (and_both (eqb a a) (q a) (eq-eqb a a refl) h))

-- ---- the two are each other's negation
pub not-every : (p q : ℕ → Bool) (n : ℕ) → ((i : ℕ) → i < n → not (p i) ≡ q i) → not (every p n) ≡ some q n
unfolding every some
not-every p q zero h = refl
not-every p q (suc n) h = not_and (p n) (every p n) ∙ ap₂ (λ (a b : Bool). a || b) (h n (le_refl (suc n))) (not-every p q n (λ i l. h i (le_trans l (le-suc n))))

pub some-every : (p : ℕ → Bool) (n : ℕ) → some p n ≡ not (every (λ i. not (p i)) n)
some-every p n = sym (not-every (λ i. not (p i)) p n (λ i _. not-not (p i)))

-- ---- size
pub one_le : (b : Bool) → one b ≤ 1
unfolding one
one_le true = omega arith
one_le false = omega arith

pub size_le : (p : ℕ → Bool) (n : ℕ) → size p n ≤ n
unfolding size
size_le p zero = omega arith
size_le p (suc n) = omega (arith, one_le (p n), size_le p n)

pub size_ext : (p q : ℕ → Bool) (n : ℕ) → ((i : ℕ) → i < n → p i ≡ q i) → size p n ≡ size q n
unfolding size
size_ext p q zero h = refl
size_ext p q (suc n) h = ap₂ (λ (a : Bool) (b : ℕ). one a + b) (h n (le_refl (suc n))) (size_ext p q n (λ i l. h i (le_trans l (le-suc n))))

pub size_add : (p : ℕ → Bool) (m n : ℕ) → size p (m + n) ≡ size p m + size (λ i. p (m + i)) n
unfolding size
size_add p m zero = rw (add-zero m, add-zero (size p m))
size_add p m (suc n) = rw (add-suc m n) (omega (arith, size_add p m n))

-- nothing of p from m on
pub size_beyond : (p : ℕ → Bool) (m n : ℕ) → ((i : ℕ) → m ≤ i → p i ≡ false) → size p (m + n) ≡ size p m
unfolding size one
size_beyond p m n h = size_add p m n ∙ ap (λ (k : ℕ). size p m + k) (none n) ∙ add-zero (size p m)
  where
    none : (n : ℕ) → size (λ i. p (m + i)) n ≡ 0
    none zero = refl
    none (suc n) = ap₂ (λ (a : Bool) (b : ℕ). one a + b) (h (m + n) (omega arith)) (none n)

-- ---- the size of a set and of a greater one
module _ (a b : ℕ → Bool) (more : (v : ℕ) → a v ≡ true → b v ≡ true) where
  one_mono : (x y : Bool) → (x ≡ true → y ≡ true) → one x ≤ one y
  unfolding one
  one_mono true true h = omega arith
  one_mono true false h = absurd (true≢false (sym (h refl)))
  one_mono false true h = omega arith
  one_mono false false h = omega arith

  size_mono : (m : ℕ) → size a m ≤ size b m
  unfolding size
  size_mono zero = omega arith
  size_mono (suc m) = omega (arith, one_mono (a m) (b m) (more m), size_mono m)

  -- the same below m, or greater there
  pub grown : (m : ℕ) → ((v : ℕ) → v < m → b v ≡ a v) ⊎ (suc (size a m) ≤ size b m)
  unfolding size one
  grown zero = inl (λ v l. absurd (omega arith))
  grown (suc m) = ⊎_elim (λ h. top (a m) (b m) refl refl h) (λ h. inr (omega (arith, one_mono (a m) (b m) (more m)))) (grown m)
    where
      join : ((v : ℕ) → v < m → b v ≡ a v) → b m ≡ a m → (v : ℕ) → v < suc m → b v ≡ a v
      join h e v l = ⊎_elim (λ q. ap b q ∙ e ∙ ap a (sym q)) (λ l'. h v l') (eq-or-lt_of_le (le_of_suc-le-suc l))

      gain : (x y : Bool) → x ≡ false → y ≡ true → suc (one x + size a m) ≤ one y + size b m
      gain true y p q = absurd (true≢false p)
      gain false true p q = omega (arith, size_mono m)
      gain false false p q = absurd (true≢false (sym q))

      top : (x y : Bool) → a m ≡ x → b m ≡ y → ((v : ℕ) → v < m → b v ≡ a v) → ((v : ℕ) → v < suc m → b v ≡ a v) ⊎ (suc (one (a m) + size a m) ≤ one (b m) + size b m)
      top true y p q h = inl (join h (more m p ∙ sym p))
      top false true p q h = inr (gain (a m) (b m) p q)
      top false false p q h = inl (join h (q ∙ sym p))

-- ---- members: each number below n that has p, once, lowest first
pub members_ext : (p q : ℕ → Bool) (n : ℕ) → ((v : ℕ) → v < n → p v ≡ q v) → members p n ≡ members q n
unfolding members
members_ext p q zero h = refl
members_ext p q (suc n) h = ap₂ (λ (l : List ℕ) (b : Bool). l ++ cond b (n ∷ []) []) (members_ext p q n (λ v l. h v (le_trans l (le-suc n)))) (h n (le_refl (suc n)))

-- a size is the length of a list without repeats: how many different numbers
pub size-members : (p : ℕ → Bool) (n : ℕ) → size p n ≡ length (members p n)
unfolding size members one
size-members p zero = refl
size-members p (suc n) = omega (arith, size-members p n, length-append (members p n) (cond (p n) (n ∷ []) []), last (p n))
  where
    last : (b : Bool) → length (cond b (n ∷ []) []) ≡ one b
    last true = refl
    last false = refl

pub member-members : (p : ℕ → Bool) (n v : ℕ) → member v (members p n) ≡ (ltb v n && p v)
unfolding member members
member-members p zero v = sym (ap (λ (b : Bool). b && p v) (le-ltb v 0 (omega arith)))
member-members p (suc n) v = member_append v (members p n) (cond (p n) (n ∷ []) []) ∙ ap₂ (λ (a b : Bool). a || b) (member-members p n v) (last (p n)) ∙ more (eqb v n) refl
  where
    last : (b : Bool) → member v (cond b (n ∷ []) []) ≡ (eqb v n && b)
    last true = or-false (eqb v n) ∙ sym (mathlib.Core.Bool.and-true (eqb v n))
    last false = sym (and-false (eqb v n))

    more : (b : Bool) → eqb v n ≡ b → ((ltb v n && p v) || (b && p n)) ≡ (ltb v (suc n) && p v)
    more true e =
        let q : v ≡ n = borrow.Author.Tests.eqb-true v n e in
        ap (λ (b : Bool). (b && p v) || p n) (le-ltb v n (omega arith)) ∙ ap p (sym q) ∙ ap (λ (b : Bool). b && p v) (sym (lt-ltb v (suc n) (omega arith)))
    more false e =
        let ne : v ≡ n → ⊥ = borrow.Author.Tests.eqb-false v n e in
        or-false (ltb v n && p v) ∙ ap (λ (b : Bool). b && p v) (same_test (ltb v n) (ltb v (suc n)) (λ h. lt-ltb v (suc n) (omega (arith, borrow.Author.Tests.ltb-true v n h))) (λ h. lt-ltb v n (let l : v < suc n = borrow.Author.Tests.ltb-true v (suc n) h in omega arith)))

pub members-low : (p : ℕ → Bool) (n m : ℕ) → n ≤ m → allb (λ v. ltb v m) (members p n) ≡ true
unfolding members allb
members-low p zero m h = refl
members-low p (suc n) m h = allb_append (λ v. ltb v m) (members p n) (cond (p n) (n ∷ []) []) ∙ and_both (allb (λ v. ltb v m) (members p n)) (allb (λ v. ltb v m) (cond (p n) (n ∷ []) [])) (members-low p n m (omega arith)) (last (p n))
  where
    last : (b : Bool) → allb (λ v. ltb v m) (cond b (n ∷ []) []) ≡ true
    last true = and_both (ltb n m) true (lt-ltb n m h) refl
    last false = refl

-- each once, lowest first
pub members-ascending : (p : ℕ → Bool) (n : ℕ) → ascending (members p n) ≡ true
unfolding members ascending
members-ascending p zero = refl
members-ascending p (suc n) = last (p n) (members-ascending p n)
  where
    last : (b : Bool) → ascending (members p n) ≡ true → ascending (members p n ++ cond b (n ∷ []) []) ≡ true
    last true h = ascending_snoc (members p n) n h (members-low p n n (le_refl n))
    last false h = ap ascending (mathlib.Core.List.append-nil (members p n)) ∙ h
