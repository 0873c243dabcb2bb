-- The members of a set in a list, lowest first, and the searches for a pair that go through such a list.
use Prim.Native.Nat.{ℕ, ◌+◌, ◌≤◌, ◌<◌, zero-le}
use mathlib.Core.Bool.{Bool, true, false, not, ◌&&◌, ◌||◌, or-true}
use mathlib.Core.List.{List}
use mathlib.Core.Logic.{◌⊎◌, inl, inr, ⊎_elim}
use mathlib.Core.Option.{Option}
use mathlib.Core.Path.{◌≡◌, refl, sym, ap, ap₂, ◌∙◌, subst}
use native.Mathlib.Omega.{arith}
use lib.Dec.{eqb, ltb}
use lib.ListN.{get_or, set, take, length}
use Rattle.std.proofs.lemmas.List.{get_or-take, length-take-le}
use lib.Seq.{get_or-set_same, get_or-set_other}
use borrow.Author.Tests.{eqb-true, eqb-false, ne_eqb, lt-ltb, le-ltb, ltb-true, ltb-false, not-true}
use Rattle.base.specs.Bounded.{◌⇒◌, every}
use Rattle.base.proofs.Bools.{bool_cases, never_both, and_left, and_right, and_both, implies_true, true_implies}
use Rattle.base.proofs.Bounded.{every-at, every-all, every_more}
use Rattle.base.specs.Least.{next_from}
use Rattle.base.proofs.Least.{Next, next-found}
use Rattle.conditions.specs.Searches.{first_pair, among, MembersListed}
use Rattle.conditions.proofs.Members.{Passed}
use Rattle.conditions.proofs.Searches.{FirstPair, pair-none, pair-at, search_pair}

-- ---- gathering: the loop stands at x, a member or n, and the first count places have the members before it
pub record Gathering (p : ℕ → Bool) (n : ℕ) (xs : List ℕ) (count x : ℕ) : Type 0 where
  pub within : x ≤ n
  pub few : count ≤ x
  pub hit : x < n → p x ≡ true
  pub inside : (j : ℕ) → j < count → (get_or xs j 0 < x) × (p (get_or xs j 0) ≡ true)
  pub rising : (i j : ℕ) → i < j → j < count → get_or xs i 0 < get_or xs j 0
  pub all : (y : ℕ) → y < x → p y ≡ true → (j : ℕ) × (j < count) × (get_or xs j 0 ≡ y)

module _ (p : ℕ → Bool) (n : ℕ) where
  pub gathering_none : (xs : List ℕ) {x : ℕ} → x ≡ next_from p 0 n → Gathering p n xs 0 x
  gathering_none xs {x} e = subst (λ (x : ℕ). Gathering p n xs 0 x) (sym e)
      (let f : Next p 0 n (next_from p 0 n) = next-found p n 0 zero-le in record {
        within = f.within;
        few = zero-le;
        hit = f.hit;
        inside = λ j l. absurd (omega arith);
        rising = λ i j l k. absurd (omega arith);
        all = λ y l h. absurd (never_both h (f.none y zero-le l));
      })

  -- what stands at a place after one more was put down
  old_or_new : (xs : List ℕ) (count x : ℕ) → count < length xs → (j : ℕ) → j < count + 1 → ((j < count) × (get_or (set xs count x) j 0 ≡ get_or xs j 0)) ⊎ ((j ≡ count) × (get_or (set xs count x) j 0 ≡ x))
  old_or_new xs count x room j l = bool_cases (λ b. ltb j count ≡ b → ((j < count) × (get_or (set xs count x) j 0 ≡ get_or xs j 0)) ⊎ ((j ≡ count) × (get_or (set xs count x) j 0 ≡ x))) (ltb j count)
      (λ _ h. let low : j < count = ltb-true j count h in inl (low, get_or-set_other xs count j x 0 (λ q. let z : ⊥ = omega arith in z)))
      (λ _ h. let high : count ≤ j = ltb-false j count h in let e : j ≡ count = omega arith in inr (e, ap (λ (i : ℕ). get_or (set xs count x) i 0) e ∙ get_or-set_same xs count x 0 room))
      refl

  module _ {xs : List ℕ} {count x : ℕ} (g : Gathering p n xs count x) (room : count < length xs) (l : x < n) where
    new_inside : (y : ℕ) → x < y → (j : ℕ) → j < count + 1 → (get_or (set xs count x) j 0 < y) × (p (get_or (set xs count x) j 0) ≡ true)
    new_inside y ly j k = ⊎_elim
        (λ t. let o = g.inside j t.0 in (omega (arith, t.1, o.0), ap p t.1 ∙ o.1))
        (λ t. (omega (arith, t.1), ap p t.1 ∙ g.hit l))
        (old_or_new xs count x room j k)

    new_rising : (i j : ℕ) → i < j → j < count + 1 → get_or (set xs count x) i 0 < get_or (set xs count x) j 0
    new_rising i j a k = ⊎_elim
        (λ t. ⊎_elim (λ s. omega (arith, t.1, s.1, g.rising i j a t.0)) (λ s. absurd (let z : j < count = t.0 in let y : i ≡ count = s.0 in omega arith)) (old_or_new xs count x room i (omega arith)))
        (λ t. ⊎_elim (λ s. let o = g.inside i s.0 in omega (arith, t.1, s.1, o.0)) (λ s. absurd (let z : j ≡ count = t.0 in let y : i ≡ count = s.0 in omega arith)) (old_or_new xs count x room i (omega arith)))
        (old_or_new xs count x room j k)

    new_all : (z : ℕ) → z < x + 1 → p z ≡ true → (j : ℕ) × (j < count + 1) × (get_or (set xs count x) j 0 ≡ z)
    new_all z k h = bool_cases (λ b. ltb z x ≡ b → (j : ℕ) × (j < count + 1) × (get_or (set xs count x) j 0 ≡ z)) (ltb z x)
        (λ _ q. let t = g.all z (ltb-true z x q) h in let low : t.0 < count = t.1 in (t.0, omega arith, get_or-set_other xs count t.0 x 0 (λ q. let z : ⊥ = omega arith in z) ∙ t.2))
        (λ _ q. let high : x ≤ z = ltb-false z x q in let e : x ≡ z = omega arith in (count, omega arith, get_or-set_same xs count x 0 room ∙ e))
        refl

    pub gathering_more : {y : ℕ} → y ≡ next_from p (x + 1) n → Gathering p n (set xs count x) (count + 1) y
    gathering_more {y} e = subst (λ (y : ℕ). Gathering p n (set xs count x) (count + 1) y) (sym e)
        (let f : Next p (x + 1) n (next_from p (x + 1) n) = next-found p n (x + 1) (omega arith) in record {
          within = f.within;
          few = omega (arith, g.few, f.onward);
          hit = f.hit;
          inside = new_inside (next_from p (x + 1) n) (omega (arith, f.onward));
          rising = new_rising;
          all = λ z k h. bool_cases (λ b. ltb z (x + 1) ≡ b → (j : ℕ) × (j < count + 1) × (get_or (set xs count x) j 0 ≡ z)) (ltb z (x + 1)) (λ _ q. new_all z (ltb-true z (x + 1) q) h) (λ _ q. absurd (never_both h (f.none z (ltb-false z (x + 1) q) k))) refl;
        })

  pub gathering_done : {xs : List ℕ} {count x : ℕ} → Gathering p n xs count x → n ≤ x → MembersListed p n xs count
  gathering_done {xs} {count} {x} g l = record {
    few = omega (arith, g.few, g.within);
    inside = λ j k. let t = g.inside j k in (omega (arith, t.0, g.within), t.1);
    rising = g.rising;
    all = λ y k h. g.all y (omega arith) h;
  }

-- the places that are used, by themselves
pub listed-alone : {p : ℕ → Bool} {n : ℕ} (xs : List ℕ) {count : ℕ} → count ≤ length xs → MembersListed p n xs count → MembersListed p n (take count xs) (length (take count xs))
listed-alone {p} {n} xs {count} room s = subst (MembersListed p n (take count xs)) (sym (length-take-le count xs room)) (record {
  few = s.few;
  inside = λ j l. let t = s.inside j l in (omega (arith, t.0, get_or-take count xs j 0 l), ap p (get_or-take count xs j 0 l) ∙ t.1);
  rising = λ i j a l. omega (arith, s.rising i j a l, get_or-take count xs i 0 (omega arith), get_or-take count xs j 0 l);
  all = λ x l h. let t = s.all x l h in (t.0, t.1, get_or-take count xs t.0 0 t.1 ∙ t.2);
})

-- a set taken twice
pub listed-once : {p : ℕ → Bool} {n : ℕ} {xs : List ℕ} {count : ℕ} → MembersListed (λ m. p m && p m) n xs count → MembersListed p n xs count
listed-once {p} {n} {xs} s = record {
  few = s.few;
  inside = λ j l. let t = s.inside j l in (t.0, and_left (p (get_or xs j 0)) (p (get_or xs j 0)) t.1);
  rising = s.rising;
  all = λ x l h. s.all x l (and_both (p x) (p x) h h);
}

-- ---- members before one of the list
module _ {p : ℕ → Bool} {n : ℕ} {xs : List ℕ} {count : ℕ} (s : MembersListed p n xs count) where
  -- the lower of two stands first
  place_lt : (i j : ℕ) → i < count → j < count → get_or xs i 0 < get_or xs j 0 → i < j
  place_lt i j a b l = bool_cases (λ t. ltb i j ≡ t → i < j) (ltb i j) (λ _ q. ltb-true i j q)
      (λ _ q. let h : j ≤ i = ltb-false i j q in bool_cases (λ t. eqb j i ≡ t → i < j) (eqb j i)
      (λ _ e. absurd (let z : get_or xs j 0 ≡ get_or xs i 0 = ap (λ (k : ℕ). get_or xs k 0) (eqb-true j i e) in omega arith))
      (λ _ e. let ne : j ≡ i → ⊥ = eqb-false j i e in absurd (let z : get_or xs j 0 < get_or xs i 0 = s.rising j i (omega arith) a in omega arith)) refl)
      refl

  before : (j : ℕ) → j < count → (y : ℕ) → y < get_or xs j 0 → p y ≡ true → (i : ℕ) × (i < j) × (get_or xs i 0 ≡ y)
  before j l y m h =
      let t = s.all y (omega (arith, (s.inside j l).0)) h in
      (t.0, place_lt t.0 j t.1 l (subst (λ (k : ℕ). k < get_or xs j 0) (sym t.2) m), t.2)

never : (a b c : Bool) → (a ≡ true → b ≡ true → c ≡ true → ⊥) → (a && (b && c)) ≡ false
never true true true g = absurd (g refl refl refl)
never true true false g = refl
never true false c g = refl
never false b c g = refl

-- ---- a pair of a member of a and one of b in f: the members of a one after the other, those of b in a list
-- x is in f with no member of b
abbrev pub quiet : (ℕ → Bool) → (ℕ → ℕ → Bool) → ℕ → ℕ → Bool
quiet b f n x = every (λ y. b y ⇒ not (f x y)) n

-- the first k of the list are not in f with x
abbrev pub passed_by : (ℕ → ℕ → Bool) → ℕ → List ℕ → ℕ → Bool
passed_by f x ys k = every (λ j. not (f x (get_or ys j 0))) k

module _ (a b : ℕ → Bool) (f : ℕ → ℕ → Bool) (n : ℕ) where
  all_quiet : (k : ℕ) → every (λ x. a x ⇒ quiet b f n x) k ≡ true → (u v : ℕ) → u < k → v < n → among a b f u v ≡ false
  all_quiet k e u v lu lv = never (a u) (b v) (f u v) (λ ha hb hf. never_both hf (not-true (f u v) (implies_true (b v) (not (f u v)) (every-at (λ y. b y ⇒ not (f u y)) n (implies_true (a u) (quiet b f n u) (every-at (λ x. a x ⇒ quiet b f n x) k e u lu) ha) v lv) hb)))

  pub pair_miss : every (λ x. a x ⇒ quiet b f n x) n ≡ true → first_pair (among a b f) n ≡ Option.none
  pair_miss e = pair-none (among a b f) n (all_quiet n e)

  module _ {ys : List ℕ} {count : ℕ} (s : MembersListed b n ys count) where
    pub row_quiet : (x : ℕ) → passed_by f x ys count ≡ true → quiet b f n x ≡ true
    row_quiet x e = every-all (λ y. b y ⇒ not (f x y)) n (λ y l. true_implies (b y) (not (f x y)) (λ h. let t = s.all y l h in subst (λ (y : ℕ). not (f x y) ≡ true) t.2 (every-at (λ j. not (f x (get_or ys j 0))) count e t.0 t.1)))

    pub pair-hit : {x k : ℕ} → Passed a (quiet b f n) n x → x < n → k < count → passed_by f x ys k ≡ true → f x (get_or ys k 0) ≡ true → first_pair (among a b f) n ≡ Option.some (x, get_or ys k 0)
    pair-hit {x} {k} w l m e h = pair-at (among a b f) n x (get_or ys k 0) (record {
      first-low = l;
      second-low = (s.inside k m).0;
      hit = ap₂ (λ (u v : Bool). u && (v && f x (get_or ys k 0))) (w.hit l) (s.inside k m).1 ∙ h;
      rows = all_quiet x w.all;
      row = λ v lv. never (a x) (b v) (f x v) (λ _ hb hf. let t = before s k m v lv hb in never_both (subst (λ (y : ℕ). f x y ≡ true) (sym t.2) hf) (not-true (f x (get_or ys t.0 0)) (every-at (λ j. not (f x (get_or ys j 0))) k e t.0 t.1)));
    })

-- ---- a pair of two members of w in s, the lower first: both in one list
-- a pair in s, the lower first
abbrev pub ordered : (ℕ → ℕ → Bool) → ℕ → ℕ → Bool
ordered s x y = ltb x y && s x y

-- of the first k of the list, those after place i are not in s with the one at place i
abbrev pub clear_of : (ℕ → ℕ → Bool) → List ℕ → ℕ → ℕ → Bool
clear_of s ys i k = every (λ j. ltb i j ⇒ not (s (get_or ys i 0) (get_or ys j 0))) k

-- nothing stands after place i before place i + 1; one place more; past the end
module _ (s : ℕ → ℕ → Bool) (ys : List ℕ) (i : ℕ) where
  pub clear_begins : clear_of s ys i (i + 1) ≡ true
  clear_begins = every-all (λ j. ltb i j ⇒ not (s (get_or ys i 0) (get_or ys j 0))) (i + 1) (λ j l. ap (λ (b : Bool). b ⇒ not (s (get_or ys i 0) (get_or ys j 0))) (le-ltb i j (omega arith)))

  pub clear_more : (k : ℕ) → clear_of s ys i k ≡ true → s (get_or ys i 0) (get_or ys k 0) ≡ false → clear_of s ys i (k + 1) ≡ true
  clear_more k e h = every_more (λ j. ltb i j ⇒ not (s (get_or ys i 0) (get_or ys j 0))) k e (ap (λ (b : Bool). not (ltb i k) || not b) h ∙ or-true (not (ltb i k)))

  pub clear_rest : (k m : ℕ) → m ≤ k → clear_of s ys i k ≡ true → clear_of s ys i m ≡ true
  clear_rest k m l e = every-all (λ j. ltb i j ⇒ not (s (get_or ys i 0) (get_or ys j 0))) m (λ j h. every-at (λ j. ltb i j ⇒ not (s (get_or ys i 0) (get_or ys j 0))) k e j (omega arith))

module _ (w : ℕ → Bool) (s : ℕ → ℕ → Bool) (n : ℕ) {ys : List ℕ} {count : ℕ} (t : MembersListed w n ys count) where
  -- two places with the lower first, of which the pairs are known
  apart : (i j k : ℕ) → i < j → j < k → clear_of s ys i k ≡ true → s (get_or ys i 0) (get_or ys j 0) ≡ true → ⊥
  apart i j k a b e h = never_both h (not-true (s (get_or ys i 0) (get_or ys j 0)) (implies_true (ltb i j) (not (s (get_or ys i 0) (get_or ys j 0))) (every-at (λ j. ltb i j ⇒ not (s (get_or ys i 0) (get_or ys j 0))) k e j b) (lt-ltb i j a)))

  -- the pairs of the members in the first m places
  all_clear : (m : ℕ) → m ≤ count → every (λ i. clear_of s ys i count) m ≡ true → (u v i : ℕ) → i < m → get_or ys i 0 ≡ u → v < n → among w w (ordered s) u v ≡ false
  all_clear m few e u v i li eu lv = never (w u) (w v) (ordered s u v) (λ _ hv ho.
      let q = t.all v lv hv in
      let up : u < v = ltb-true u v (and_left (ltb u v) (s u v) ho) in
      let il : i < q.0 = place_lt t i q.0 (omega arith) q.1 (let a : get_or ys q.0 0 ≡ v = q.2 in omega arith) in
      apart i q.0 count il q.1 (every-at (λ i. clear_of s ys i count) m e i li) (ap₂ s eu q.2 ∙ and_right (ltb u v) (s u v) ho))

  pub clash_miss : every (λ i. clear_of s ys i count) count ≡ true → first_pair (among w w (ordered s)) n ≡ Option.none
  clash_miss e = pair-none (among w w (ordered s)) n (λ u v lu lv. bool_cases (λ b. w u ≡ b → (b && (w v && ordered s u v)) ≡ false) (w u)
      (λ _ h. let q = t.all u lu h in ap (λ (b : Bool). b && (w v && ordered s u v)) (sym h) ∙ all_clear count (omega arith) e u v q.0 q.1 q.2 lv)
      (λ _ h. refl) refl)

  pub clash-hit : {i k : ℕ} → i < k → k < count → every (λ i. clear_of s ys i count) i ≡ true → clear_of s ys i k ≡ true → s (get_or ys i 0) (get_or ys k 0) ≡ true → first_pair (among w w (ordered s)) n ≡ Option.some (get_or ys i 0, get_or ys k 0)
  clash-hit {i} {k} l m e c h =
      let li : i < count = omega arith in
      let up : get_or ys i 0 < get_or ys k 0 = t.rising i k l m in
      pair-at (among w w (ordered s)) n (get_or ys i 0) (get_or ys k 0) (record {
        first-low = (t.inside i li).0;
        second-low = (t.inside k m).0;
        hit = (λ j. (t.inside i li).1 j && ((t.inside k m).1 j && (lt-ltb (get_or ys i 0) (get_or ys k 0) up j && h j)));
        rows = λ u v lu lv. bool_cases (λ b. w u ≡ b → (b && (w v && ordered s u v)) ≡ false) (w u)
            (λ _ hu. let q = before t i li u lu hu in ap (λ (b : Bool). b && (w v && ordered s u v)) (sym hu) ∙ all_clear i (omega arith) e u v q.0 q.1 q.2 lv)
            (λ _ hu. refl) refl;
        row = λ v lv. never (w (get_or ys i 0)) (w v) (ordered s (get_or ys i 0) v) (λ _ hv ho.
            let q = before t k m v lv hv in
            let high : get_or ys i 0 < v = ltb-true (get_or ys i 0) v (and_left (ltb (get_or ys i 0) v) (s (get_or ys i 0) v) ho) in
            let same : get_or ys q.0 0 ≡ v = q.2 in
            let il : i < q.0 = place_lt t i q.0 li (let a : q.0 < k = q.1 in omega arith) (omega arith) in
            apart i q.0 k il q.1 c (ap (s (get_or ys i 0)) same ∙ and_right (ltb (get_or ys i 0) v) (s (get_or ys i 0) v) ho));
      })

-- where s goes both ways, the first pair of two different members has the lower one first
module _ (w : ℕ → Bool) (s : ℕ → ℕ → Bool) (turn : (x y : ℕ) → s x y ≡ s y x) (n : ℕ) where
  abbrev unlike : ℕ → ℕ → Bool
  unlike x y = not (eqb x y) && s x y

  -- a pair of different members is an ordered one, one way or the other
  either_way : (x y : ℕ) → x < n → y < n → among w w unlike x y ≡ true → (among w w (ordered s) x y ≡ true) ⊎ ((y < x) × (among w w (ordered s) y x ≡ true))
  either_way x y l k h =
      let wx : w x ≡ true = and_left (w x) (w y && unlike x y) h in
      let rest : (w y && unlike x y) ≡ true = and_right (w x) (w y && unlike x y) h in
      let wy : w y ≡ true = and_left (w y) (unlike x y) rest in
      let un : unlike x y ≡ true = and_right (w y) (unlike x y) rest in
      let ne : x ≡ y → ⊥ = eqb-false x y (not-true (eqb x y) (and_left (not (eqb x y)) (s x y) un)) in
      let sxy : s x y ≡ true = and_right (not (eqb x y)) (s x y) un in
      bool_cases (λ b. ltb x y ≡ b → (among w w (ordered s) x y ≡ true) ⊎ ((y < x) × (among w w (ordered s) y x ≡ true))) (ltb x y)
      (λ _ q. inl (λ j. wx j && (wy j && (q j && sxy j))))
      (λ _ q. let back : y ≤ x = ltb-false x y q in let low : y < x = omega arith in inr (low, λ j. wy j && (wx j && (lt-ltb y x low j && (turn y x ∙ sxy) j))))
      refl

  not_unlike : (x y : ℕ) → x < n → y < n → among w w (ordered s) x y ≡ false → (y < x → among w w (ordered s) y x ≡ false) → among w w unlike x y ≡ false
  not_unlike x y l k h g = bool_cases (λ b. among w w unlike x y ≡ b → among w w unlike x y ≡ false) (among w w unlike x y)
      (λ _ e. ⊎_elim (λ t. absurd (never_both t h)) (λ t. absurd (never_both t.1 (g t.0))) (either_way x y l k e)) (λ _ e. e) refl

  pub ordered-first : first_pair (among w w (ordered s)) n ≡ first_pair (among w w unlike) n
  ordered-first = ⊎_elim
      (λ h. pair-none (among w w (ordered s)) n h ∙ sym (pair-none (among w w unlike) n (λ x y l k. not_unlike x y l k (h x y l k) (λ _. h y x k l))))
      (λ t. let f : FirstPair (among w w (ordered s)) n t.0 t.1 = t.2 in
      let x : ℕ = t.0 in
      let y : ℕ = t.1 in
      let both : (w y && ordered s x y) ≡ true = and_right (w x) (w y && ordered s x y) f.hit in
      let up : ordered s x y ≡ true = and_right (w y) (ordered s x y) both in
      let lt : x < y = ltb-true x y (and_left (ltb x y) (s x y) up) in
      pair-at (among w w (ordered s)) n x y f ∙ sym (pair-at (among w w unlike) n x y (record {
        first-low = f.first-low;
        second-low = f.second-low;
        hit = (λ j. and_left (w x) (w y && ordered s x y) f.hit j && (and_left (w y) (ordered s x y) both j && (ap not (ne_eqb x y (λ q. let z : ⊥ = omega arith in z)) j && and_right (ltb x y) (s x y) up j)));
        rows = λ u v l k. not_unlike u v (omega (arith, f.first-low)) k (f.rows u v l k) (λ m. f.rows v u (omega arith) (omega (arith, f.first-low)));
        row = λ v l. not_unlike x v f.first-low (omega (arith, f.second-low)) (f.row v l) (λ m. f.rows v x m f.first-low);
      })))
      (search_pair (among w w (ordered s)) n)
