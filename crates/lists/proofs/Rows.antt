-- Laws of lists: the members of a set, one after the other, over what was there.
use Prim.Native.Nat.{ℕ, zero, suc, ◌+◌, ◌-◌, ◌*◌, ◌<◌, ◌≤◌}
use mathlib.Core.List.{List, [], ◌∷◌, ◌++◌, append-nil}
use mathlib.Core.Path.{◌≡◌, refl, sym, ap, ap₂, subst, ◌∙◌}
use mathlib.Core.Bool.{Bool, true, false}
use native.Mathlib.Nat.{add-zero, le_of_eq}
use native.Mathlib.Numerals.{add-one}
use native.Mathlib.Omega.{arith}
use lib.ListN.{length, take, drop, set, get_or, length-append, length-take, length-drop, length-set, drop_of_length-le}
use borrow.Rule.Slice.PartMut.{put_mid}
use lib.Seq.{take_all, drop-cons, append_snoc, set_at}
use Rattle.base.specs.Bounded.{members}
use Rattle.base.proofs.Bounded.{size-members, size_le}
use Rattle.base.specs.Least.{next_from}
use Rattle.base.proofs.Least.{Next, next-found}
use Rattle.nodeset.specs.Words.{has}
use Rattle.model.specs.Limits.{max_nodes, max_rules}
use Rattle.tables.specs.Layout.{node_count, rule_count}
use Rattle.tables.specs.WellFormed.{well_formed}
use Rattle.tables.proofs.WellFormed as tables
use Rattle.plan.specs.Layout.{rule_step_at}
use Rattle.plan.specs.WellFormed.{plan_well_formed}
use Rattle.plancheck.proofs.WellFormed as plans
use Rattle.lists.specs.Rows.{over, list_in, with_row, with_rows, with_lengths}
use Rattle.runner.specs.Run.{work_count}

-- ---- a list over what was there
pub over_none : (old : List ℕ) → old ≡ over [] old
unfolding over
over_none old = refl

pub over-more : (xs old : List ℕ) (x : ℕ) → length xs < length old → set (over xs old) (length xs) x ≡ over (xs ++ (x ∷ [])) old
unfolding over
over-more xs old x low =
    ap (λ d. set (xs ++ d) (length xs) x) (drop-cons old (length xs) 0 low)
    ∙ (set_at xs (get_or old (length xs) 0) (drop (suc (length xs)) old) x (length xs) refl
    ∙ (sym (append_snoc xs x (drop (suc (length xs)) old)) ∙ ap (λ k. (xs ++ (x ∷ [])) ++ drop k old) (sym more)))
  where
    more : length (xs ++ (x ∷ [])) ≡ suc (length xs)
    more = length-append xs (x ∷ []) ∙ omega arith

-- ---- the members of a set
module _ (p : ℕ → Bool) where
  pub members_skip : (i k : ℕ) → ((j : ℕ) → i ≤ j → j < i + k → p j ≡ false) → members p (i + k) ≡ members p i
  unfolding members
  members_skip i zero none = ap (members p) (add-zero i)
  members_skip i (suc k) none = ap (members p) next ∙ (last ∙ members_skip i k (λ j low high. none j low (omega arith)))
    where
      next : i + suc k ≡ suc (i + k)
      next = omega arith

      last : members p (suc (i + k)) ≡ members p (i + k)
      last = rw (none (i + k) (omega arith) (omega arith)) (append-nil (members p (i + k)))

  pub few : (n : ℕ) → length (members p n) ≤ n
  few n = subst (λ k. k ≤ n) (size-members p n) (size_le p n)

  -- from i on no number below r is a member
  pub members_gap : (i r : ℕ) → i ≤ r → ((j : ℕ) → i ≤ j → j < r → p j ≡ false) → members p r ≡ members p i
  members_gap i r le none = ap (members p) (sym whole) ∙ members_skip i (r - i) (λ j low high. none j low (omega (arith, high, whole)))
    where
      whole : i + (r - i) ≡ r
      whole = omega (arith, le)

  -- the members below at are listed, where at is the next one, or the end
  pub record Listing (n : ℕ) (row₀ : List ℕ) (at count : ℕ) (row : List ℕ) : Type 0 where
    pub low : at ≤ n
    pub hit : at < n → p at ≡ true
    pub fewer : count ≤ at
    pub counted : count ≡ length (members p at)
    pub listed : row ≡ over (members p at) row₀
    pub same : length row ≡ length row₀

  module _ (n : ℕ) (row₀ : List ℕ) where
    pub listing_start : (at : ℕ) → at ≡ next_from p 0 n → Listing n row₀ at 0 row₀
    unfolding members
    listing_start at e =
        let x : Next p 0 n at = subst (Next p 0 n) (sym e) (next-found p n 0 (omega arith)) in
        let none : members p at ≡ [] = members_gap 0 at (omega arith) x.none in
        record { low = x.within; hit = x.hit; fewer = omega arith; counted = ap length (sym none); listed = over_none row₀ ∙ ap (λ l. over l row₀) (sym none); same = refl }

    pub listing_more : (at count : ℕ) (row : List ℕ) → Listing n row₀ at count row → at < n → n ≤ length row₀ → (next : ℕ) → next ≡ next_from p (at + 1) n → Listing n row₀ next (count + 1) (set row count at)
    unfolding members
    listing_more at count row l lt room next e =
        let x : Next p (at + 1) n next = subst (Next p (at + 1) n) (sym e) (next-found p n (at + 1) (omega (arith, lt))) in
        let one : members p (at + 1) ≡ members p at ++ (at ∷ []) = ap (members p) (add-one at) ∙ rw (l.hit lt) refl in
        let all : members p next ≡ members p at ++ (at ∷ []) = members_gap (at + 1) next x.onward x.none ∙ one in
        record {
          low = x.within;
          hit = x.hit;
          fewer = omega (arith, l.fewer, x.onward);
          counted = ap (λ k. k + 1) l.counted ∙ sym (ap length all ∙ length-append (members p at) (at ∷ []));
          listed =
              ap (λ k. set row k at) l.counted
              ∙ (ap (λ r. set r (length (members p at)) at) l.listed
              ∙ (over-more (members p at) row₀ at (omega (arith, few at, lt, room)) ∙ ap (λ m. over m row₀) (sym all)));
          same = length-set row count at ∙ l.same;
        }

    pub listing_end : (at count : ℕ) (row : List ℕ) → Listing n row₀ at count row → n ≤ at → (count ≡ length (members p n)) × (row ≡ over (members p n) row₀)
    listing_end at count row l le = let e : at ≡ n = omega (arith, l.low, le) in (l.counted ∙ ap (λ k. length (members p k)) e, l.listed ∙ ap (λ k. over (members p k) row₀) e)

-- the members of a part of the work space, as the list of the rule whose step it begins with
pub rule_listed : (cs ps ws : List ℕ) (r step n : ℕ) → step ≡ rule_step_at ps r → n ≡ node_count cs → members (has (take (length ws - 16 * step) (drop (16 * step) ws))) n ≡ list_in cs ps ws r
unfolding list_in
rule_listed cs ps ws r step n e f = ap (λ w. members (has w) n) (take_all (length ws - 16 * step) (drop (16 * step) ws) (omega (arith, length-drop (16 * step) ws))) ∙ rw (e, f) refl

-- ---- the rows of all lists
-- the part that is lent from a row's first place on comes back with a list in front
pub row-tail : (ls xs : List ℕ) {ys : List ℕ} (r n : ℕ) → n ≡ length ls - max_nodes * r → ys ≡ over xs (take n (drop (max_nodes * r) ls)) → put_mid (max_nodes * r) n ls ys ≡ with_row r xs ls
unfolding with_row
row-tail ls xs r n e q =
    let t : List ℕ = drop (max_nodes * r) ls in
    let len : length t ≡ n = length-drop (max_nodes * r) ls ∙ sym e in
    ap₂ (λ (x y : List ℕ). take (max_nodes * r) ls ++ (x ++ y)) (q ∙ ap (over xs) (take_all n t (le_of_eq len))) (drop_of_length-le t (le_of_eq len))
    ∙ ap (λ (x : List ℕ). take (max_nodes * r) ls ++ x) (append-nil (over xs t))

pub length-row : (r : ℕ) (xs ls : List ℕ) → max_nodes * r + length xs ≤ length ls → length (with_row r xs ls) ≡ length ls
unfolding with_row over
length-row r xs ls room =
    let t : List ℕ = drop (max_nodes * r) ls in
    omega (arith, room, length-append (take (max_nodes * r) ls) (xs ++ drop (length xs) t), length-append xs (drop (length xs) t), length-take (max_nodes * r) ls, length-drop (length xs) t, length-drop (max_nodes * r) ls)

module _ (list : ℕ → List ℕ) (lists₀ lengths₀ : List ℕ) where
  -- the lists of the rules below r stand in their rows
  pub record Listed (r : ℕ) (lists lengths : List ℕ) : Type 0 where
    pub rows : lists ≡ with_rows list r lists₀
    pub sizes : lengths ≡ with_lengths list r lengths₀
    pub lists-kept : length lists ≡ length lists₀
    pub lengths-kept : length lengths ≡ length lengths₀

  pub listed-none : Listed 0 lists₀ lengths₀
  unfolding with_rows with_lengths
  listed-none = record { rows = refl; sizes = refl; lists-kept = refl; lengths-kept = refl }

  pub listed_more : (r : ℕ) (lists lengths : List ℕ) → Listed r lists lengths → (next : List ℕ) (n : ℕ) → next ≡ with_row r (list r) lists → max_nodes * r + length (list r) ≤ length lists → n ≡ length (list r) → Listed (r + 1) next (set lengths r n)
  unfolding with_rows with_lengths
  listed_more r lists lengths l next n e k f =
      record {
        rows = e ∙ (ap (with_row r (list r)) l.rows ∙ ap (λ m. with_rows list m lists₀) (sym (add-one r)));
        sizes = ap (set lengths r) f ∙ (ap (λ x. set x r (length (list r))) l.sizes ∙ ap (λ m. with_lengths list m lengths₀) (sym (add-one r)));
        lists-kept = ap length e ∙ (length-row r (list r) lists k ∙ l.lists-kept);
        lengths-kept = length-set lengths r n ∙ l.lengths-kept;
      }

-- ---- what well_formed_lem tables and a well_formed_lem plan give
module _ (cs ps : List ℕ) (e : well_formed cs ≡ true) (f : plan_well_formed cs ps ≡ true) where
  pub few-nodes : node_count cs ≤ max_nodes
  few-nodes = (tables.sound cs e).nodes

  pub few-rules : rule_count cs ≤ max_rules
  few-rules = (tables.sound cs e).rules

  pub step_in : (r : ℕ) → r < rule_count cs → 16 * rule_step_at ps r ≤ work_count
  step_in r low = let p = plans.sound cs ps f in omega (arith, p.rule r low, p.steps)
