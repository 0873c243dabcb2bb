-- A range of numbers that an iterator has tested, and `every`.
use Prim.Native.Nat.{ℕ, zero-le, ◌+◌, ◌-◌, ◌<◌}
use mathlib.Core.Bool.{Bool, true, false}
use mathlib.Core.Path.{◌≡◌, refl, sym, ap, ◌∙◌}
use native.Mathlib.Nat.{zero-add}
use native.Mathlib.Omega.{arith}
use lib.ListN.{length}
use denote.Param.Members.{Mut}
use Rattle.std.specs.Bool.{MatchBool}
use Rattle.std.specs.Fn.{Called}
use Rattle.std.specs.Iterator.{ChecksAll}
use Rattle.std.specs.List.{range_with_len, AllWithin, HoldsAt}
use Rattle.std.proofs.iter.Yields.{nat_range_steps}
use Rattle.std.proofs.lemmas.Iterator.{cases_from_all, YieldsList-from_range}
use Rattle.std.proofs.lemmas.List.FromFn.{length-range_with_len, get_or-range_with_len}
use Rattle.base.specs.Bounded.{every}
use Rattle.base.proofs.Bounded.{every-all, every-fails, every_ext}

-- what is said of the items of a range is said of its numbers
tested : (p : ℕ → Bool) (a n : ℕ) (r : Bool)
    → MatchBool r (AllWithin (λ x. p x ≡ true) (range_with_len a n) 0 (length (range_with_len a n))) ((k : ℕ) × (k < length (range_with_len a n)) × HoldsAt (λ x. p x ≡ false) (range_with_len a n) k)
    → r ≡ every (λ k. p (a + k)) n
tested p a n true h = sym (every-all (λ k. p (a + k)) n (λ i l. ap p (sym (get_or-range_with_len a n i 0 l)) ∙ h i 0 zero-le (omega (arith, length-range_with_len a n))))
tested p a n false h =
    let l : h.0 < n = omega (arith, h.1, length-range_with_len a n) in
    sym (every-fails (λ k. p (a + k)) n h.0 l (ap p (sym (get_or-range_with_len a n h.0 0 l)) ∙ h.2 0))

-- `all` over i..m, by a closure that answers p
pub all_from : {F : Type 0} {g : Mut F (ℕ × Unit {0}) Bool} (p : ℕ → Bool) (i n : ℕ) {m : ℕ} {u : _} {f : F} {r : Bool}
    → m - i ≡ n → ChecksAll nat_range_steps g (record { start = i; end = m }) f r u
    → ((x : ℕ) (b : Bool) (q : F) → Called g f (x, tt) b q → (q ≡ f) × (b ≡ p x)) → r ≡ every (λ k. p (i + k)) n
all_from p i n {m} {u} {f} {r} e d k = tested p i n r (cases_from_all u f r (λ x. p x ≡ true) (λ x. p x ≡ false) d (YieldsList-from_range i m n refl e) (λ x q c. let h = k x true q c in (h.0, sym h.1)) (λ x q c. sym (k x false q c).1))

-- the same from 0 on
pub all_below : {F : Type 0} {g : Mut F (ℕ × Unit {0}) Bool} (p : ℕ → Bool) (n : ℕ) {m : ℕ} {u : _} {f : F} {r : Bool}
    → m ≡ n → ChecksAll nat_range_steps g (record { start = 0; end = m }) f r u
    → ((x : ℕ) (b : Bool) (q : F) → Called g f (x, tt) b q → (q ≡ f) × (b ≡ p x)) → r ≡ every p n
all_below p n e d k = all_from p 0 n (omega arith) d k ∙ every_ext _ p n (λ i _. ap p (zero-add i))
