-- Chains made fact by fact, in an index that holds others too.
use Prim.Native.Nat.{ℕ, ◌+◌, ◌≤◌, ◌<◌}
use mathlib.Core.List.{List}
use mathlib.Core.Path.{◌≡◌, refl, ◌∙◌}
use native.Mathlib.Omega.{arith}
use lib.ListN.{length, get_or, set}
use lib.Seq.{get_or-set_other}
use Rattle.chains.specs.Chains.{Chained, linked}
use Rattle.chains.proofs.Chains.{chained-none, chained_more, chained_same}
use Rattle.paths.specs.Facts.{Made}

module _ (keys : List ℕ) (slots heads : ℕ) where
  pub made_none : {index : List ℕ} → ((h : ℕ) → h < slots → get_or index (heads + h) 0 ≡ 0) → Made keys 0 slots heads (heads + slots) index index
  made_none z = record { chained = chained-none (λ i. get_or keys i 0) slots heads (heads + slots) z; below = λ k l. refl; above = λ k l. refl }

  module _ {before index : List ℕ} (i : ℕ) (low : get_or keys i 0 < slots) (room : heads + slots + i < length index) (m : Made keys i slots heads (heads + slots) before index) where
    abbrev new : List ℕ
    new = linked index heads (heads + slots) (get_or keys i 0) i

    kept : (k : ℕ) → (k ≡ heads + slots + i → ⊥) → (k ≡ heads + get_or keys i 0 → ⊥) → get_or new k 0 ≡ get_or index k 0
    kept k a b =
        get_or-set_other (set index (heads + slots + i) (get_or index (heads + get_or keys i 0) 0)) (heads + get_or keys i 0) k (i + 1) 0 b
        ∙ get_or-set_other index (heads + slots + i) k (get_or index (heads + get_or keys i 0) 0) 0 a

    pub made_more : Made keys (i + 1) slots heads (heads + slots) before new
    made_more = record {
      chained = chained_more (λ i. get_or keys i 0) i slots heads (heads + slots) (omega arith) low room m.chained;
      below = λ k l. kept k (λ q. let z : ⊥ = omega arith in z) (λ q. let z : ⊥ = omega arith in z) ∙ m.below k l;
      above = λ k l. kept k (λ q. let z : ⊥ = omega arith in z) (λ q. let z : ⊥ = omega arith in z) ∙ m.above k (omega arith);
    }

-- chains in places that other chains left as they were
pub chains-kept : {key : ℕ → ℕ} {n slots nexts heads : ℕ} {before after : List ℕ} {keys : List ℕ} {count more more-nexts : ℕ} → slots + n ≤ heads → nexts ≡ slots → Made keys count more heads more-nexts before after → Chained key n slots 0 nexts before → Chained key n slots 0 nexts after
chains-kept {n = n} {slots = slots} {nexts = nexts} {heads = heads} l e m c = chained_same (λ i k. refl) (λ h k. m.below (0 + h) (omega arith)) (λ i k. m.below (nexts + i) (omega arith)) c
