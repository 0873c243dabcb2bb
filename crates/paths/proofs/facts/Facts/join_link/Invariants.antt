use Prim.Native.Nat.{ℕ, suc, ◌≤◌, ◌<◌, ◌^◌}
use mathlib.Core.Path.{◌≡◌}
use lib.ListN.{length, get_or}
use Rattle.chains.specs.Chains.{last_with}
use Rattle.paths.specs.Facts.{edges}
use Rattle.paths.specs.Images.{with_images, set_count, start_of}
use Rattle.paths.proofs.facts.Facts.join_link.Given as goal

abbrev pub invariant-loop-next : goal.invariant-loop-next
invariant-loop-next l = (l.next ≤ l.self.len) × (length l.into ≡ length l.initial.into) × ((i : ℕ) → get_or l.into i 0 < 2 ^ 64)
    × ((k₁ : ℕ) → l.initial.next ≡ last_with (λ i. get_or l.self.p.now i 0) k₁ l.self.len → ((i : ℕ) → l.next ≡ suc i → get_or l.self.p.now i 0 ≡ k₁) × (with_images (set_count l.sets) l.self.n (edges l.self.s.now l.self.p.now l.self.o.now k₁ l.back l.next) (start_of l.sets l.from) l.into ≡ with_images (set_count l.sets) l.self.n (edges l.self.s.now l.self.p.now l.self.o.now k₁ l.back l.self.len) (start_of l.sets l.from) l.initial.into))

abbrev pub decreases-loop-next : goal.decreases-loop-next
decreases-loop-next l = l.next
