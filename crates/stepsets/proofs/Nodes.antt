-- The nodes that have a property, gathered node by node, and put together from other sets.
use Prim.Native.Nat.{ℕ, ◌-◌, ◌≤◌, ◌<◌}
use mathlib.Core.Bool.{Bool, true, false, ◌&&◌, and-true, and-false}
use mathlib.Core.List.{List}
use mathlib.Core.Path.{◌≡◌, refl, sym, ◌∙◌}
use native.Mathlib.Omega.{arith}
use lib.Dec.{ltb}
use lib.ListN.{length, take, drop, length-drop, drop_of_length-le}
use lib.Seq.{take_all}
use borrow.Author.Tests.{ltb-true}
use Rattle.base.proofs.Bools.{bool_cases}
pub use Rattle.conditions.proofs.Members.{nodes-none, nodes-more, nodes_done, nodes-length}
use Rattle.nodeset.specs.Words.{words_of, intersection, nodes_of}
use Rattle.nodeset.proofs.Sets.{words_of_ext, intersection_of}

pub nodes_ext : (p q : ℕ → Bool) (n : ℕ) → ((v : ℕ) → v < n → p v ≡ q v) → nodes_of p n ≡ nodes_of q n
unfolding nodes_of
nodes_ext p q n h = words_of_ext (λ v. ltb v n && p v) (λ v. ltb v n && q v) 16 (λ v l. bool_cases (λ b. ltb v n ≡ b → (b && p v) ≡ (b && q v)) (ltb v n) (λ _ e. h v (ltb-true v n e)) (λ _ e. refl) refl)

-- ---- all nodes and none
pub nodes-all : (n : ℕ) → words_of (λ m. ltb m n) 16 ≡ nodes_of (λ v. true) n
unfolding nodes_of
nodes-all n = words_of_ext (λ m. ltb m n) (λ v. ltb v n && true) 16 (λ m l. sym (and-true (ltb m n)))

pub nodes_never : (n : ℕ) → words_of (λ m. false) 16 ≡ nodes_of (λ v. false) n
unfolding nodes_of
nodes_never n = words_of_ext (λ m. false) (λ v. ltb v n && false) 16 (λ m l. sym (and-false (ltb m n)))

-- ---- of all nodes, those in a set
module _ {w s : List ℕ} (p : ℕ → Bool) (n : ℕ) (ew : w ≡ words_of (λ m. ltb m n) 16) where
  pub whole_and : s ≡ words_of p 16 → intersection w s ≡ nodes_of p n
  unfolding nodes_of
  whole_and es = intersection_of (λ m. ltb m n) p 16 ew es

-- ---- the part from a place on, as the code cuts it; there is none past the end
pub part-from : (ws : List ℕ) (at : ℕ) → take (length ws - at) (drop at ws) ≡ drop at ws
part-from ws at = take_all (length ws - at) (drop at ws) (omega (arith, length-drop at ws))

pub part-past : (ws : List ℕ) (at : ℕ) → length ws ≤ at → take (length ws - length ws) (drop (length ws) ws) ≡ drop at ws
part-past ws at l = part-from ws (length ws) ∙ drop_of_length-le ws {i = length ws} (omega arith) ∙ sym (drop_of_length-le ws {i = at} l)
