-- The places of the pools in the index: one pool after the other, none in common.
use Prim.Native.Nat.{ℕ, suc, ◌+◌, ◌/◌, ◌<◌, ◌≤◌}
use mathlib.Core.Path.{◌≡◌, refl}
use mathlib.Core.List.{List, [], ◌∷◌}
use mathlib.Core.Logic.{◌⊎◌, inl, inr}
use native.Mathlib.Omega.{arith}
use borrow.Author.Tests.{leb-true, ltb-true, ltb-false}
use lib.Dec.{leb, ltb}
use lib.ListN.{get_or}
use Rattle.base.specs.Bounded.{every}
use Rattle.base.proofs.Bools.{bool_cases}
use Rattle.base.proofs.Bounded.{every-at}
use Rattle.model.specs.Books.{Pool, nodes, links, types, langs, shapes, pool_number}
use Rattle.model.specs.Valid.{capacity}
use Rattle.model.specs.Limits.{max_nodes, max_links, max_types, max_langs, name_bytes}
use Rattle.encoding.specs.Encode.{pool_base}
use Rattle.model.specs.declared.Counts.{Counts}
use Rattle.itemreader.specs.Held.{count_of, Limits, name_places}
use Rattle.model.specs.declared.Counts.{Counts}

-- where each pool begins, and where the last ends
abbrev starts : List ℕ
starts = 0 ∷ max_nodes ∷ (max_nodes + max_links) ∷ (max_nodes + max_links + max_types) ∷ (max_nodes + max_links + max_types + max_langs) ∷ name_places ∷ []

pool_starts : (p : Pool) → (pool_number p < 5) × (pool_base p / name_bytes ≡ get_or starts (pool_number p) 0) × (pool_base p / name_bytes + capacity p ≡ get_or starts (suc (pool_number p)) 0) × (0 < capacity p)
unfolding pool_base capacity
pool_starts nodes = (omega arith, refl, refl, omega arith)
pool_starts links = (omega arith, refl, refl, omega arith)
pool_starts types = (omega arith, refl, refl, omega arith)
pool_starts langs = (omega arith, refl, refl, omega arith)
pool_starts shapes = (omega arith, refl, refl, omega arith)

-- a pool ends where a later one begins or before that
rising : (j k : ℕ) → j < k → k < 6 → get_or starts (suc j) 0 ≤ get_or starts k 0
unfolding every
rising j k l h =
    leb-true (get_or starts (suc j) 0) (get_or starts k 0)
    (every-at (λ j. leb (get_or starts (suc j) 0) (get_or starts k 0)) k (every-at (λ k. every (λ j. leb (get_or starts (suc j) 0) (get_or starts k 0)) k) 6 refl k h) j l)

pub pool_inside : (p : Pool) → (pool_base p / name_bytes + capacity p ≤ name_places) × (0 < capacity p)
pool_inside p = let s = pool_starts p in let e = s.2 in (omega (arith, rising (pool_number p) 5 s.0 (omega arith)), s.3)

pool_before : (p q : Pool) → pool_number p < pool_number q → pool_base p / name_bytes + capacity p ≤ pool_base q / name_bytes
pool_before p q l =
    let a = (pool_starts p).2 in
    let b = (pool_starts q).1 in
    let n = (pool_starts q).0 in
    omega (arith, rising (pool_number p) (pool_number q) l (omega arith))

pub pools_apart : (p q : Pool) → (pool_number q ≡ pool_number p → ⊥) → (pool_base p / name_bytes + capacity p ≤ pool_base q / name_bytes) ⊎ (pool_base q / name_bytes + capacity q ≤ pool_base p / name_bytes)
pools_apart p q n =
    bool_cases (λ t. ltb (pool_number p) (pool_number q) ≡ t → (pool_base p / name_bytes + capacity p ≤ pool_base q / name_bytes) ⊎ (pool_base q / name_bytes + capacity q ≤ pool_base p / name_bytes)) (ltb (pool_number p) (pool_number q))
    (λ _ e. inl (pool_before p q (ltb-true (pool_number p) (pool_number q) e)))
    (λ _ e. inr (pool_before q p (let l = ltb-false (pool_number p) (pool_number q) e in omega (arith, n)))) refl

pub count-within : (n : Counts) (p : Pool) → Limits n → count_of n p ≤ capacity p
unfolding capacity
count-within n nodes l = l.node_limit
count-within n links l = l.link_limit
count-within n types l = l.type_limit
count-within n langs l = l.lang_limit
count-within n shapes l = l.shape_limit
