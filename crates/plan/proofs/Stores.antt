-- Stores into a plan: each puts its value at the next place of a column, and leaves what lies past the columns as it was.
use Prim.Native.Nat.{ℕ, zero, suc, ◌+◌, ◌≤◌, ◌<◌}
use mathlib.Core.List.{List, [], ◌∷◌, ◌++◌, map, map-append, append-nil, append_assoc}
use mathlib.Core.Path.{◌≡◌, refl, sym, ap, ap₂, ◌∙◌, subst}
use native.Mathlib.Omega.{arith}
use lib.ListN.{length, get_or, set, replicate, length-append, length-map, replicate-append-replicate}
use lib.Seq.{set-append_left}
use Rattle.base.specs.Lists.{values_from}
use Rattle.base.specs.Columns.{Column, pad, flat, offset, column, push}
use Rattle.base.proofs.Columns.{set-flat, length-flat}
use Rattle.model.specs.Limits.{max_rules, max_steps}
use Rattle.plan.specs.Steps.{Step, numbers_of}
use Rattle.plan.specs.Layout.{plan_count, plan_columns, laid, with_numbers, with_steps, rule_steps, step_codes, step_firsts, step_seconds, step_thirds, step_fourths}

-- a column ends within the whole
pub column_in : {A : Type 0} (cs : List (Column A)) (k : ℕ) → offset cs k + (column cs k).width ≤ offset cs (length cs)
column_in [] k = omega arith
column_in (c ∷ cs) zero = omega arith
column_in (c ∷ cs) (suc k) = omega (arith, column_in cs k)

-- the next place of column k, with t past the columns
store : (cs : List (Column ℕ)) (t : List ℕ) (k i x : ℕ) → i ≡ length (column cs k).items → i < (column cs k).width → set (flat 0 cs ++ t) (offset cs k + i) x ≡ flat 0 (push cs k x) ++ t
store cs t k i x e l =
    set-append_left (flat 0 cs) t (offset cs k + i) x (omega (arith, l, column_in cs k, length-flat 0 cs))
    ∙ ap (λ (l : List ℕ). l ++ t) (ap (λ (j : ℕ). set (flat 0 cs) (offset cs k + j) x) e ∙ set-flat 0 cs k x (subst (λ (j : ℕ). j < (column cs k).width) e l))

module _ (t : List ℕ) where
  -- the next rule's step, and how many steps there are
  pub store_rule : (rules : List ℕ) (ss : List Step) (r x : ℕ) → r ≡ length rules → r < max_rules → set (laid t [] rules ss) (rule_steps + r) x ≡ laid t [] (rules ++ (x ∷ [])) ss
  store_rule rules ss r x e l = store (plan_columns [] rules ss) t 1 r x e l

  pub store-count : (rules : List ℕ) (ss : List Step) (n : ℕ) → set (laid t [] rules ss) 0 n ≡ laid t (n ∷ []) rules ss
  store-count rules ss n = store (plan_columns [] rules ss) t 0 0 n refl (omega arith)

  module _ (counts rules : List ℕ) where
    part : ℕ → Step → ℕ
    part i s = get_or (numbers_of s) i 0

    abbrev cols : List ℕ → List ℕ → List ℕ → List ℕ → List ℕ → List (Column ℕ)
    cols a b c d e = record { width = 1; items = counts } ∷ record { width = max_rules; items = rules } ∷ record { width = max_steps; items = a } ∷ record { width = max_steps; items = b } ∷ record { width = max_steps; items = c } ∷ record { width = max_steps; items = d } ∷ record { width = max_steps; items = e } ∷ []

    -- the next step
    pub store_step : (ss : List Step) (k : ℕ) (s : Step) → k ≡ length ss → k < max_steps → with_numbers (laid t counts rules ss) k (numbers_of s) ≡ laid t counts rules (ss ++ (s ∷ []))
    unfolding with_numbers part
    store_step ss k s e l =
        let old : ℕ → List ℕ = λ i. map (part i) ss in
        let new : ℕ → List ℕ = λ i. map (part i) ss ++ (part i s ∷ []) in
        let len : (i : ℕ) → k ≡ length (map (part i) ss) = λ i. e ∙ sym (length-map ss (part i)) in
        let e0 : set (laid t counts rules ss) (step_codes + k) (part 0 s) ≡ flat 0 (cols (new 0) (old 1) (old 2) (old 3) (old 4)) ++ t = store (plan_columns counts rules ss) t 2 k (part 0 s) (len 0) l in
        let e1 : set (set (laid t counts rules ss) (step_codes + k) (part 0 s)) (step_firsts + k) (part 1 s) ≡ flat 0 (cols (new 0) (new 1) (old 2) (old 3) (old 4)) ++ t = ap (λ (p : List ℕ). set p (step_firsts + k) (part 1 s)) e0 ∙ store (cols (new 0) (old 1) (old 2) (old 3) (old 4)) t 3 k (part 1 s) (len 1) l in
        let e2 = ap (λ (p : List ℕ). set p (step_seconds + k) (part 2 s)) e1 ∙ store (cols (new 0) (new 1) (old 2) (old 3) (old 4)) t 4 k (part 2 s) (len 2) l in
        let e3 = ap (λ (p : List ℕ). set p (step_thirds + k) (part 3 s)) e2 ∙ store (cols (new 0) (new 1) (new 2) (old 3) (old 4)) t 5 k (part 3 s) (len 3) l in
        let e4 = ap (λ (p : List ℕ). set p (step_fourths + k) (part 4 s)) e3 ∙ store (cols (new 0) (new 1) (new 2) (new 3) (old 4)) t 6 k (part 4 s) (len 4) l in
        let whole : (i : ℕ) → new i ≡ map (part i) (ss ++ (s ∷ [])) = λ i. sym (map-append (part i) ss (s ∷ [])) in
        e4 ∙ (λ i. flat 0 (cols (whole 0 i) (whole 1 i) (whole 2 i) (whole 3 i) (whole 4 i)) ++ t)

    -- the next steps
    pub store-steps : (ss : List Step) (k : ℕ) (xs : List Step) → k ≡ length ss → k + length xs ≤ max_steps → with_steps (laid t counts rules ss) k xs ≡ laid t counts rules (ss ++ xs)
    unfolding with_steps
    store-steps ss k [] e l = ap (laid t counts rules) (sym (append-nil ss))
    store-steps ss k (x ∷ xs) e l =
        ap (λ (p : List ℕ). with_steps p (k + 1) xs) (store_step ss k x e (omega arith))
        ∙ store-steps (ss ++ (x ∷ [])) (k + 1) xs (ap (λ (j : ℕ). j + 1) e ∙ sym (length-append ss (x ∷ []))) (omega arith)
        ∙ ap (laid t counts rules) (append_assoc ss (x ∷ []) xs)

-- nothing laid is zeros
pad-none : (i w : ℕ) → values_from (λ j. get_or {A = ℕ} [] j 0) i w ≡ replicate w 0
unfolding values_from
pad-none i zero = refl
pad-none i (suc w) = ap (λ (l : List ℕ). 0 ∷ l) (pad-none (suc i) w)

abbrev total : List ℕ → ℕ
total [] = 0
total (w ∷ ws) = w + total ws

blanks : (ws : List ℕ) → flat {A = ℕ} 0 (map (λ w. record { width = w; items = [] }) ws) ≡ replicate (total ws) 0
unfolding flat pad
blanks [] = refl
blanks (w ∷ ws) = ap₂ (λ (a b : List ℕ). a ++ b) (pad-none 0 w) (blanks ws) ∙ replicate-append-replicate w (total ws) 0

pub laid_none : (t : List ℕ) → laid t [] [] [] ≡ replicate plan_count 0 ++ t
laid_none t = ap (λ (l : List ℕ). l ++ t) (blanks (1 ∷ max_rules ∷ max_steps ∷ max_steps ∷ max_steps ∷ max_steps ∷ max_steps ∷ []))
