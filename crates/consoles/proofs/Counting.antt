-- The laws of tallies: which of them move, and how far.
use Prim.Native.Nat.{ℕ, ◌≤◌, ◌<◌, ◌+◌, min}
use mathlib.Core.List.{List, ◌++◌}
use mathlib.Core.Bool.{Bool, true, cond}
use mathlib.Core.Path.{◌≡◌, refl, sym, ap, ◌∙◌}
use native.Mathlib.Omega.{arith}
use lib.Dec.{eqb}
use lib.ListN.{length, length-set, get_or, set, take, drop, take-append-drop}
use lib.Seq.{set_out, get_or-set_same, get_or-set_other, get_or-take, take-set-lt, drop-set-lt, length-take-le}
use borrow.Author.Tests.{eqb-true, eqb-false}
use Rattle.base.proofs.Bools.{bool_cases}
use Rattle.nodeset.specs.Words.{stored}
use Rattle.nodeset.proofs.Stores.{stored-whole}
use Rattle.consoles.specs.Tallies.{console_count, greatest, one_more, counted}

-- ---- which tallies move
pub counted-length : (c : ℕ) (ts : List ℕ) → length (counted c ts) ≡ length ts
unfolding counted
counted-length c ts = length-set ts _ _

-- no other console's
pub counted-other : (c k : ℕ) (ts : List ℕ) → (k ≡ c → ⊥) → get_or (counted c ts) k 0 ≡ get_or ts k 0
unfolding counted
counted-other c k ts n = get_or-set_other ts c k (one_more (get_or ts c 0)) 0 n

-- the console's own by one, up to the greatest
pub counted_own : (c : ℕ) (ts : List ℕ) → c < length ts → get_or (counted c ts) c 0 ≡ one_more (get_or ts c 0)
unfolding counted
counted_own c ts l = get_or-set_same ts c (one_more (get_or ts c 0)) 0 l

-- a tally of t that counts k answers more
pub one_more_min : (t k : ℕ) → t ≤ greatest → min (one_more t + k) greatest ≡ min (t + (1 + k)) greatest
unfolding one_more
one_more_min t k l =
    bool_cases (λ b. min (cond b t (t + 1) + k) greatest ≡ min (t + (1 + k)) greatest) (eqb t greatest)
    (λ e. let q = eqb-true t greatest e in omega (arith, q))
    (λ e. omega arith)

pub one_more-fits : (t : ℕ) → t ≤ greatest → one_more t ≤ greatest
unfolding one_more
one_more-fits t l =
    bool_cases (λ b. cond b t (t + 1) ≤ greatest) (eqb t greatest)
    (λ e. l)
    (λ e. let n = eqb-false t greatest e in omega (arith, n, l))

-- ---- for the code
pub saturates : (t : ℕ) {r : ℕ} → r ≡ min (t + 1) greatest → t ≤ greatest → r ≡ one_more t
unfolding one_more
saturates t {r} e l =
    bool_cases (λ b. eqb t greatest ≡ b → r ≡ cond b t (t + 1)) (eqb t greatest)
    (λ _ q. let f = eqb-true t greatest q in omega (arith, e, f))
    (λ _ q. let n = eqb-false t greatest q in omega (arith, e, n, l)) refl

-- the console's tally written anew
pub counted-at : (c : ℕ) (ts : List ℕ) {t : ℕ} → t ≡ one_more (get_or ts c 0) → set ts c t ≡ counted c ts
unfolding counted
counted-at c ts e = ap (set ts c) e

-- a number past the last console's moves none
pub counted_out : (c : ℕ) (ts : List ℕ) → length ts ≤ c → ts ≡ counted c ts
unfolding counted
counted_out c ts l = sym (set_out ts c (one_more (get_or ts c 0)) l)

-- a question that was answered
pub given_after : (c : ℕ) (ts : List ℕ) {given : Bool} → given ≡ true → counted c ts ≡ cond given (counted c ts) ts
given_after c ts e = ap (λ (g : Bool). cond g (counted c ts) ts) (sym e)

-- ---- lent tallies, of which the first eight count
-- the first eight of us, stored where ts stood, are us where the two agree past them
stored-front : (ts us : List ℕ) → console_count ≤ length ts → length us ≡ length ts → drop console_count us ≡ drop console_count ts → stored ts (take console_count us) ≡ us
stored-front ts us l n d =
    let e : length (take console_count us) ≡ console_count = length-take-le console_count us (omega (arith, n, l)) in
    stored-whole ts (take console_count us) (omega (arith, e, l))
    ∙ ap (λ (k : ℕ). take console_count us ++ drop k ts) e
    ∙ ap (λ (r : List ℕ). take console_count us ++ r) (sym d)
    ∙ take-append-drop console_count us

-- stored as they were loaded they stay
pub stored_same : (ts : List ℕ) → console_count ≤ length ts → stored ts (take console_count ts) ≡ ts
stored_same ts l = stored-front ts ts l refl refl

-- the first eight counted and stored are all of them counted
pub stored-counted : (c : ℕ) (ts : List ℕ) → console_count ≤ length ts → c < console_count → stored ts (counted c (take console_count ts)) ≡ counted c ts
unfolding counted
stored-counted c ts l h =
    let t = one_more (get_or ts c 0) in
    let e : counted c (take console_count ts) ≡ take console_count (set ts c t) = ap (λ (x : ℕ). set (take console_count ts) c (one_more x)) (get_or-take console_count ts c 0 h) ∙ sym (take-set-lt console_count ts c t h) in
    ap (stored ts) e ∙ stored-front ts (set ts c t) l (length-set ts c t) (drop-set-lt console_count ts c t h)
