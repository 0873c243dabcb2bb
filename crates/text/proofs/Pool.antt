-- Padded names and the search for one, by position.
use Prim.Native.Nat.{ℕ, suc, ◌+◌, ◌-◌, ◌<◌, ◌≤◌}
use mathlib.Core.Path.{◌≡◌, sym, ap, ◌∙◌}
use mathlib.Core.List.{List, ◌++◌, append_assoc}
use mathlib.Core.Bool.{Bool, true, false}
use native.Mathlib.Numerals.{add-one}
use native.Mathlib.Omega.{arith}
use lib.ListN.{length, get_or, take, drop, replicate, length-append, length-drop, length-replicate, get_or-append}
use lib.Seq.{slice, length-slice, get_or-append-add, drop-drop, length-take-le}
use borrow.Rule.Slice.PartMut.{put_mid, drop_put}
use Rattle.std.proofs.lemmas.Slice.{take-put_mid}
use Rattle.base.proofs.Lists.{zeros_at}
use Rattle.text.specs.Pool.{padded, first_from, store}
use Rattle.text.proofs.Parts.{slice_at}
use Rattle.model.specs.Limits.{name_bytes}
use Rattle.std.specs.Prelude.{Some, None}

module _ (s : List ℕ) (f t : ℕ) (k : t ≤ length s) where
  pub padded_in : (j : ℕ) → j < t - f → get_or (padded (slice f t s)) j 0 ≡ get_or s (f + j) 0
  unfolding padded
  padded_in j h =
      get_or-append (slice f t s) (replicate (name_bytes - length (slice f t s)) 0) 0 j (rw (length-slice f t s k) h)
      ∙ slice_at s f t j (omega arith)

  pub padded_out : (j : ℕ) → t - f ≤ j → get_or (padded (slice f t s)) j 0 ≡ 0
  unfolding padded
  padded_out j h =
      let w = slice f t s in
      let l = length-slice f t s k in
      let e : length w + (j - length w) ≡ j = omega arith in
      ap (λ (i : ℕ). get_or (padded w) i 0) (sym e)
      ∙ get_or-append-add w (replicate (name_bytes - length w) 0) (j - length w) 0
      ∙ zeros_at (name_bytes - length w) (j - length w)

pub padded-length : (w : List ℕ) → length w ≤ name_bytes → length (padded w) ≡ name_bytes
unfolding padded
padded-length w h = simp (length-append, length-replicate) (omega arith)

-- ---- a search, from a number on
module _ (p : ℕ → Bool) (n k : ℕ) (l : k < n) where
  left : n - k ≡ suc (n - (k + 1))
  left = omega arith

  pub first_here : p k ≡ true → first_from p (n - k) k ≡ Some k
  unfolding first_from
  first_here e = rw (left, e)

  pub first_step : p k ≡ false → first_from p (n - k) k ≡ first_from p (n - (k + 1)) (k + 1)
  unfolding first_from
  first_step e = rw (left, e, add-one k)

pub first-none : (p : ℕ → Bool) (n k : ℕ) → n ≤ k → first_from p (n - k) k ≡ None
unfolding first_from
first-none p n k h = let e : n - k ≡ 0 = omega arith in rw e

-- a word that is copied to its place, and then the zeros after it
pub put_padded : (l w : List ℕ) {x z : List ℕ} (p e : ℕ) → e ≡ p + length w → p + name_bytes ≤ length l → length w ≤ name_bytes
    → x ≡ w → z ≡ replicate (length (take (p + name_bytes - e) (drop e (put_mid p (e - p) l x)))) 0 → put_mid e (p + name_bytes - e) (put_mid p (e - p) l x) z ≡ store l p (padded w)
unfolding padded store
put_padded l w {x} {z} p e h room short qx qz =
    let q : ℕ = p + name_bytes - e in
    let zs : List ℕ = replicate (name_bytes - length w) 0 in
    let lp = padded-length w short in
    let past = drop_put p e l w (omega arith) (omega arith) (omega arith) in
    let n : q ≡ name_bytes - length w = omega arith in
    let s : e + q ≡ p + length (padded w) = omega arith in
    let held : length (take q (drop e (put_mid p (e - p) l x))) ≡ name_bytes - length w =
    ap (λ (y : List ℕ). length (take q (drop e (put_mid p (e - p) l y)))) qx ∙ ap (λ (y : List ℕ). length (take q y)) past ∙ length-take-le q (drop e l) (omega (arith, length-drop e l)) ∙ n in
    ap (λ (a : List ℕ). put_mid e q (put_mid p (e - p) l a) z) qx
    ∙ ap (put_mid e q (put_mid p (e - p) l w)) (qz ∙ ap (λ (k : ℕ). replicate k 0) held)
    ∙ ap (λ (a : List ℕ). a ++ (zs ++ drop q (drop e (put_mid p (e - p) l w)))) (take-put_mid p (e - p) l w e h (omega arith))
    ∙ ap (λ (b : List ℕ). (take p l ++ w) ++ (zs ++ b)) (ap (drop q) past ∙ drop-drop q e l ∙ ap (λ (k : ℕ). drop k l) s)
    ∙ append_assoc (take p l) w (zs ++ drop (p + length (padded w)) l)
    ∙ ap (λ (r : List ℕ). take p l ++ r) (sym (append_assoc w zs (drop (p + length (padded w)) l)))
