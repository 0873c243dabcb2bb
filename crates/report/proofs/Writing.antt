-- Writing on a page, one text after the other; how long a number is; the lines as they are put together.
use Prim.Native.Nat.{ℕ, zero, suc, ◌+◌, ◌*◌, ◌/◌, ◌%◌, ◌<◌, ◌≤◌}
use mathlib.Core.List.{List, [], ◌∷◌, ◌++◌, map, append_assoc, append-nil}
use mathlib.Core.Path.{◌≡◌, refl, sym, ap, ap₂, subst, ◌∙◌}
use native.Mathlib.Nat.{add-zero, zero-add, add-suc, suc-add, div-add-mod'}
use native.Mathlib.Omega.{arith}
use borrow.Rule.Slice.PartMut.{put_mid}
use lib.ListN.{length, get_or, set, take, drop, length-append}
use lib.Seq.{sets, length-sets, sets-eq}
use Rattle.std.proofs.lemmas.List.{drop-drop, map-append, take_all, take_more}
use Rattle.base.specs.Bytes.{bytes}
use Rattle.text.specs.Decimals.{decimal}
use Rattle.text.proofs.Inverse.{decimal_digit, decimal-more}
use Rattle.model.specs.Limits.{max_rules, max_name}
use Rattle.encoding.proofs.Places.{below_or}
use Rattle.lists.specs.Rows.{over}
use Rattle.grammar.specs.Writing.{spaced, bracket}
use Rattle.report.specs.Report.{line, head_line, break_line, found_line}
use Rattle.report.specs.Pages.{Put, break_bytes, page_count}

-- ---- stores one after the other
pub sets_append : (a l b : List ℕ) (i : ℕ) → sets (sets l i a) (i + length a) b ≡ sets l i (a ++ b)
sets_append [] l b i = ap (λ (k : ℕ). sets l k b) (add-zero i)
sets_append (x ∷ a) l b i = ap (λ (k : ℕ). sets (sets (set l i x) (suc i) a) k b) (add-suc i (length a) ∙ sym (suc-add i (length a))) ∙ sets_append a (set l i x) b (suc i)

pub put-none : (l : List ℕ) (at : ℕ) → at ≤ length l → Put l l at [] at
put-none l at le = record { written = refl; ends = sym (add-zero at); inside = le }

-- a text that is copied to its place
pub put_copied : (l t : List ℕ) {ys : List ℕ} (at n : ℕ) → n ≡ length t → ys ≡ t → at + length t ≤ length l → Put l (put_mid at n l ys) at t (at + length t)
put_copied l t at n e q room =
    record {
      written = ap₂ (λ (x y : List ℕ). take at l ++ (x ++ y)) q (drop-drop n at l ∙ ap (λ (k : ℕ). drop (at + k) l) e) ∙ (sym (append_assoc (take at l) t (drop (at + length t) l)) ∙ sym (sets-eq t l at room));
      ends = refl;
      inside = room;
    }

pub put-length : {l m a : List ℕ} {at e : ℕ} → Put l m at a e → length m ≡ length l
put-length {l} {m} {a} {at} {e} p = ap length p.written ∙ length-sets l at a

-- a text after another
pub put_then : {l m n a b : List ℕ} {at e f : ℕ} → Put l m at a e → Put m n e b f → Put l n at (a ++ b) f
put_then {l} {m} {n} {a} {b} {at} {e} {f} p q =
    record {
      written = q.written ∙ (ap₂ (λ (x : List ℕ) (k : ℕ). sets x k b) p.written p.ends ∙ sets_append a l b at);
      ends = omega (arith, p.ends, q.ends, length-append a b);
      inside = omega (arith, q.inside, put-length p);
    }

-- the same text, by another name
pub put_as : {l m a b : List ℕ} {at e : ℕ} → a ≡ b → Put l m at a e → Put l m at b e
put_as {l} {m} {at = at} {e = e} q p = subst (λ (t : List ℕ). Put l m at t e) q p

-- a text at the front of a page
pub put_front : {l m a : List ℕ} {e : ℕ} → Put l m 0 a e → (e ≡ length a) × (m ≡ over a l)
unfolding over
put_front {l} {m} {a} {e} p =
    let n : e ≡ length a = p.ends ∙ zero-add (length a) in
    (n, p.written ∙ (sets-eq a l 0 (omega (arith, p.inside, p.ends)) ∙ ap (λ (k : ℕ). a ++ drop k l) (zero-add (length a))))

-- ---- numbers
abbrev tens : ℕ → ℕ
tens zero = 1
tens (suc k) = 10 * tens k

-- a number below the power has so many digits at most
pub digits-few : (k n : ℕ) → n < tens (suc k) → length (decimal n) ≤ suc k
digits-few zero n h = rw (decimal_digit n (omega arith)) (omega arith)
digits-few (suc k) n h =
    below_or (length (decimal n) ≤ suc (suc k)) n 10
    (λ l. rw (decimal_digit n l) (omega arith))
    (λ l.
    let d = div-add-mod' n 10 in
    omega (arith, ap length (decimal-more n l), length-append (decimal (n / 10)) ((48 + n % 10) ∷ []), digits-few k (n / 10) (omega arith)))

-- a number of more than one digit has one more than its tenth
pub one_more : (n : ℕ) → 10 ≤ n → length (decimal n) ≡ length (decimal (n / 10)) + 1
one_more n h = ap length (decimal-more n h) ∙ length-append (decimal (n / 10)) ((48 + n % 10) ∷ [])

pub two_digits : (n : ℕ) → n < max_rules → length (decimal n) ≤ 2
two_digits n h = digits-few 1 n (omega arith)

-- of 64 bits
pub twenty_digits : (n : ℕ) → n < 18446744073709551616 → length (decimal n) ≤ 20
twenty_digits n h = digits-few 19 n (omega arith)

-- ---- a line, one item after the other
abbrev pub close : List ℕ
close = 41 ∷ 10 ∷ []

line-start : (w : List ℕ) (xs : List (List ℕ)) → (40 ∷ w) ++ (spaced xs ++ close) ≡ line w xs
unfolding line bracket
line-start w xs = ap (λ (t : List ℕ). 40 ∷ t) (sym (append_assoc w (spaced xs ++ (41 ∷ [])) (10 ∷ []) ∙ ap (λ (t : List ℕ). w ++ t) (append_assoc (spaced xs) (41 ∷ []) (10 ∷ []))))

line-more : (p x : List ℕ) (xs : List (List ℕ)) → (p ++ (32 ∷ x)) ++ (spaced xs ++ close) ≡ p ++ (spaced (x ∷ xs) ++ close)
unfolding spaced
line-more p x xs = append_assoc p (32 ∷ x) (spaced xs ++ close) ∙ ap (λ (t : List ℕ). p ++ (32 ∷ t)) (sym (append_assoc x (spaced xs) close))

-- a line's items, one more
spaced_snoc : (xs : List (List ℕ)) (x : List ℕ) → spaced xs ++ (32 ∷ x) ≡ spaced (xs ++ (x ∷ []))
unfolding spaced
spaced_snoc [] x = ap (λ (t : List ℕ). 32 ∷ t) (sym (append-nil x))
spaced_snoc (y ∷ xs) x = ap (λ (t : List ℕ). 32 ∷ t) (append_assoc y (spaced xs) (32 ∷ x) ∙ ap (λ (t : List ℕ). y ++ t) (spaced_snoc xs x))

-- the line of a word and numbers
module _ (w ns : List ℕ) where
  -- what stands there before number i
  abbrev pub so_far : ℕ → List ℕ
  so_far i = (40 ∷ w) ++ spaced (map decimal (take i ns))

  pub numbers_start : (40 ∷ []) ++ w ≡ so_far 0
  unfolding spaced
  numbers_start = ap (λ (t : List ℕ). 40 ∷ t) (sym (append-nil w))

  pub numbers_more : (i : ℕ) → i < length ns → so_far i ++ (32 ∷ decimal (get_or ns i 0)) ≡ so_far (i + 1)
  numbers_more i h =
      append_assoc (40 ∷ w) (spaced (map decimal (take i ns))) (32 ∷ decimal (get_or ns i 0))
      ∙ ap (λ (t : List ℕ). (40 ∷ w) ++ t) (spaced_snoc (map decimal (take i ns)) (decimal (get_or ns i 0)) ∙ ap spaced (sym (ap (map decimal) (take_more ns i 0 h) ∙ map-append decimal (take i ns) (get_or ns i 0 ∷ []))))

  pub numbers_end : (i : ℕ) → length ns ≤ i → so_far i ++ close ≡ line w (map decimal ns)
  numbers_end i h = append_assoc (40 ∷ w) (spaced (map decimal (take i ns))) close ∙ (ap (λ (l : List ℕ). (40 ∷ w) ++ (spaced (map decimal l) ++ close)) (take_all i ns h) ∙ line-start w (map decimal ns))

  -- what stands there is not longer than the line
  spaced_le : (xs : List ℕ) (i : ℕ) → length (spaced (map decimal (take i xs))) ≤ length (spaced (map decimal xs))
  unfolding spaced
  spaced_le xs zero = omega arith
  spaced_le [] (suc i) = omega arith
  spaced_le (x ∷ xs) (suc i) = omega (arith, length-append (decimal x) (spaced (map decimal (take i xs))), length-append (decimal x) (spaced (map decimal xs)), spaced_le xs i)

  pub numbers_fit : (i : ℕ) → length (so_far i) + 2 ≤ length (line w (map decimal ns))
  numbers_fit i =
      let xs : List (List ℕ) = map decimal ns in
      let part : List ℕ = spaced (map decimal (take i ns)) in
      omega (arith, ap length (line-start w xs), length-append (40 ∷ w) (spaced xs ++ close), length-append (spaced xs) close, length-append (40 ∷ w) part, spaced_le ns i)

  pub word_fits : 3 + length w ≤ length (line w (map decimal ns))
  word_fits = omega (arith, numbers_fit 0, ap length numbers_start)

  -- number i and what ends the line
  pub number_fits : (i : ℕ) → i < length ns → length (so_far i) + (1 + length (decimal (get_or ns i 0))) + 2 ≤ length (line w (map decimal ns))
  number_fits i h = omega (arith, ap length (numbers_more i h), length-append (so_far i) (32 ∷ decimal (get_or ns i 0)), numbers_fit (i + 1))

pub line-two : (w x y : List ℕ) → (((40 ∷ w) ++ (32 ∷ x)) ++ (32 ∷ y)) ++ close ≡ line w (x ∷ y ∷ [])
unfolding spaced
line-two w x y = line-more ((40 ∷ w) ++ (32 ∷ x)) y [] ∙ line-more (40 ∷ w) x (y ∷ []) ∙ line-start w (x ∷ y ∷ [])

-- how long a line of two items is, of one, of three
pub length_two : (w x y : List ℕ) → length (line w (x ∷ y ∷ [])) ≡ 5 + length w + length x + length y
length_two w x y = sym (ap length (line-two w x y)) ∙ omega (arith, length-append (((40 ∷ w) ++ (32 ∷ x)) ++ (32 ∷ y)) close, length-append ((40 ∷ w) ++ (32 ∷ x)) (32 ∷ y), length-append (40 ∷ w) (32 ∷ x))

pub length_one : (w x : List ℕ) → length (line w (x ∷ [])) ≡ 4 + length w + length x
unfolding spaced
length_one w x = sym (ap length (line-more (40 ∷ w) x [] ∙ line-start w (x ∷ []))) ∙ omega (arith, length-append ((40 ∷ w) ++ (32 ∷ x)) close, length-append (40 ∷ w) (32 ∷ x))

pub length_three : (w x y z : List ℕ) → length (line w (x ∷ y ∷ z ∷ [])) ≡ 6 + length w + length x + length y + length z
unfolding spaced
length_three w x y z =
    sym (ap length (line-more (((40 ∷ w) ++ (32 ∷ x)) ++ (32 ∷ y)) z [] ∙ line-more ((40 ∷ w) ++ (32 ∷ x)) y (z ∷ []) ∙ line-more (40 ∷ w) x (y ∷ z ∷ []) ∙ line-start w (x ∷ y ∷ z ∷ [])))
    ∙ omega (arith, length-append ((((40 ∷ w) ++ (32 ∷ x)) ++ (32 ∷ y)) ++ (32 ∷ z)) close, length-append (((40 ∷ w) ++ (32 ∷ x)) ++ (32 ∷ y)) (32 ∷ z), length-append ((40 ∷ w) ++ (32 ∷ x)) (32 ∷ y), length-append (40 ∷ w) (32 ∷ x))

-- at the front of a page
pub two_fit : (w x y : List ℕ) {n : ℕ} → 5 + length w + length x + length y ≤ n → 0 + length (line w (x ∷ y ∷ [])) ≤ n
two_fit w x y h = omega (arith, length_two w x y, h)

-- the line of a node
pub break_length : (r : ℕ) (w : List ℕ) → length (break_line r w) ≡ 11 + length (decimal r) + length w
break_length r w = length_two (bytes "breaks") (decimal r) w

pub break_fits : (r : ℕ) (w : List ℕ) → r < max_rules → length w ≤ max_name → length (break_line r w) ≤ break_bytes
break_fits r w h k = omega (arith, break_length r w, two_digits r h)

-- the first line and the last
pub head_fits : (n f r : ℕ) → n < 18446744073709551616 → f < 18446744073709551616 → r < 18446744073709551616 → length (head_line n f r) ≤ page_count
head_fits n f r h k l = omega (arith, length_three (bytes "book") (decimal n) (decimal f) (decimal r), twenty_digits n h, twenty_digits f k, twenty_digits r l)

pub found_fits : (n : ℕ) → n < 18446744073709551616 → length (found_line n) ≤ page_count
found_fits n h = omega (arith, length_one (bytes "found") (decimal n), twenty_digits n h)
