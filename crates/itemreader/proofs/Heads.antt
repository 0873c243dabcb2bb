-- The head of a bracket: the tests that find it, and what it says of the bracket's reading.
use Prim.Native.Nat.{ℕ, ◌+◌, ◌-◌, ◌<◌, ◌≤◌}
use mathlib.Core.Path.{◌≡◌, refl, sym, ap, ◌∙◌}
use mathlib.Core.List.{List, [], ◌∷◌, map}
use mathlib.Core.Bool.{Bool, true, false, cond}
use native.Mathlib.Omega.{arith}
use borrow.Author.Tests.{eq-eqb, ne_eqb, eqb-true, eqb-false}
use lib.Dec.{eqb}
use lib.ListN.{length, get_or, take, drop}
use lib.Seq.{slice}
use Rattle.base.proofs.Bools.{bool_cases}
use Rattle.text.specs.Items.{item_end}
use Rattle.text.specs.Pool.{index_of}
use Rattle.text.proofs.Parts.{part_cut}
use Rattle.text.proofs.Places.{FirstOf, index_at}
use Rattle.model.specs.Books.{Book}
use Rattle.grammar.specs.Syntax.{Slot, Arg, Args, Family}
use Rattle.grammar.specs.Reading.{Read, got, refused, and_then, Readers, Begun, after, arg_at, args_at, close_at, body_at, bracket_at}
use Rattle.grammar.specs.Reading as reading
use Rattle.itemreader.specs.Answers.{Head, headed, head_at, Headed, rest_at}
use Rattle.itemreader.specs.Words.{words_of, words_in, word_count}
use Rattle.itemreader.specs.declared.words.Family as families
use Rattle.itemreader.proofs.Items.{item-within}
use Rattle.std.specs.Prelude.{Option, Some, None, Ok, Err}
use Rattle.model.specs.Refusals.{fault_of}
use Rattle.model.specs.declared.Fault.{Fault}

-- ---- a word in its family
pub words_counted : (f : families.Family) → length (words_in f) ≡ word_count f
unfolding words_of
words_counted families.Family.Paths = refl
words_counted families.Family.Forms = refl
words_counted families.Family.Targets = refl
words_counted families.Family.Lines = refl
words_counted families.Family.Kinds = refl

-- by a part as the code cuts it
pub found_part : (ws : List (List ℕ)) (s : List ℕ) (f t : ℕ) → f ≤ t → {r x : Option ℕ} → r ≡ index_of ws (take (t - f) (drop f s)) → r ≡ x → index_of ws (slice f t s) ≡ x
found_part ws s f t h p q = ap (index_of ws) (sym (part_cut s f t h)) ∙ sym p ∙ q

-- ---- the head, test by test
pub head-bare : (s : List ℕ) (ws : List (List ℕ)) (deep full : Bool) (at : ℕ) → (get_or s at 0 ≡ 40 → ⊥) → head_at s ws deep full at ≡ Ok None
unfolding head_at
head-bare s ws deep full at n = rw (ne_eqb (get_or s at 0) 40 n)

module _ (s : List ℕ) (ws : List (List ℕ)) (at end : ℕ) (z : get_or s at 0 ≡ 40) (q : end ≡ item_end s (at + 1)) where
  pub head-unknown : (deep full : Bool) → index_of ws (slice (at + 1) end s) ≡ None → head_at s ws deep full at ≡ Err Fault.Grammar
  unfolding head_at
  head-unknown deep full e = rw (eq-eqb (get_or s at 0) 40 z, ← q, e)

  module _ (k : ℕ) (e : index_of ws (slice (at + 1) end s) ≡ Some k) where
    pub head_deep : (left : ℕ) (full : Bool) → left ≡ 0 → head_at s ws (eqb left 0) full at ≡ Err Fault.Nesting
    unfolding head_at
    head_deep left full d = rw (eq-eqb (get_or s at 0) 40 z, ← q, e, eq-eqb left 0 d)

    pub head-full : (left : ℕ) (full : Bool) → (left ≡ 0 → ⊥) → full ≡ true → head_at s ws (eqb left 0) full at ≡ Err Fault.Limit
    unfolding head_at
    head-full left full d f = rw (eq-eqb (get_or s at 0) 40 z, ← q, e, ne_eqb left 0 d, f)

    pub head-word : (left : ℕ) (full : Bool) → (left ≡ 0 → ⊥) → full ≡ false → head_at s ws (eqb left 0) full at ≡ Ok (Some (k, end))
    unfolding head_at
    head-word left full d f = rw (eq-eqb (get_or s at 0) 40 z, ← q, e, ne_eqb left 0 d, f)

-- its word is one of the table's, a bracket may be opened, and it ends in the text
pub head-within : (s : List ℕ) (ws : List (List ℕ)) (left : ℕ) (full : Bool) (at : ℕ) → at ≤ length s → Headed (length ws) left full (length s) (head_at s ws (eqb left 0) full at)
unfolding head_at
head-within s ws left full at h =
    bool_cases (λ b. Headed (length ws) left full (length s) (cond b (headed (eqb left 0) full (index_of ws w) end) (Ok None))) (eqb (get_or s at 0) 40)
    (λ e. go (eqb left 0) full (index_of ws w) (λ d. eqb-false left 0 d) (λ k. (index_at ws w k).0) (item-within s at end 39 (eqb-true (get_or s at 0) 40 e) refl).1)
    (λ e. tt)
  where
    end : ℕ
    end = item_end s (at + 1)

    w : List ℕ
    w = slice (at + 1) end s

    go : (d f : Bool) (x : Option ℕ) → (d ≡ false → left ≡ 0 → ⊥) → ((k : ℕ) → x ≡ Some k → FirstOf (λ j. get_or ws j []) (length ws) w k) → end ≤ length s → Headed (length ws) left f (length s) (headed d f x end)
    go d f None n g l = tt
    go true f (Some k) n g l = tt
    go false true (Some k) n g l = tt
    go false false (Some k) n g l = let m = n refl in ((g k refl).0, omega arith, refl, l)

pub headed-word : (count left : ℕ) (full : Bool) (len : ℕ) (h : Head) (k end : ℕ) → Headed count left full len h → h ≡ Ok (Some (k, end)) → (k < count) × (0 < left) × (full ≡ false) × (end ≤ len)
headed-word count left full len h k end g e = rw e at g

-- ---- what the head says of a bracket's reading
module _ (s : List ℕ) (a : Book) {A : Type 0} (F : Family A) (R : Readers) (deep full : Bool) (room : F.Code → Bool) (bare : Read A) (n : Begun) (at : ℕ) where
  abbrev code : ℕ → F.Code
  code k = get_or F.codes k F.other

  bracket_bare' : (b : Bool) (x : Option ℕ) (d f : Bool) (end : ℕ) → cond b (headed d f x end) (Ok None) ≡ Ok None → cond b (reading.headed s a F R d f room n x end) bare ≡ bare
  bracket_bare' false x d f end e = refl
  bracket_bare' true None d f end e = let z : ◌≡◌ {A = ℕ} 0 1 = cc in absurd (omega arith)
  bracket_bare' true (Some k) true f end e = let z : ◌≡◌ {A = ℕ} 0 1 = cc in absurd (omega arith)
  bracket_bare' true (Some k) false true end e = let z : ◌≡◌ {A = ℕ} 0 1 = cc in absurd (omega arith)
  bracket_bare' true (Some k) false false end e = let z : ◌≡◌ {A = ℕ} 0 1 = cc in absurd (omega arith)

  bracket_refused' : (b : Bool) (x : Option ℕ) (d f : Bool) (end : ℕ) (e : Fault) → cond b (headed d f x end) (Ok None) ≡ Err e → (k : ℕ) × (cond b (reading.headed s a F R d f room n x end) bare ≡ refused k) × (e ≡ fault_of k)
  bracket_refused' false x d f end e p = let z : ◌≡◌ {A = ℕ} 0 1 = cc in absurd (omega arith)
  bracket_refused' true None d f end e p = (2, refl, cc)
  bracket_refused' true (Some j) true f end e p = (4, refl, cc)
  bracket_refused' true (Some j) false true end e p = (7, refl, cc)
  bracket_refused' true (Some j) false false end e p = let z : ◌≡◌ {A = ℕ} 0 1 = cc in absurd (omega arith)

  bracket_word' : (b : Bool) (x : Option ℕ) (d f : Bool) (end k e' : ℕ) → cond b (headed d f x end) (Ok None) ≡ Ok (Some (k, e')) → (d ≡ false) × (cond b (reading.headed s a F R d f room n x end) bare ≡ body_at s a F R room (code k) n e')
  bracket_word' false x d f end k e' e = let z : ◌≡◌ {A = ℕ} 0 1 = cc in absurd (omega arith)
  bracket_word' true None d f end k e' e = let z : ◌≡◌ {A = ℕ} 0 1 = cc in absurd (omega arith)
  bracket_word' true (Some j) true f end k e' e = let z : ◌≡◌ {A = ℕ} 0 1 = cc in absurd (omega arith)
  bracket_word' true (Some j) false true end k e' e = let z : ◌≡◌ {A = ℕ} 0 1 = cc in absurd (omega arith)
  bracket_word' true (Some j) false false end k e' e = let p : ◌≡◌ {A = ℕ × ℕ} (j, end) (k, e') = cc in (refl, ap (λ (x : ℕ × ℕ). body_at s a F R room (code x.0) n x.1) p)

  pub bracket-bare : head_at s (words_of F) deep full at ≡ Ok None → bracket_at s a F R deep full room bare n at ≡ bare
  unfolding head_at bracket_at words_of
  bracket-bare e = bracket_bare' (eqb (get_or s at 0) 40) (index_of (map F.word F.codes) (slice (at + 1) (item_end s (at + 1)) s)) deep full (item_end s (at + 1)) e

  pub bracket_refused : (e : Fault) → head_at s (words_of F) deep full at ≡ Err e → (k : ℕ) × (bracket_at s a F R deep full room bare n at ≡ refused k) × (e ≡ fault_of k)
  unfolding head_at bracket_at words_of
  bracket_refused e p = bracket_refused' (eqb (get_or s at 0) 40) (index_of (map F.word F.codes) (slice (at + 1) (item_end s (at + 1)) s)) deep full (item_end s (at + 1)) e p

  pub bracket-word : (k end : ℕ) → head_at s (words_of F) deep full at ≡ Ok (Some (k, end)) → (deep ≡ false) × (bracket_at s a F R deep full room bare n at ≡ body_at s a F R room (get_or F.codes k F.other) n end)
  unfolding head_at bracket_at words_of
  bracket-word k end e = bracket_word' (eqb (get_or s at 0) 40) (index_of (map F.word F.codes) (slice (at + 1) (item_end s (at + 1)) s)) deep full (item_end s (at + 1)) k end e

-- ---- what follows the word: its arguments one after the other, and the closing bracket
module _ (s : List ℕ) (a : Book) (R : Readers) {A : Type 0} (room : Bool) where
  pub rest-none : (f : Args [] → A) (n : Begun) (at : ℕ) → rest_at s a R room [] f n at ≡ close_at s a room (f tt) at
  unfolding args_at
  rest-none f n at = refl

  module _ (k : Slot) (ks : List Slot) (f : Args (k ∷ ks) → A) (n : Begun) (at : ℕ) where
    pub rest_got : (x : Arg k) (next : ℕ) → arg_at s a R k n at ≡ got x next → rest_at s a R room (k ∷ ks) f n at ≡ rest_at s a R room ks (λ xs. f (x, xs)) (after k x n) next
    unfolding args_at
    rest_got x next e = rw e (go (args_at s a R ks (after k x n) next))
      where
        go : (y : Read (Args ks)) → and_then (and_then y (λ xs last. got (x, xs) last)) (λ xs next. close_at s a room (f xs) next) ≡ and_then y (λ xs next. close_at s a room (f (x, xs)) next)
        go (got xs last) = refl
        go (refused r) = refl

    pub rest_refused : (r : ℕ) → arg_at s a R k n at ≡ refused r → rest_at s a R room (k ∷ ks) f n at ≡ refused r
    unfolding args_at
    rest_refused r e = rw e

-- the closing bracket
module _ (s : List ℕ) (a : Book) {A : Type 0} (x : A) (at : ℕ) where
  pub close_not : (room : Bool) → (get_or s at 0 ≡ 41 → ⊥) → close_at s a room x at ≡ refused 2
  unfolding close_at
  close_not room n = rw (ne_eqb (get_or s at 0) 41 n)

  pub close_full : (room : Bool) → get_or s at 0 ≡ 41 → room ≡ false → close_at s a room x at ≡ refused 7
  unfolding close_at
  close_full room z e = rw (eq-eqb (get_or s at 0) 41 z, e)

  pub close_got : (room : Bool) → get_or s at 0 ≡ 41 → room ≡ true → close_at s a room x at ≡ got x (at + 1)
  unfolding close_at
  close_got room z e = rw (eq-eqb (get_or s at 0) 41 z, e)
