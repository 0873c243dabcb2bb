-- FORM up to the first FORM deeper it: its head, its word, and what stands before that FORM.
use Prim.Native.Nat.{ℕ, zero, suc, ◌+◌, ◌-◌, ◌<◌, ◌≤◌}
use mathlib.Core.Path.{◌≡◌, refl, sym, ap, ◌∙◌}
use mathlib.Core.List.{List, [], ◌∷◌}
use mathlib.Core.Bool.{Bool, true, ◌||◌}
use mathlib.Core.Logic.{⊎_elim}
use native.Mathlib.Omega.{arith}
use native.Mathlib.Numerals.{sub-one}
use borrow.Author.Tests.{eq-eqb, ne_eqb, eqb-true}
use lib.Dec.{eqb, leb}
use lib.IntN.{ℤ}
use lib.ListN.{get_or}
use Rattle.base.specs.Bounded.{every}
use Rattle.base.proofs.Bools.{or_cases, never_both}
use Rattle.base.proofs.Bounded.{every-at}
use Rattle.model.specs.Shapes.{Upper, Shape}
use Rattle.model.specs.Books.{Book}
use Rattle.model.specs.Sizes.{path_entries}
use Rattle.model.specs.Limits.{max_forms, max_paths}
use Rattle.grammar.specs.Syntax.{low, high, path, form, count_c, form_of, form_family}
use Rattle.grammar.specs.Reading.{Read, got, refused, Readers, Begun, form_begun, after, space_at, arg_at, body_at, bracket_at, true_at, no_readers, deeper, readers_at}
use Rattle.stores.specs.Entries.{path_cells}
use Rattle.std.specs.Prelude.{Some, None, Result, Ok, Err}
use Rattle.model.specs.Refusals.{fault_of}
use Rattle.model.specs.declared.Fault.{Fault}
use Rattle.itemreader.specs.Answers.{Head, head_at, rest_at}
use Rattle.itemreader.specs.Words.{words_of}
use Rattle.itemreader.proofs.Heads.{bracket-bare, bracket_refused, bracket-word, rest_got, rest_refused}
use Rattle.pathreader.proofs.Paths.{Got}
use Rattle.leafreader.specs.declared.Ended.{Ended}
use Rattle.leafreader.specs.Forms.{FormRead, FormsWithin, children_of, form_body}
use Rattle.formreader.specs.declared.Front.{Front}
use Rattle.formreader.specs.declared.Opening.{Opening}
use Rattle.formreader.specs.Frames.{Quantifier, times, quantify, code_of, low_of, high_of, both, either, negated, along, Fronted, OpenRead, Opened}

-- ---- answers
module _ (s : List ℕ) (a : Book) (R : Readers) (b : Begun) (x : Read Shape) (n : Begun) (cs cs' : List ℕ) (vs vs' : List ℤ) (o : Opening) (p : OpenRead s a R b x n cs cs' vs vs' (Ok o)) where
  pub whole_read : (m : Ended) (next : ℕ) → o ≡ Opening.Whole m next → FormRead x n cs cs' vs vs' (Ok (m, next))
  whole_read m next e = rw e at p

  pub part_read : (front : Front) → o ≡ Opening.Part front → Fronted s a R b x n.paths cs cs' vs vs' front
  part_read front e = rw e at p

module _ (left up len : ℕ) (n : Ended) (o : Opening) (p : Opened left up len n (Ok o)) where
  pub whole-within : (m : Ended) (next : ℕ) → o ≡ Opening.Whole m next → FormsWithin n.forms up len (Ok (m, next))
  whole-within m next e = rw e at p

  pub part-within : (front : Front) → o ≡ Opening.Part front → (0 < left) × (n.forms + up < max_forms) × (front.paths ≤ max_paths) × (front.next ≤ len)
  part-within front e = rw e at p

-- a fault
module _ (s : List ℕ) (a : Book) (R : Readers) (b : Begun) (n : Begun) (cs cs' : List ℕ) (vs vs' : List ℤ) {x : Read Shape} where
  pub fault_read : {r : Result Opening Fault} (k : ℕ) → x ≡ refused k → r ≡ Err (fault_of k) → OpenRead s a R b x n cs cs' vs vs' r
  fault_read k e q = rw (q, e) (record { answer = refl; stored = tt })

-- ---- the PATH of count and all
pub path_fronted : (s : List ℕ) (a : Book) (R : Readers) (b : Begun) (at n m next : ℕ) (cs mid : List ℕ) (vs : List ℤ) (q : Quantifier) (code lo hi : ℕ) → code ≡ code_of q → lo ≡ low_of q → hi ≡ high_of q → Got path_entries path_cells (arg_at s a R path b at) n m next cs mid
    → Fronted s a R b (rest_at s a R true (path ∷ form ∷ []) (λ xs. quantify q xs.0 xs.1.0) b at) n cs mid vs vs (record { code = code; low = lo; high = hi; path = m - 1; paths = m; next = next })
path_fronted s a R b at n m next cs mid vs q code lo hi c l h g =
    record {
      frame = along q g.tree;
      holds = rw (c, l, h, ← g.count);
      rest = rest_got s a R true path (form ∷ []) (λ xs. quantify q xs.0 xs.1.0) b at g.tree next g.is;
      cells = g.cells;
      values = refl;
    }

-- ---- LO and HI of count
module _ (s : List ℕ) (a : Book) (left : ℕ) (b : Begun) (at : ℕ) where
  pub low_refused : (k : ℕ) → arg_at s a (readers_at s a left) low b at ≡ refused k → form_body s a left 12 b at ≡ refused k
  unfolding body_at
  low_refused k e = rest_refused s a (readers_at s a left) true low (high ∷ path ∷ form ∷ []) (form_of count_c) b at k e

  module _ (lo mid : ℕ) (e : arg_at s a (readers_at s a left) low b at ≡ got lo mid) where
    pub high_refused : (k : ℕ) → arg_at s a (readers_at s a left) high b mid ≡ refused k → form_body s a left 12 b at ≡ refused k
    unfolding body_at after
    high_refused k f = rest_got s a (readers_at s a left) true low (high ∷ path ∷ form ∷ []) (form_of count_c) b at lo mid e ∙ rest_refused s a (readers_at s a left) true high (path ∷ form ∷ []) (λ xs. form_of count_c (lo, xs)) b mid k f

    pub count-rest : (hi : Upper) (next : ℕ) → arg_at s a (readers_at s a left) high b mid ≡ got hi next → form_body s a left 12 b at ≡ rest_at s a (readers_at s a left) true (path ∷ form ∷ []) (λ xs. quantify (times lo hi) xs.0 xs.1.0) b next
    unfolding body_at after
    count-rest hi next f = rest_got s a (readers_at s a left) true low (high ∷ path ∷ form ∷ []) (form_of count_c) b at lo mid e ∙ rest_got s a (readers_at s a left) true high (path ∷ form ∷ []) (λ xs. form_of count_c (lo, xs)) b mid hi next f

-- ---- words
-- and, or, not
pub word_fronted : (s : List ℕ) (a : Book) (left code n : ℕ) (b : Begun) (at : ℕ) (cs : List ℕ) (vs : List ℤ) → 2 ≤ code → code < 5 → Fronted s a (readers_at s a left) b (form_body s a left code b at) n cs cs vs vs (record { code = code + 1; low = 0; high = 0; path = 0; paths = n; next = at })
unfolding body_at
word_fronted s a left zero n b at cs vs h l = absurd (omega arith)
word_fronted s a left (suc zero) n b at cs vs h l = absurd (omega arith)
word_fronted s a left (suc (suc zero)) n b at cs vs h l = record { frame = both; holds = refl; rest = refl; cells = refl; values = refl }
word_fronted s a left (suc (suc (suc zero))) n b at cs vs h l = record { frame = either; holds = refl; rest = refl; cells = refl; values = refl }
word_fronted s a left (suc (suc (suc (suc zero)))) n b at cs vs h l = record { frame = negated; holds = refl; rest = refl; cells = refl; values = refl }
word_fronted s a left (suc (suc (suc (suc (suc code))))) n b at cs vs h l = absurd (omega arith)

pub all_rest : (s : List ℕ) (a : Book) (left code : ℕ) (b : Begun) (at : ℕ) → code ≡ 13 → form_body s a left code b at ≡ rest_at s a (readers_at s a left) true (path ∷ form ∷ []) (λ xs. quantify Quantifier.every xs.0 xs.1.0) b at
unfolding body_at
all_rest s a left code b at e = rw e

-- all others are without a FORM deeper
pub leaf_code : (code : ℕ) → code < 20 → (code ≡ 2 → ⊥) → (code ≡ 3 → ⊥) → (code ≡ 4 → ⊥) → (code ≡ 12 → ⊥) → (code ≡ 13 → ⊥) → children_of code ≡ 0
unfolding every
leaf_code code h n2 n3 n4 n12 n13 =
    ⊎_elim (eqb-true (children_of code) 0) (λ e. absurd (never_both e (rw (ne_eqb code 2 n2, ne_eqb code 3 n3, ne_eqb code 4 n4, ne_eqb code 12 n12, ne_eqb code 13 n13))))
    (or_cases (eqb (children_of code) 0) (opens code) (every-at (λ k. eqb (children_of k) 0 || opens k) 20 refl code h))
  where
    opens : ℕ → Bool
    opens k = eqb k 2 || (eqb k 3 || (eqb k 4 || (eqb k 12 || eqb k 13)))

-- ---- the head
-- the readers deeper a bracket, where left more may be opened
abbrev inner : List ℕ → Book → ℕ → Readers
inner s a zero = no_readers s a
inner s a (suc left) = readers_at s a left

module _ (s : List ℕ) (a : Book) (b : Begun) (at m : ℕ) (q : b.forms ≡ m) where
  form_arg : (left : ℕ) → arg_at s a (readers_at s a left) form b at ≡ space_at s a at (λ k. bracket_at s a form_family (inner s a left) (eqb left 0) (leb max_forms m) (λ c. true) (true_at s a (leb max_forms m) k) (form_begun b) k)
  unfolding arg_at readers_at deeper
  form_arg zero = rw (← q)
  form_arg (suc left) = rw (← q, ne_eqb (suc left) 0 (λ e. omega arith))

  pub form_unspaced : (left : ℕ) → (get_or s at 0 ≡ 32 → ⊥) → arg_at s a (readers_at s a left) form b at ≡ refused 2
  form_unspaced left n = form_arg left ∙ rw (ne_eqb (get_or s at 0) 32 n)

  module _ (z : get_or s at 0 ≡ 32) (left : ℕ) where
    abbrev head : Head
    head = head_at s (words_of form_family) (eqb left 0) (leb max_forms m) (at + 1)

    form_bracket : arg_at s a (readers_at s a left) form b at ≡ bracket_at s a form_family (inner s a left) (eqb left 0) (leb max_forms m) (λ c. true) (true_at s a (leb max_forms m) (at + 1)) (form_begun b) (at + 1)
    form_bracket = form_arg left ∙ rw (eq-eqb (get_or s at 0) 32 z)

    pub form_bare : Ok None ≡ head → arg_at s a (readers_at s a left) form b at ≡ true_at s a (leb max_forms m) (at + 1)
    form_bare e = form_bracket ∙ bracket-bare s a form_family (inner s a left) (eqb left 0) (leb max_forms m) (λ c. true) (true_at s a (leb max_forms m) (at + 1)) (form_begun b) (at + 1) (sym e)

    pub form_head_refused : (f : Fault) → Err f ≡ head → (k : ℕ) × (arg_at s a (readers_at s a left) form b at ≡ refused k) × (f ≡ fault_of k)
    form_head_refused f e =
        let (k, x, w) = bracket_refused s a form_family (inner s a left) (eqb left 0) (leb max_forms m) (λ c. true) (true_at s a (leb max_forms m) (at + 1)) (form_begun b) (at + 1) f (sym e) in
        (k, form_bracket ∙ x, w)

    pub form_word_lem : (k stop : ℕ) → 0 < left → Ok (Some (k, stop)) ≡ head → arg_at s a (readers_at s a left) form b at ≡ form_body s a (left - 1) k (form_begun b) stop
    form_word_lem k stop l e = form_bracket ∙ ((bracket-word s a form_family (inner s a left) (eqb left 0) (leb max_forms m) (λ c. true) (true_at s a (leb max_forms m) (at + 1)) (form_begun b) (at + 1) k stop (sym e)).1 ∙ ap (λ (R : Readers). body_at s a form_family R (λ c. true) (get_or form_family.codes k form_family.other) (form_begun b) stop) (deeper left l))
      where
        deeper : (left : ℕ) → 0 < left → inner s a left ≡ readers_at s a (left - 1)
        deeper zero l = absurd (omega arith)
        deeper (suc left) l = rw sub-one
