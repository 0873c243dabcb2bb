-- The three ways through the whole run: too short, refused, accepted. Each meets the claim.
use Prim.Native.Nat.{ℕ, ◌*◌, ◌<◌, ◌≤◌}
use mathlib.Core.Path.{◌≡◌, refl, sym, ap, ap₂, subst, ◌∙◌}
use mathlib.Core.List.{List, [], ◌++◌, append-nil}
use mathlib.Core.Bool.{Bool, true, false, ◌&&◌}
use native.Mathlib.Omega.{arith}
use lib.Dec.{leb}
use lib.IntN.{ℤ}
use lib.ListN.{length, take, drop}
use lib.Seq.{take_at}
use borrow.Author.Tests.{leb-true}
use Rattle.base.specs.Lists.{member, ascending}
use Rattle.base.proofs.Bools.{and_left, and_right}
use Rattle.model.specs.declared.Refusal.{Refusal}
use Rattle.model.specs.Answers.{answer_of, Answer, value, refusal, map_value}
use Rattle.model.proofs.Answers.{same_refusal, not_refused}
use Rattle.model.specs.Refusals.{code_of, line_of}
use Rattle.model.specs.Books.{Book, links, sub_class_of, rules, list_of}
use Rattle.model.specs.Limits.{max_nodes}
use Rattle.model.specs.Valid.{admissible}
use Rattle.tables.specs.Layout.{name_count, cell_count, value_count, rule_count}
use Rattle.tables.specs.Names.{sub_class_at}
use Rattle.tables.specs.Sizes.{long_enough}
use Rattle.tables.specs.WellFormed.{well_formed}
use Rattle.encoding.specs.Encode.{encode_names, encode_cells, encode_values}
use Rattle.encoding.proofs.Counts.{names-length, cells-length, values_length, rules-counted}
use Rattle.encoding.proofs.Stored.{sub_class_read}
use Rattle.encoding.proofs.WellFormed.{well_formed_lem}
use Rattle.stores.proofs.Prefixes.{valid-names}
use Rattle.grammar.specs.Valid.{valid}
use Rattle.grammar.specs.Reading.{reading}
use Rattle.grammar.proofs.Books.{reading_iff, one_book, refused_only, valid-admissible}
use Rattle.plan.specs.Layout.{plan_count, step_count}
use Rattle.translation.specs.Compile.{steps_of, plan_of}
use Rattle.translation.proofs.Plans.{plan-count, length-plan_of}
use Rattle.std.specs.Prelude.{Result, Ok, Err}
use Rattle.reader.specs.Answers as reads
use Rattle.runner.specs.Run.{work_count, set_words}
use Rattle.runner.proofs.Work.{filled-words}
use Rattle.lists.specs.Rows.{list_count, length_count, list_in, row_in, with_rows, with_lengths}
use Rattle.lists.proofs.ReadOff.{row_read}
use Rattle.tablerun.specs.Lists.{list_at}
use Rattle.tablerun.proofs.Lists.{rule_nodes, rows_same, lengths-same}
use Rattle.validation.specs.Claim.{rule_of, Right, Demand3}
use Rattle.model.specs.Sizes.{counts_in}
use Rattle.model.specs.declared.Counts.{Counts}
use Rattle.validation.specs.Lent.{Lent, lent, validate_long, names_in, cells_in, values_in, plan_in, sub_class_in}
use Rattle.validation.specs.Whole.{left, validate_answer, after}
use Rattle.validation.proofs.Books.{list_read, steps-few, few-nodes, few-rules, listed-exactly, listed-ordered, listed-few}

-- the slices are as long as the limits
pub record Room (l : Lent) : Type 0 where
  pub tables : long_enough l.names l.cells l.values ≡ true
  pub plan : plan_count ≤ length l.plan
  pub work : work_count ≤ length l.work
  pub lists : list_count ≤ length l.lists
  pub lengths : length_count ≤ length l.lengths

pub room : (l : Lent) → validate_long l ≡ true → Room l
unfolding validate_long
room l e =
    let t : Bool = long_enough l.names l.cells l.values in
    let p : Bool = leb plan_count (length l.plan) in
    let w : Bool = leb work_count (length l.work) in
    let s : Bool = leb list_count (length l.lists) in
    let k : Bool = leb length_count (length l.lengths) in
    let e₁ = and_right t (p && (w && (s && k))) e in
    let e₂ = and_right p (w && (s && k)) e₁ in
    let e₃ = and_right w (s && k) e₂ in
    record {
      tables = and_left t (p && (w && (s && k))) e;
      plan = leb-true plan_count (length l.plan) (and_left p (w && (s && k)) e₁);
      work = leb-true work_count (length l.work) (and_left w (s && k) e₂);
      lists = leb-true list_count (length l.lists) (and_left s k e₃);
      lengths = leb-true length_count (length l.lengths) (and_right s k e₃);
    }

-- what a way through the run must give: the claim, the answer, and what is left in the slices
module _ (s : List ℕ) (l : Lent) where
  abbrev pub Meets : Answer ℕ → Lent → Type 0
  Meets a m = Demand3 s l a m × ((a ≡ validate_answer s l) × (m ≡ after s l))

  -- ---- 8: nothing has changed
  pub too_short : validate_long l ≡ false → Meets (refusal 8 0) l
  unfolding validate_answer after
  too_short e = ((λ b v r. (e, refl, refl, refl)), (rw e, rw e))

  module _ (e : validate_long l ≡ true) where
    -- ---- a refused book
    pub turned_down : (k line : ℕ) → reading s ≡ refusal k line → Meets (refusal k line) (left (refusal k line) l)
    unfolding validate_answer after
    turned_down k line q = ((λ b v r. absurd (refused_only s k line q b v r)), (rw (e, q) refl, rw (e, q) refl))

    -- ---- an accepted one
    module _ (b : Book) (q : reading s ≡ value b) where
      pub is-valid : valid b ≡ true
      is-valid = ((reading_iff s b).0 q).0

      fits : Room l
      fits = room l e

      abbrev list : ℕ → List ℕ
      list r = list_of b (rule_of b r)

      short : (r : ℕ) → length (list r) ≤ max_nodes
      short r = omega (arith, listed-few b (rule_of b r), few-nodes b (valid-admissible b is-valid))

      -- what is left, tables and plan up to their limits
      abbrev m : Lent
      m = left (value b) l

      fine : well_formed (encode_cells b) ≡ true
      fine = well_formed_lem b (valid-admissible b is-valid)

      names_in_lem : names_in m ≡ encode_names b
      names_in_lem = take_at (encode_names b) (drop name_count l.names) name_count (names-length b)

      cells_in_lem : cells_in m ≡ encode_cells b
      cells_in_lem = take_at (encode_cells b) (drop cell_count l.cells) cell_count (cells-length b)

      values_in_lem : values_in m ≡ encode_values b
      values_in_lem = take_at (encode_values b) (drop value_count l.values) value_count (values_length b)

      -- the tables' link `under` is the book's
      sub_in : sub_class_in m ≡ sub_class_of b
      sub_in = ap₂ sub_class_at names_in_lem cells_in_lem ∙ sub_class_read b (valid-names b is-valid links) (valid-admissible b is-valid)

      plan_in_lem : plan_in m ≡ plan_of (encode_cells b)
      plan_in_lem = take_at (plan_of (encode_cells b)) (drop plan_count l.plan) plan_count (length-plan_of (encode_cells b))

      abbrev n : ℕ
      n = length (steps_of (encode_cells b))

      steps-are : step_count (plan_of (encode_cells b)) ≡ n
      steps-are = ap step_count (sym (append-nil (plan_of (encode_cells b)))) ∙ plan-count (encode_cells b) []

      step_words_lem : (k : ℕ) → k < n → take 16 (drop (16 * k) m.work) ≡ set_words (sub_class_in m) (cells_in m) (values_in m) (plan_in m) k
      step_words_lem k low =
          filled-words (sub_class_of b) (encode_cells b) (encode_values b) (plan_of (encode_cells b)) l.work k (subst (λ x. k < x) (sym steps-are) low)
          ∙ (λ j. set_words (sym sub_in j) (sym cells_in_lem j) (sym values_in_lem j) (sym plan_in_lem j) k)

      in_rows_lem : (r : ℕ) → r < length (rules b) → row_in m.lists m.lengths r ≡ list_of b (rule_of b r)
      in_rows_lem r low =
          row_read list short (length (rules b)) l.lists l.lengths
          (omega (arith, fits.lists, few-rules b (valid-admissible b is-valid))) (omega (arith, fits.lengths, few-rules b (valid-admissible b is-valid))) r low

      rows_read_off : (r : ℕ) → r < length (rules b) → row_in m.lists m.lengths r ≡ list_in (cells_in m) (plan_in m) m.work r
      rows_read_off r low =
          in_rows_lem r low
          ∙ sym (rule_nodes (encode_cells b) fine (sub_class_of b) (encode_values b) l.work r (subst (λ x. r < x) (sym (rules-counted b)) low) ∙ list_read b (valid-admissible b is-valid) r low)
          ∙ (λ j. list_in (sym cells_in_lem j) (sym plan_in_lem j) m.work r)

      right : Right b m n
      right =
          record {
            names = names_in_lem;
            cells = cells_in_lem;
            values = values_in_lem;
            planned = plan_in_lem ∙ ap plan_of (sym cells_in_lem);
            ran = step_words_lem;
            read_off = rows_read_off;
            exactly = λ r low v. ap (member v) (in_rows_lem r low) ∙ listed-exactly b (rule_of b r) v;
            ordered = λ r low. ap ascending (in_rows_lem r low) ∙ listed-ordered b (rule_of b r);
            counted = ap step_count plan_in_lem ∙ steps-are;
            few = steps-few b (valid-admissible b is-valid);
          }

      pub taken : Meets (value n) m
      unfolding validate_answer after
      taken = ((λ a v r. (e, subst (λ x. Right x m n) (one_book b a is-valid v (((reading_iff s b).0 q).1 ∙ sym r)) right)), (rw (e, q) refl, rw (e, q) refl))

-- ---- what read's answer tells, for tables that are long enough
module _ (s ns cs : List ℕ) (vs : List ℤ) (e : long_enough ns cs vs ≡ true) where
  by_reading : reads.read_answer s ns cs vs ≡ map_value counts_in (reading s)
  unfolding reads.read_answer
  by_reading = rw e refl

  pub was_refused : (x : Result Counts Refusal) (r : Refusal) → answer_of x ≡ reads.read_answer s ns cs vs → x ≡ Err r → reading s ≡ refusal (code_of r) (line_of r)
  was_refused x r p q = go (reading s) refl (ap answer_of (sym q) ∙ p ∙ by_reading)
    where
      go : (o : Answer Book) → reading s ≡ o → answer_of (Err r) ≡ map_value counts_in (reading s) → reading s ≡ refusal (code_of r) (line_of r)
      go (value b) a d = absurd (not_refused (sym (d ∙ ap (map_value counts_in) a)))
      go (refusal k line) a d = let y = same_refusal (d ∙ ap (map_value counts_in) a) in a ∙ ap₂ refusal (sym y.0) (sym y.1)

  pub was_accepted : (x : Result Counts Refusal) (n : Counts) → answer_of x ≡ reads.read_answer s ns cs vs → x ≡ Ok n → (b : Book) × (reading s ≡ value b)
  was_accepted x n p q = go (reading s) refl (ap answer_of (sym q) ∙ p ∙ by_reading)
    where
      go : (o : Answer Book) → reading s ≡ o → answer_of (Ok n) ≡ map_value counts_in (reading s) → (b : Book) × (reading s ≡ value b)
      go (value b) a d = (b, a)
      go (refusal k line) a d = absurd (not_refused (d ∙ ap (map_value counts_in) a))

  module _ (o : Answer Book) (a : reading s ≡ o) where
    pub names-left : reads.names_of s ns cs vs ≡ reads.names_left o ns
    unfolding reads.names_of
    names-left = rw (e, a) refl

    pub cells_left_lem : reads.cells_of s ns cs vs ≡ reads.cells_left o cs
    unfolding reads.cells_of
    cells_left_lem = rw (e, a) refl

    pub values-left : reads.values_of s ns cs vs ≡ reads.values_left o vs
    unfolding reads.values_of
    values-left = rw (e, a) refl

-- ---- what is known where read has accepted: the book, and the tables as it left them
pub record Accepted (s : List ℕ) (l : Lent) (ns cs : List ℕ) (vs : List ℤ) : Type 0 where
  pub book : Book
  pub read : reading s ≡ value book
  pub ok : valid book ≡ true
  pub names : ns ≡ encode_names book ++ drop name_count l.names
  pub cells : cs ≡ encode_cells book ++ drop cell_count l.cells
  pub values : vs ≡ encode_values book ++ drop value_count l.values

pub accepted : (s : List ℕ) (l : Lent) → validate_long l ≡ true → (x : Result Counts Refusal) (n : Counts) {ns cs : List ℕ} {vs : List ℤ} → answer_of x ≡ reads.read_answer s l.names l.cells l.values → x ≡ Ok n
    → ns ≡ reads.names_of s l.names l.cells l.values → cs ≡ reads.cells_of s l.names l.cells l.values → vs ≡ reads.values_of s l.names l.cells l.values → Accepted s l ns cs vs
accepted s l e x n p q en ec ev =
    let t = (room l e).tables in
    let w = was_accepted s l.names l.cells l.values t x n p q in
    record {
      book = w.0;
      read = w.1;
      ok = is-valid s l e w.0 w.1;
      names = en ∙ names-left s l.names l.cells l.values t (value w.0) w.1;
      cells = ec ∙ cells_left_lem s l.names l.cells l.values t (value w.0) w.1;
      values = ev ∙ values-left s l.names l.cells l.values t (value w.0) w.1;
    }

-- ---- slices that are the same
pub lent_same : {ns ns' cs cs' : List ℕ} {vs vs' : List ℤ} {ps ps' ws ws' ls ls' ks ks' : List ℕ} → ns ≡ ns' → cs ≡ cs' → vs ≡ vs' → ps ≡ ps' → ws ≡ ws' → ls ≡ ls' → ks ≡ ks' → lent ns cs vs ps ws ls ks ≡ lent ns' cs' vs' ps' ws' ls' ks'
lent_same a b c d e f g = λ j. record { names = a j; cells = b j; values = c j; plan = d j; work = e j; lists = f j; lengths = g j }

-- ---- the tables that an accepted book leaves
module _ {s : List ℕ} {l : Lent} {names cells : List ℕ} {values : List ℤ} (t : Accepted s l names cells values) where
  abbrev b : Book
  b = t.book

  admitted : admissible b ≡ true
  admitted = valid-admissible b t.ok

  pub cells_of_lem : take cell_count cells ≡ encode_cells b
  cells_of_lem = ap (take cell_count) t.cells ∙ take_at (encode_cells b) (drop cell_count l.cells) cell_count (cells-length b)

  pub values_of_lem : take value_count values ≡ encode_values b
  values_of_lem = ap (take value_count) t.values ∙ take_at (encode_values b) (drop value_count l.values) value_count (values_length b)

  pub sub_of_lem : sub_class_at (take name_count names) (take cell_count cells) ≡ sub_class_of b
  sub_of_lem = ap₂ sub_class_at (ap (take name_count) t.names ∙ take_at (encode_names b) (drop name_count l.names) name_count (names-length b)) cells_of_lem ∙ sub_class_read b (valid-names b t.ok links) admitted

  pub well_formed_of : well_formed (take cell_count cells) ≡ true
  well_formed_of = ap well_formed cells_of_lem ∙ well_formed_lem b admitted

  same_lists : (r : ℕ) → r < rule_count (encode_cells b) → list_at (sub_class_of b) (encode_cells b) (encode_values b) r ≡ list_of b (rule_of b r)
  same_lists r low = list_read b admitted r (subst (λ n. r < n) (rules-counted b) low)

  pub rows_of : (ls : List ℕ) → with_rows (list_at (sub_class_at (take name_count names) (take cell_count cells)) (take cell_count cells) (take value_count values)) (rule_count (take cell_count cells)) ls ≡ with_rows (λ r. list_of b (rule_of b r)) (length (rules b)) ls
  rows_of ls =
      (λ i. with_rows (list_at (sub_of_lem i) (cells_of_lem i) (values_of_lem i)) (rule_count (cells_of_lem i)) ls)
      ∙ rows_same (list_at (sub_class_of b) (encode_cells b) (encode_values b)) (λ r. list_of b (rule_of b r)) (rule_count (encode_cells b)) ls same_lists
      ∙ ap (λ n. with_rows (λ r. list_of b (rule_of b r)) n ls) (rules-counted b)

  pub lengths_of : (ks : List ℕ) → with_lengths (list_at (sub_class_at (take name_count names) (take cell_count cells)) (take cell_count cells) (take value_count values)) (rule_count (take cell_count cells)) ks ≡ with_lengths (λ r. list_of b (rule_of b r)) (length (rules b)) ks
  lengths_of ks =
      (λ i. with_lengths (list_at (sub_of_lem i) (cells_of_lem i) (values_of_lem i)) (rule_count (cells_of_lem i)) ks)
      ∙ lengths-same (list_at (sub_class_of b) (encode_cells b) (encode_values b)) (λ r. list_of b (rule_of b r)) (rule_count (encode_cells b)) ks same_lists
      ∙ ap (λ n. with_lengths (λ r. list_of b (rule_of b r)) n ks) (rules-counted b)

-- ---- lengths that were kept
pub long_kept : (ns ns' cs cs' : List ℕ) (vs vs' : List ℤ) → long_enough ns cs vs ≡ true → length ns' ≡ length ns → length cs' ≡ length cs → length vs' ≡ length vs → long_enough ns' cs' vs' ≡ true
unfolding long_enough
long_kept ns ns' cs cs' vs vs' e p q r = rw (p, q, r) e
