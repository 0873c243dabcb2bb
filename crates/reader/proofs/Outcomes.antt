-- What the lines of a book left, and the answer for it.
use Prim.Native.Nat.{ℕ, zero, suc, ◌≤◌, ◌<◌}
use mathlib.Core.Path.{◌≡◌, refl, sym, ap, ◌∙◌, subst}
use mathlib.Core.List.{List, []}
use mathlib.Core.Bool.{Bool, true, cond}
use mathlib.Core.Logic.{⊎_elim}
use native.Mathlib.Omega.{arith}
use lib.IntN.{ℤ, pos}
use lib.ListN.{length, drop}
use borrow.Author.Tests.{lt-ltb, le-ltb}
use Rattle.model.specs.Answers.{Answer, value, refusal, refusal_of, map_value}
use Rattle.model.specs.Limits.{max_bytes}
use Rattle.model.specs.Books.{Book, nodes, links, types, langs, shapes}
use Rattle.model.specs.Sizes.{counts_in, count_list}
use Rattle.model.specs.Valid.{capacity, admissible}
use Rattle.model.proofs.Lines.{names-within, facts_within, rules-within, forms-within, paths-within, items-within}
use Rattle.tables.specs.Layout.{name_count, cell_count, value_count}
use Rattle.encoding.specs.Encode.{counts_of}
use Rattle.grammar.specs.Reading.{lines_from, reading}
use Rattle.grammar.proofs.Books.{valid-admissible, reading_sound}
use Rattle.grammar.proofs.Grounds.{ground-numbered}
use Rattle.grammar.proofs.GroundsBooks.{refusal_ground}
use Rattle.tables.specs.Sizes.{cleared}
use Rattle.stores.specs.Lines.{lines_names, lines_cells, lines_values, put_counts, names_after, cells_after, values_after}
use Rattle.stores.proofs.Books.{names-after, cells-after, values-after}
use Rattle.model.specs.declared.Counts.{Counts}
use Rattle.itemreader.specs.Held.{Limits}
use Rattle.linereader.specs.Storing.{CountsFit}
use Rattle.std.specs.Prelude.{Result, Ok, Err}
use Rattle.model.specs.Refusals.{fault_of, refusal_at}
use Rattle.model.proofs.Refusals.{fault_refusal}
use Rattle.model.specs.declared.Refusal.{Refusal}
use Rattle.reader.specs.Answers.{names_left, cells_left, values_left}
use Rattle.reader.specs.Running.{Ran}
use Rattle.tables.proofs.Cleared.{cleared-past, cleared-same}
use Rattle.reader.proofs.Cleared.{built_names, built_past}

-- ---- the counts of a book within the limits
pub counts_limits : (b : Book) → admissible b ≡ true → Limits (counts_in b)
unfolding capacity
counts_limits b v =
    record {
      node_limit = names-within nodes b v;
      link_limit = names-within links b v;
      type_limit = names-within types b v;
      lang_limit = names-within langs b v;
      shape_limit = names-within shapes b v;
    }

pub counts-fit : (b : Book) → admissible b ≡ true → CountsFit (counts_in b)
counts-fit b v =
    record {
      fact_limit = facts_within b v;
      rule_limit = rules-within b v;
      form_limit = forms-within b v;
      path_limit = paths-within b v;
      item_limit = items-within b v;
    }

-- ---- a text by its length
pub reading-long : (s : List ℕ) → max_bytes < length s → reading s ≡ refusal 1 0
unfolding reading
reading-long s h = ap (λ (t : Bool). cond t (refusal 1 0) (lines_from s (length s) 0 0 [])) (lt-ltb max_bytes (length s) h)

reading-short : (s : List ℕ) → length s ≤ max_bytes → reading s ≡ lines_from s (length s) 0 0 []
unfolding reading
reading-short s h = ap (λ (t : Bool). cond t (refusal 1 0) (lines_from s (length s) 0 0 [])) (le-ltb max_bytes (length s) h)

-- the refusals of a text that is not too long are those from 2 to 7
refusal_numbered : (s : List ℕ) → length s ≤ max_bytes → (r k : ℕ) → reading s ≡ refusal r k → (2 ≤ r) × (r ≤ 7)
refusal_numbered s h r k e = ⊎_elim
    (λ t. absurd (let l = t.2 in let z : ⊥ = omega arith in z))
    (λ t. let G = t.1 in let m = ground-numbered s G.above G.at G.ground in (m.least, m.greatest))
    (refusal_ground s r k e)

-- the refusal of a line by its number
pub refusal_by_fault : (k line : ℕ) → 2 ≤ k → k ≤ 7 → ◌≡◌ {A = Answer Counts} (refusal_of (refusal_at (fault_of k) line)) (refusal k line)
refusal_by_fault k line l h = fault_refusal k line l h

-- ---- the lines of a book have been read, from tables that were cleared and held the built-in names
module _ (s : List ℕ) (h : length s ≤ max_bytes) (r : Result Counts Refusal) (ns ns₁ ns₂ cs cs₁ cs₂ : List ℕ) (vs vs₁ vs₂ : List ℤ) (e : ns₁ ≡ built_names ns) (f : cs₁ ≡ cleared cell_count 0 cs) (g : vs₁ ≡ cleared value_count (pos 0) vs) where
  -- an accepted book: the counts are still to be stored
  pub record Whole (n : Counts) : Type 0 where
    pub limits : Limits n
    pub fits : CountsFit n
    pub answer : value n ≡ map_value counts_in (reading s)
    pub names : ns₂ ≡ names_left (reading s) ns
    pub cells : put_counts 0 (count_list n) cs₂ ≡ cells_left (reading s) cs
    pub values : vs₂ ≡ values_left (reading s) vs

  book_read : (n : Counts) (b : Book) → lines_from s (length s) 0 0 [] ≡ value b → n ≡ counts_in b → ns₂ ≡ lines_names [] b ns₁ → cs₂ ≡ lines_cells [] b cs₁ → vs₂ ≡ lines_values [] b vs₁ → Whole n
  unfolding names_after cells_after values_after counts_of
  book_read n b o q i j k =
      let a : reading s ≡ value b = reading-short s h ∙ o in
      let v = (reading_sound s b a).0 in
      let ok = valid-admissible b v in
      record {
        limits = subst Limits (sym q) (counts_limits b ok);
        fits = subst CountsFit (sym q) (counts-fit b ok);
        answer = ap value q ∙ ap (map_value counts_in) (sym a);
        names = i ∙ ap (lines_names [] b) e ∙ names-after b v ns ∙ ap (λ (o : Answer Book). names_left o ns) (sym a);
        cells = ap (λ (l : List ℕ). put_counts 0 l cs₂) (ap count_list q) ∙ ap (put_counts 0 (counts_of b)) (j ∙ ap (lines_cells [] b) f) ∙ cells-after b v cs ∙ ap (λ (o : Answer Book). cells_left o cs) (sym a);
        values = k ∙ ap (lines_values [] b) g ∙ values-after b v vs ∙ ap (λ (o : Answer Book). values_left o vs) (sym a);
      }

  -- a refused one: the tables are still to be cleared
  pub record Turned (x : Refusal) : Type 0 where
    pub answer : refusal_of x ≡ map_value counts_in (reading s)
    pub names : cleared name_count 0 ns₂ ≡ names_left (reading s) ns
    pub cells : cleared cell_count 0 cs₂ ≡ cells_left (reading s) cs
    pub values : cleared value_count (pos 0) vs₂ ≡ values_left (reading s) vs

  book_turned : (x : Refusal) (k line : ℕ) → x ≡ refusal_at (fault_of k) line → lines_from s (length s) 0 0 [] ≡ refusal k line → drop name_count ns₂ ≡ drop name_count ns₁ → drop cell_count cs₂ ≡ drop cell_count cs₁ → drop value_count vs₂ ≡ drop value_count vs₁ → Turned x
  book_turned t k line q o x y z =
      let a : reading s ≡ refusal k line = reading-short s h ∙ o in
      let m = refusal_numbered s h k line a in
      record {
        answer = ap refusal_of q ∙ refusal_by_fault k line m.0 m.1 ∙ ap (map_value counts_in) (sym a);
        names = cleared-same name_count 0 ns₂ ns (x ∙ ap (drop name_count) e ∙ built_past ns) ∙ ap (λ (o : Answer Book). names_left o ns) (sym a);
        cells = cleared-same cell_count 0 cs₂ cs (y ∙ ap (drop cell_count) f ∙ cleared-past cell_count 0 cs) ∙ ap (λ (o : Answer Book). cells_left o cs) (sym a);
        values = cleared-same value_count (pos 0) vs₂ vs (z ∙ ap (drop value_count) g ∙ cleared-past value_count (pos 0) vs) ∙ ap (λ (o : Answer Book). values_left o vs) (sym a);
      }

  -- by the answer of the loop over lines
  module _ (d : Ran (lines_from s (length s) 0 0 []) r ns₁ ns₂ cs₁ cs₂ vs₁ vs₂) where
    pub was_read : (n : Counts) → r ≡ Ok n → Whole n
    was_read n q = go (lines_from s (length s) 0 0 []) refl d
      where
        go : (o : Answer Book) → lines_from s (length s) 0 0 [] ≡ o → Ran o r ns₁ ns₂ cs₁ cs₂ vs₁ vs₂ → Whole n
        go (value b) p d = let x = d.0 in book_read n b p (cc) d.1 d.2 d.3
        go (refusal k line) p d = let x = d.0 in let z : ◌≡◌ {A = ℕ} 0 1 = cc in absurd (omega arith)

    pub was_turned : (t : Refusal) → r ≡ Err t → Turned t
    was_turned t q = go (lines_from s (length s) 0 0 []) refl d
      where
        go : (o : Answer Book) → lines_from s (length s) 0 0 [] ≡ o → Ran o r ns₁ ns₂ cs₁ cs₂ vs₁ vs₂ → Turned t
        go (value b) p d = let x = d.0 in let z : ◌≡◌ {A = ℕ} 0 1 = cc in absurd (omega arith)
        go (refusal j i) p d = let x = d.0 in let y : t ≡ refusal_at (fault_of j) i = cc in book_turned t j i y p d.1 d.2 d.3
