-- A line by its word.
use Prim.Native.Nat.{ℕ}
use mathlib.Core.Path.{◌≡◌, sym, ap, subst}
use mathlib.Core.List.{List}
use mathlib.Core.Bool.{false}
use lib.ListN.{get_or}
use lib.IntN.{ℤ}
use Rattle.model.specs.Books.{Line, Book}
use Rattle.grammar.specs.Syntax.{link_l, line_family}
use Rattle.grammar.specs.Reading.{max_within, Read, refused, and_then, readers_at, line_room, begun_above, line_at}
use Rattle.model.specs.declared.Counts.{Counts}
use Rattle.itemreader.specs.Answers.{head_at}
use Rattle.itemreader.specs.Words.{words_of}
use Rattle.itemreader.proofs.Heads.{bracket-bare, bracket_refused, bracket-word}
use Rattle.std.specs.Prelude.{Some, None, Result, Ok, Err}
use Rattle.model.specs.Refusals.{fault_of}
use Rattle.model.specs.declared.Fault.{Fault}
use Rattle.linereader.specs.Storing.{end_line, line_body, Done}

-- ---- the word of a line
module _ (s : List ℕ) (a : Book) (at : ℕ) where
  pub line-bare : head_at s (words_of line_family) false false at ≡ Ok None → line_at s a at ≡ refused 2
  unfolding line_at
  line-bare e = ap (λ (r : Read Line). and_then r (end_line s)) (bracket-bare s a line_family (readers_at s a max_within) false false (line_room s a) (refused 2) (begun_above a) at e)

  pub line-unknown : (e : Fault) → head_at s (words_of line_family) false false at ≡ Err e → (k : ℕ) × (line_at s a at ≡ refused k) × (e ≡ fault_of k)
  unfolding line_at
  line-unknown e p = let (k, x, q) = bracket_refused s a line_family (readers_at s a max_within) false false (line_room s a) (refused 2) (begun_above a) at e p in (k, ap (λ (r : Read Line). and_then r (end_line s)) x, q)

  pub line_word_lem : (k end : ℕ) → head_at s (words_of line_family) false false at ≡ Ok (Some (k, end)) → line_at s a at ≡ line_body s a (get_or line_family.codes k link_l) end
  unfolding line_at line_body
  line_word_lem k end e = ap (λ (r : Read Line). and_then r (end_line s)) (bracket-word s a line_family (readers_at s a max_within) false false (line_room s a) (refused 2) (begun_above a) at k end e).1

-- the line of a word by its number
pub done_coded : (s : List ℕ) (a : Book) (c : Counts) (k j : ℕ) (at : ℕ) (r : Result (Counts × ℕ) Fault) (ns ns' cs cs' : List ℕ) (vs vs' : List ℤ) → k ≡ j → Done a c (line_body s a (get_or line_family.codes j link_l) at) r ns ns' cs cs' vs vs' → Done a c (line_body s a (get_or line_family.codes k link_l) at) r ns ns' cs cs' vs vs'
done_coded s a c k j at r ns ns' cs cs' vs vs' e d = subst (λ (i : ℕ). Done a c (line_body s a (get_or line_family.codes i link_l) at) r ns ns' cs cs' vs vs') (sym e) d
