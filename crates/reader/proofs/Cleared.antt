-- Cleared tables with the built-in names.
use Prim.Native.Nat.{ℕ, ◌≤◌}
use mathlib.Core.Path.{◌≡◌, sym, ap, ◌∙◌}
use mathlib.Core.List.{List, [], ◌++◌}
use lib.IntN.{ℤ, pos}
use lib.ListN.{length, take, drop, replicate}
use lib.Seq.{drop_at, length-take-le}
use Rattle.base.specs.Bytes.{bytes}
use Rattle.base.proofs.Columns.{length-flat}
use Rattle.model.specs.Books.{links, types}
use Rattle.tables.specs.Layout.{name_count, cell_count, value_count}
use Rattle.tables.specs.Sizes.{cleared}
use Rattle.tables.proofs.Cleared.{cleared_again}
use Rattle.encoding.specs.Encode.{name_columns, encode_names}
use Rattle.stores.specs.Lines.{put_name}
use Rattle.stores.proofs.Books.{names-cleared}
use Rattle.reader.specs.Running.{Started}

-- the names that exist from the start, on a cleared table
abbrev pub built_names : List ℕ → List ℕ
built_names ns = put_name types 0 (bytes "langstring") (put_name links 0 (bytes "a") (cleared name_count 0 ns))

pub built : (ns : List ℕ) → built_names ns ≡ encode_names [] ++ drop name_count ns
unfolding cleared
built ns = names-cleared (drop name_count ns)

pub built_past : (ns : List ℕ) → drop name_count (built_names ns) ≡ drop name_count ns
unfolding encode_names
built_past ns = ap (drop name_count) (built ns) ∙ drop_at (encode_names []) (drop name_count ns) name_count (length-flat 0 (name_columns []))

pub started : (ns ns₁ cs cs₁ : List ℕ) (vs vs₁ : List ℤ) → ns₁ ≡ built_names ns → cs₁ ≡ cleared cell_count 0 cs → vs₁ ≡ cleared value_count (pos 0) vs → Started ns₁ cs₁ vs₁
started ns ns₁ cs cs₁ vs vs₁ e f g =
    record {
      names-start = e ∙ built ns ∙ ap (λ (t : List ℕ). encode_names [] ++ t) (sym (ap (drop name_count) e ∙ built_past ns));
      cells-start = cleared_again cell_count 0 cs cs₁ f;
      values-start = cleared_again value_count (pos 0) vs vs₁ g;
    }

-- zeros over the front of a table that is long enough
pub zeros_over : {A : Type 0} {front : List A} (n : ℕ) (z : A) (l : List A) → n ≤ length l → front ≡ replicate (length (take n l)) z → front ++ drop n l ≡ cleared n z l
unfolding cleared
zeros_over {A} n z l h e = ap (λ (f : List A). f ++ drop n l) (e ∙ ap (λ (k : ℕ). replicate k z) (length-take-le n l h))
