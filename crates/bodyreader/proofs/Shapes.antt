-- A shape line: what has ended above it, and what is stored for it.
use Prim.Native.Nat.{ℕ, ◌+◌, ◌*◌, ◌-◌, ◌≤◌, ◌<◌}
use mathlib.Core.Path.{◌≡◌, refl, sym, ap, ◌∙◌, subst}
use mathlib.Core.List.{List}
use native.Mathlib.Nat.{add-zero}
use native.Mathlib.Omega.{arith}
use lib.IntN.{ℤ}
use lib.ListN.{drop, set}
use Rattle.model.specs.Shapes.{Shape}
use Rattle.model.specs.Books.{Name, Line, shape, Book, shapes, new_names, joins, new_triples, new_shapes, new_rules}
use Rattle.model.specs.Sizes.{sum_over}
use Rattle.model.specs.Valid.{capacity}
use Rattle.model.specs.Limits.{max_shapes, name_bytes}
use Rattle.tables.specs.Layout.{roots, cell_count, value_count, name_count}
use Rattle.grammar.specs.Syntax.{new, form}
use Rattle.grammar.specs.Reading.{Read, refused, Begun, after, begun_above}
use Rattle.stores.specs.Entries.{shape_cells, shape_values}
use Rattle.encoding.specs.Encode.{pool_base}
use Rattle.stores.specs.Lines.{put_name, line_names, line_cells, line_values}
use Rattle.model.specs.declared.Counts.{Counts}
use Rattle.itemreader.specs.Held.{Held}
use Rattle.leafreader.specs.declared.Ended.{Ended}
use Rattle.leafreader.specs.Forms.{begun_of, ended_of}
use Rattle.std.specs.Prelude.{Result, Err, IsErrAnd}
use Rattle.model.specs.Refusals.{fault_of}
use Rattle.model.specs.declared.Fault.{Fault}
use Rattle.itemreader.proofs.Items.{passed_on}
use Rattle.linereader.specs.Storing.{counted, Done}
use Rattle.bodyreader.specs.Storing.{shaped, FormHeld}

-- what has ended above a line, as the code counts it
abbrev pub ended_now : Counts → Ended
ended_now c = record { forms = c.forms; paths = c.paths; items = c.items }

module _ (ns : List ℕ) (c : Counts) (a : Book) (h : Held ns c a) where
  pub ended-above : begun_of (ended_now c) ≡ begun_above a
  unfolding begun_above
  ended-above = let f = h.forms_counted in let p = h.paths_counted in let i = h.items_counted in cc

  pub form_held : (φ : Shape) (n : Ended) (cs cs' : List ℕ) (vs vs' : List ℤ) → n ≡ ended_of (after form φ (begun_of (ended_now c))) → cs' ≡ shape_cells (begun_of (ended_now c)) φ cs → vs' ≡ shape_values (begun_of (ended_now c)) φ vs → drop cell_count cs' ≡ drop cell_count cs → drop value_count vs' ≡ drop value_count vs → FormHeld a φ n cs cs' vs vs'
  form_held φ n cs cs' vs vs' e f g i j =
      record {
        ended = e ∙ ap (λ (b : Begun). ended_of (after form φ b)) ended-above;
        cells = f ∙ ap (λ (b : Begun). shape_cells b φ cs) ended-above;
        values = g ∙ ap (λ (b : Begun). shape_values b φ vs) ended-above;
        cells-past = i;
        values-past = j;
      }

  -- the name of a shape begins no entry
  pub begun_after : (w : Name) → after (new shapes) w (begun_above a) ≡ begun_of (ended_now c)
  unfolding after
  begun_after w = sym ended-above

  module _ (w : Name) (φ : Shape) where
    counted-shape : shaped (ended_of (after form φ (begun_of (ended_now c)))) c ≡ counted (shape w φ) c
    unfolding after new_names joins new_triples new_shapes new_rules sum_over
    counted-shape = simp add-zero

    pub shape-counted : (n : Ended) → n ≡ ended_of (after form φ (begun_above a)) → shaped n c ≡ counted (shape w φ) c
    shape-counted n e = ap (λ (m : Ended). shaped m c) (e ∙ ap (λ (b : Begun). ended_of (after form φ b)) (sym ended-above)) ∙ counted-shape

    pub shape-names : line_names a (shape w φ) ns ≡ put_name shapes c.shapes w ns
    unfolding line_names
    shape-names = ap (λ (k : ℕ). put_name shapes k w ns) (sym (h.names_counted shapes))

    module _ (n : Ended) (cs cs' : List ℕ) (vs vs' : List ℤ) (f : FormHeld a φ n cs cs' vs vs') where
      pub shape-roots : set cs' (roots + c.shapes) (n.forms - 1) ≡ line_cells a (shape w φ) cs
      unfolding line_cells
      shape-roots = rw (f.cells, h.names_counted shapes, f.ended)

      pub shape-values : vs' ≡ line_values a (shape w φ) vs
      unfolding line_values
      shape-values = f.values

-- a line that is refused after some of it was stored
pub done_past : (a : Book) (c : Counts) (x : Read Line) (r : Result (Counts × ℕ) Fault) (e : Fault) (k : ℕ) (ns cs cs' : List ℕ) (vs vs' : List ℤ) → x ≡ refused k → e ≡ fault_of k → IsErrAnd r (λ y. y ≡ e) → drop cell_count cs' ≡ drop cell_count cs → drop value_count vs' ≡ drop value_count vs → Done a c x r ns ns cs cs' vs vs'
done_past a c x r e k ns cs cs' vs vs' p q h f g = subst (λ (y : Read Line). Done a c y r ns ns cs cs' vs vs') (sym p) (passed_on r e h ∙ ap Err q, refl, f, g)

-- the place of a new shape
pub shape-place : (n : ℕ) → n < max_shapes → pool_base shapes + n * name_bytes + name_bytes ≤ name_count
unfolding pool_base
shape-place n h = omega arith

pub shape-room : (n : ℕ) → n < capacity shapes → n < max_shapes
unfolding capacity
shape-room n h = h
