use Prim.Native.Nat.{suc, ◌+◌, ◌-◌, ℕ}
use mathlib.Core.Path.{◌≡◌, refl, sym, ap, ◌∙◌}
use mathlib.Core.List.{List, ◌∷◌}
use native.Mathlib.Omega.{arith}
use native.Mathlib.Nat.{add-zero}
use lib.ListN.{get_or, length-set}
use lib.Seq.{drop-set-lt}
use Rattle.model.specs.Books.{Book}
use Rattle.model.specs.Limits.{max_items}
use Rattle.tables.specs.Layout.{cell_count, items}
use Rattle.stores.specs.Entries.{put_items}
use Rattle.grammar.specs.Syntax.{used}
use Rattle.grammar.specs.Reading.{Begun, Readers, Read, got, refused, and_then, no_readers, arg_at, list_at}
use Rattle.std.proofs.lemmas.Result.{err_from_is_err_and}
use Rattle.std.specs.Prelude.{Ok}
use Rattle.itemreader.specs.Answers.{pool_of, same}
use Rattle.itemreader.specs.Held.{Held}
use Rattle.itemreader.proofs.Items.{number_got, item_refused, counted-less, count_limit, list_end, list_refused, list_full, list_more, more-answer, more-listed}
use Rattle.itemreader.proofs.+read_list.Goals as goal

-- a list's names are read as they are anywhere
abbrev none : Begun
none = record { forms = 0; paths = 0; items = 0 }

pub byte-requires : goal.byte-requires
byte-requires t c = tt

pub returns-then-byte-ne32 : goal.returns-then-byte-ne32
unfolding put_items
returns-then-byte-ne32 t c =
    let s = c.args in
    let n : get_or s.book.now s.at 0 ≡ 32 → ⊥ = λ e. c.if-byte-ne32.true (c.byte.ensures ∙ e) in record { value = λ a h. rw (list_end s.book.now a (pool_of s.pool) s.at (max_items - s.i) n) (ap (λ (k : ℕ). Ok (k, s.at)) (sym (add-zero s.i))); listed = λ a h. rw (list_end s.book.now a (pool_of s.pool) s.at (max_items - s.i) n) refl; counted = (omega arith, omega arith, c.requires.0); cells_unchanged = refl }

pub returns-in_err-k : goal.returns-in_err-k
returns-in_err-k t c =
    let s = c.args in
    let z = sym c.byte.ensures ∙ c.if-byte-ne32.false in
    let p = err_from_is_err_and c.from_residual.result c.from_residual.ensures.1 in
    let R : Book → Readers = no_readers s.book.now in
    let x = λ (a : Book) (h : Held s.pools.names.now s.pools.counts a). item_refused same (arg_at s.book.now a (R a) (used (pool_of s.pool)) none s.at) c.in_err-k.field-0.0 (c.in_err-k.ensures.reads a h (R a) none) in
    record {
      value = λ a h. let (k, y, e) = x a h in rw (p.1, p.2, e, list_refused s.book.now a (pool_of s.pool) s.at z (R a) none (max_items - s.i) k y);
      listed = λ a h. let (k, y, e) = x a h in rw (list_refused s.book.now a (pool_of s.pool) s.at z (R a) none (max_items - s.i) k y) tt;
      counted = rw p.1 tt;
      cells_unchanged = refl;
    }

pub returns-then-i-ge-MAX_ITEMS : goal.returns-then-i-ge-MAX_ITEMS
returns-then-i-ge-MAX_ITEMS t c =
    let s = c.args in
    let z = sym c.byte.ensures ∙ c.if-byte-ne32.false in
    let f : max_items - s.i ≡ 0 = omega (arith, c.if-i-ge-MAX_ITEMS.true) in
    let e : (a : Book) → Held s.pools.names.now s.pools.counts a → list_at s.book.now a (pool_of s.pool) (max_items - s.i) s.at ≡ refused 7 =
    λ a h. list_full s.book.now a (pool_of s.pool) s.at z (no_readers s.book.now a) none c.in_ok-k.k c.in_ok-k.next (number_got (arg_at s.book.now a (no_readers s.book.now a) (used (pool_of s.pool)) none s.at) c.in_ok-k.k c.in_ok-k.next (c.in_ok-k.ensures.reads a h (no_readers s.book.now a) none)) (max_items - s.i) f in
    record { value = λ a h. rw (e a h); listed = λ a h. rw (e a h) tt; counted = tt; cells_unchanged = refl }

pub overflow_cast-cells : goal.overflow_cast-cells
overflow_cast-cells t c =
    let s = c.args in
    let b = c.in_ok-k.ensures.below.0 in
    let l = count_limit s.pools.counts (pool_of s.pool) s.pools.limits in
    omega arith

pub read_list-requires : goal.read_list-requires
read_list-requires t c =
    let s = c.args in
    let m = c.decreases in
    let b = c.in_ok-k.ensures.below.1 in
    let l = c.if-i-ge-MAX_ITEMS.false in
    (omega arith, (b, simp length-set c.requires.1, omega arith))

pub shape_of-cells : goal.shape_of-cells
shape_of-cells t c =
    let s = c.args in
    omega (arith, c.read_list.auto.cells, length-set s.cells.now (items + s.i) c.in_ok-k.k)

pub returns : goal.returns
returns t c =
    let s = c.args in
    let z = sym c.byte.ensures ∙ c.if-byte-ne32.false in
    let m : max_items - s.i ≡ suc (max_items - (s.i + 1)) = omega (arith, c.if-i-ge-MAX_ITEMS.false) in
    let rest : Book → Read (List ℕ) = λ a. list_at s.book.now a (pool_of s.pool) (max_items - (s.i + 1)) c.in_ok-k.next in
    let e : (a : Book) → Held s.pools.names.now s.pools.counts a → list_at s.book.now a (pool_of s.pool) (max_items - s.i) s.at ≡ and_then (rest a) (λ ks last. got (c.in_ok-k.k ∷ ks) last) =
    λ a h. list_more s.book.now a (pool_of s.pool) s.at z (no_readers s.book.now a) none c.in_ok-k.k c.in_ok-k.next (number_got (arg_at s.book.now a (no_readers s.book.now a) (used (pool_of s.pool)) none s.at) c.in_ok-k.k c.in_ok-k.next (c.in_ok-k.ensures.reads a h (no_readers s.book.now a) none)) (max_items - s.i) (max_items - (s.i + 1)) m in record { value = λ a h. rw (e a h) (c.read_list.ensures.value a h ∙ more-answer s.i c.in_ok-k.k (rest a)); listed = λ a h. rw (e a h) (more-listed s.i c.in_ok-k.k (rest a) s.cells.now c.read_list.new.cells (c.read_list.ensures.listed a h)); counted = counted-less (s.i + 1) s.i _ _ c.read_list.result (omega arith) c.read_list.ensures.counted; cells_unchanged = c.read_list.ensures.cells_unchanged ∙ drop-set-lt cell_count s.cells.now (items + s.i) c.in_ok-k.k (omega (arith, c.if-i-ge-MAX_ITEMS.false)) }
