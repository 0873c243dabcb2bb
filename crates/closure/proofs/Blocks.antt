-- Rows closed block by block: the laws of `take_block`, `spread_block`, `close_block`, `pass` and `close`.
use Prim.Native.Nat.{ℕ, ◌+◌, ◌*◌, ◌/◌, ◌%◌, ◌≤◌, ◌<◌, min}
use mathlib.Core.Bool.{Bool, true, false, not, ◌&&◌, ◌||◌, and-false, or-false}
use mathlib.Core.List.{List}
use mathlib.Core.Logic.{◌⊎◌, inl, inr, ⊎_elim}
use mathlib.Core.Path.{◌≡◌, refl, sym, ap, ap₂, ◌∙◌}
use native.Mathlib.Omega.{arith}
use lib.Bits.{bit_and}
use lib.Dec.{eqb, leb, ltb}
use lib.ListN.{length, get_or}
use borrow.Author.Tests.{eq-eqb, eqb-true, lt-ltb, le-ltb, ltb-true, leb-true, not-true}
use Rattle.std.specs.Int.{div_ceil}
use Rattle.base.specs.Bounded.{size}
use Rattle.base.proofs.Bounded.{some_ext}
use Rattle.base.proofs.Bools.{bool_cases, and_left, and_right, and_both, or_cases, same_test, never_both, or_left, or_right}
use Rattle.nodeset.specs.Words.{bit, has, words_of}
use Rattle.nodeset.proofs.Bits.{bit-bit_and, bit_zero}
use Rattle.nodeset.proofs.Sets.{has-at, has_of, ltb-more}
use Rattle.model.specs.Limits.{max_nodes}
use Rattle.model.specs.Repeats.{plus}
use Rattle.model.proofs.Repeats.{plus-contains, plus-least, plus-trans}
use Rattle.closure.specs.Rows.{Small, rows_of, leads, Within, taken}
use Rattle.closure.specs.Closing.{gained, by_node, by_block, across, in_row, in_first, Inner, Closing, RowsRoom, IsBlock, Blocked, Busy}
use Rattle.closure.proofs.Rows.{rows_ext, leads-node, or_join}
use Rattle.closure.proofs.Gains.{length-gained, leads-gained, gained_ext, gained-none, gained-more, gained-within, taken-gained}
use Rattle.closure.proofs.Through.{block_at, block_some, node-low, node-inner, block_low, through-all}
use Rattle.closure.proofs.Digits.{leads-word, fewer_digits}

-- ---- row v and a block: its nodes that row v has and that are in `left` no longer are taken in
abbrev pub past : List ℕ → ℕ → ℕ → ℕ → Bool
past rows v left u = leads rows v u && not (bit left (u % 64))

pub record Left (rows : List ℕ) (v j e left : ℕ) (ws : List ℕ) : Type 0 where
  pub named : (d : ℕ) → d < 64 → bit left d ≡ true → leads rows v (64 * j + d) ≡ true
  pub done : ws ≡ gained rows (in_row v (λ u w. by_block (past rows v left) (leads rows) (64 * j) e w))

past_old : (rows : List ℕ) (v left u : ℕ) → past rows v left u ≡ true → leads rows v u ≡ true
past_old rows v left u h = and_left (leads rows v u) (not (bit left (u % 64))) h

past_gone : (rows : List ℕ) (v left u : ℕ) → past rows v left u ≡ true → bit left (u % 64) ≡ false
past_gone rows v left u h = not-true (bit left (u % 64)) (and_right (leads rows v u) (not (bit left (u % 64))) h)

past_is : (rows : List ℕ) (v left u : ℕ) → leads rows v u ≡ true → bit left (u % 64) ≡ false → past rows v left u ≡ true
past_is rows v left u f g = and_both (leads rows v u) (not (bit left (u % 64))) f (ap not g)

module _ (n j e : ℕ) (rows : List ℕ) (room : RowsRoom n rows) (block : IsBlock n (64 * j) e) (closed : Blocked n (64 * j) e rows) (v : ℕ) (lv : v < n) where
  -- the word of row v that names the block
  named-word : (u : ℕ) → 64 * j ≤ u → u < e → leads rows v u ≡ bit (get_or rows (16 * v + j) 0) (u % 64)
  named-word u au ue = leads-word rows v u ∙ ap (λ (i : ℕ). bit (get_or rows (16 * v + i) 0) (u % 64)) (let z : u / 64 ≡ j = omega (arith, block.least) in z)

  pub left-start : (x busy : ℕ) → Small rows → Busy (64 * j) e busy rows → x ≡ get_or rows (16 * v + j) 0 → Left rows v j e (bit_and x busy) rows
  left-start x busy small lead ex = record {
    named = λ d ld h.
        leads-word rows v (64 * j + d)
        ∙ ap₂ (λ (i k : ℕ). bit (get_or rows (16 * v + i) 0) k) (let z : (64 * j + d) / 64 ≡ j = omega arith in z) (let z : (64 * j + d) % 64 ≡ d = omega arith in z)
        ∙ ap (λ (y : ℕ). bit y d) (sym ex) ∙ and_left (bit x d) (bit busy d) (sym (bit-bit_and x busy d) ∙ h);
    done = gained-none rows small (in_row v (λ u w. by_block (past rows v (bit_and x busy)) (leads rows) (64 * j) e w)) (λ u w lw. ap (λ (b : Bool). eqb u v && b) (none w lw) ∙ and-false (eqb u v));
  }
    where
      none : (w : ℕ) → w < max_nodes → by_block (past rows v (bit_and x busy)) (leads rows) (64 * j) e w ≡ false
      none w lw = bool_cases (λ b. by_block (past rows v (bit_and x busy)) (leads rows) (64 * j) e w ≡ b → b ≡ false) (by_block (past rows v (bit_and x busy)) (leads rows) (64 * j) e w)
          (λ _ h.
          let (u, au, ue, f, g) = block_some (past rows v (bit_and x busy)) (leads rows) (64 * j) e w h in
          let k : bit x (u % 64) ≡ true = ap (λ (y : ℕ). bit y (u % 64)) ex ∙ sym (named-word u au ue) ∙ past_old rows v (bit_and x busy) u f in
          let i : bit busy (u % 64) ≡ false = ap (λ (b : Bool). b && bit busy (u % 64)) (sym k) ∙ sym (bit-bit_and x busy (u % 64)) ∙ past_gone rows v (bit_and x busy) u f in
          absurd (never_both g (lead u w au ue i lw)))
          (λ _ h. refl) refl

  -- a row of the block leads where it led, also if it is row v
  still : {ws : List ℕ} (left : ℕ) → ws ≡ gained rows (in_row v (λ u w. by_block (past rows v left) (leads rows) (64 * j) e w)) → (k w : ℕ) → 64 * j ≤ k → k < e → w < max_nodes → leads ws k w ≡ leads rows k w
  still left q k w ak ke lw =
      leads-gained rows (in_row v (λ u w. by_block (past rows v left) (leads rows) (64 * j) e w)) q k w lw (omega (arith, room.words, block.end))
      ∙ same_test (leads rows k w || (eqb k v && more)) (leads rows k w)
      (λ h. ⊎_elim (λ f. f) (λ f.
      let i : k ≡ v = eqb-true k v (and_left (eqb k v) more f) in
      let (u, au, ue, g, m) = block_some (past rows v left) (leads rows) (64 * j) e w (and_right (eqb k v) more f) in
      closed.inner k u ak ke au ue w (leads-node n closed.within u w lw m).1 (ap (λ (x : ℕ). leads rows x u) i ∙ past_old rows v left u g) m) (or_cases (leads rows k w) (eqb k v && more) h))
      (λ h. or_left (leads rows k w) (eqb k v && more) h)
    where
      more : Bool
      more = by_block (past rows v left) (leads rows) (64 * j) e w

  -- a node that is left is one of the block
  pub left-node : {left : ℕ} {ws : List ℕ} → Left rows v j e left ws → (d : ℕ) → d < 64 → bit left d ≡ true → 64 * j + d < e
  left-node l d ld h = block.whole (64 * j + d) (leads-node n closed.within v (64 * j + d) (omega (arith, block.from, block.end, room.few)) (l.named d ld h)).1 (omega arith)

  -- the row of a node that is left is taken in: what it names of the block is left no longer
  module _ {left : ℕ} (left' d : ℕ) {ws words : List ℕ} (l : Left rows v j e left ws) (ld : d < 64) (h : bit left d ≡ true) (copied : words ≡ words_of (leads ws (64 * j + d)) 16)
      (fewer : (y : ℕ) → bit left' y ≡ (bit left y && not (bit (get_or words j 0) y || eqb y d))) where
    abbrev k : ℕ
    k = 64 * j + d

    row : (w : ℕ) → w < max_nodes → has words w ≡ leads rows k w
    row w lw = has_of (leads ws k) 16 copied w (omega arith) ∙ still left l.done k w (omega arith) (left-node l d ld h) lw

    -- in left' no longer, and in left: k itself, or a node that it leads to
    gone : (u : ℕ) → 64 * j ≤ u → u < e → bit left (u % 64) ≡ true → bit left' (u % 64) ≡ false → (leads rows k u ≡ true) ⊎ (u ≡ k)
    gone u au ue f g = ⊎_elim
        (λ m. inl (sym (row u (omega (arith, block.end, room.few))) ∙ ap (has words) (let z : u ≡ j * 64 + u % 64 = omega (arith, block.least) in z) ∙ has-at words j (u % 64) (omega arith) ∙ m))
        (λ m. inr (let z : u % 64 ≡ d = eqb-true (u % 64) d m in omega (arith, block.least)))
        (or_cases (bit (get_or words j 0) (u % 64)) (eqb (u % 64) d) (borrow.Author.Tests.not-false (bit (get_or words j 0) (u % 64) || eqb (u % 64) d) (ap (λ (b : Bool). b && not (bit (get_or words j 0) (u % 64) || eqb (u % 64) d)) (sym f) ∙ sym (fewer (u % 64)) ∙ g)))

    less : (y : ℕ) → bit left' y ≡ true → bit left y ≡ true
    less y f = and_left (bit left y) (not (bit (get_or words j 0) y || eqb y d)) (sym (fewer y) ∙ f)

    off : (y : ℕ) → bit left y ≡ false → bit left' y ≡ false
    off y f = fewer y ∙ ap (λ (b : Bool). b && not (bit (get_or words j 0) y || eqb y d)) f

    pub left_drops : bit left' d ≡ false
    left_drops = fewer d ∙ ap (λ (b : Bool). bit left d && not b) (or_right (bit (get_or words j 0) d) (eqb d d) (eq-eqb d d refl)) ∙ and-false (bit left d)

    -- what row v gains
    sum : (w : ℕ) → w < max_nodes → (by_block (past rows v left) (leads rows) (64 * j) e w || leads rows k w) ≡ by_block (past rows v left') (leads rows) (64 * j) e w
    sum w lw = same_test (by_block (past rows v left) (leads rows) (64 * j) e w || leads rows k w) (by_block (past rows v left') (leads rows) (64 * j) e w) there back
      where
        there : (by_block (past rows v left) (leads rows) (64 * j) e w || leads rows k w) ≡ true → by_block (past rows v left') (leads rows) (64 * j) e w ≡ true
        there f = ⊎_elim
            (λ g. let (u, au, ue, m, i) = block_some (past rows v left) (leads rows) (64 * j) e w g in block_at (past rows v left') (leads rows) (64 * j) e w u au ue (past_is rows v left' u (past_old rows v left u m) (off (u % 64) (past_gone rows v left u m))) i)
            (λ g. block_at (past rows v left') (leads rows) (64 * j) e w k (omega arith) (left-node l d ld h) (past_is rows v left' k (l.named d ld h) (ap (bit left') (let z : k % 64 ≡ d = omega arith in z) ∙ left_drops)) g)
            (or_cases (by_block (past rows v left) (leads rows) (64 * j) e w) (leads rows k w) f)

        back : by_block (past rows v left') (leads rows) (64 * j) e w ≡ true → (by_block (past rows v left) (leads rows) (64 * j) e w || leads rows k w) ≡ true
        back f =
            let (u, au, ue, m, i) = block_some (past rows v left') (leads rows) (64 * j) e w f in
            bool_cases (λ b. bit left (u % 64) ≡ b → (by_block (past rows v left) (leads rows) (64 * j) e w || leads rows k w) ≡ true) (bit left (u % 64))
            (λ _ g. or_right (by_block (past rows v left) (leads rows) (64 * j) e w) (leads rows k w) (⊎_elim
            (λ t. closed.inner k u (omega arith) (left-node l d ld h) au ue w (leads-node n closed.within u w lw i).1 t i)
            (λ t. ap (λ (x : ℕ). leads rows x w) (sym t) ∙ i)
            (gone u au ue g (past_gone rows v left' u m))))
            (λ _ g. or_left (by_block (past rows v left) (leads rows) (64 * j) e w) (leads rows k w) (block_at (past rows v left) (leads rows) (64 * j) e w u au ue (past_is rows v left u (past_old rows v left' u m) g) i)) refl

    pub left-more : {ws' : List ℕ} → ws' ≡ taken ws v words → Left rows v j e left' ws'
    left-more q = record {
      named = λ y ly f. l.named y ly (less y f);
      done =
          q ∙ taken-gained ws v words
          ∙ gained-more rows (in_row v (λ u w. by_block (past rows v left) (leads rows) (64 * j) e w)) (λ u w. eqb u v && has words w) (in_row v (λ u w. by_block (past rows v left') (leads rows) (64 * j) e w)) l.done (λ u w lw.
          out (eqb u v) (by_block (past rows v left) (leads rows) (64 * j) e w) (has words w) ∙ ap (λ (b : Bool). eqb u v && b) (ap (λ (b : Bool). by_block (past rows v left) (leads rows) (64 * j) e w || b) (row w lw) ∙ sum w lw));
    }
      where
        out : (b x y : Bool) → ((b && x) || (b && y)) ≡ (b && (x || y))
        out true x y = refl
        out false x y = refl

    pub left_less : size (bit left') 64 < size (bit left) 64
    left_less = fewer_digits left left' d ld h left_drops less

  -- nothing is left
  pub left_done : {left : ℕ} {ws : List ℕ} → Left rows v j e left ws → left ≡ 0 → ws ≡ gained rows (in_row v (across (leads rows) (64 * j) e))
  unfolding by_block
  left_done {left} l z = l.done ∙ gained_ext rows (in_row v (λ u w. by_block (past rows v left) (leads rows) (64 * j) e w)) (in_row v (across (leads rows) (64 * j) e)) (λ u w lw. at u w (eqb u v) refl)
    where
      all : (x : ℕ) → past rows v left x ≡ leads rows v x
      all x = ap (λ (b : Bool). leads rows v x && not b) (ap (λ (y : ℕ). bit y (x % 64)) z ∙ bit_zero (x % 64)) ∙ mathlib.Core.Bool.and-true (leads rows v x)

      at : (u w : ℕ) (b : Bool) → eqb u v ≡ b → (b && by_block (past rows v left) (leads rows) (64 * j) e w) ≡ (b && across (leads rows) (64 * j) e u w)
      at u w true q = some_ext (λ x. (leb (64 * j) x && past rows v left x) && leads rows x w) (λ x. (leb (64 * j) x && leads rows u x) && leads rows x w) e (λ x lx. ap (λ (b : Bool). (leb (64 * j) x && b) && leads rows x w) (all x ∙ ap (λ (y : ℕ). leads rows y x) (sym (eqb-true u v q))))
      at u w false q = refl

-- ---- the rows below i and a block
module _ (n j e : ℕ) (rows : List ℕ) (room : RowsRoom n rows) (block : IsBlock n (64 * j) e) (closed : Blocked n (64 * j) e rows) where
  -- what the rows below i gain
  abbrev pub spread_to : ℕ → ℕ → ℕ → Bool
  spread_to i = in_first i (across (leads rows) (64 * j) e)

  pub spread_none : Small rows → rows ≡ gained rows (spread_to 0)
  spread_none small = gained-none rows small (spread_to 0) (λ u w lw. ap (λ (b : Bool). b && across (leads rows) (64 * j) e u w) (le-ltb u 0 (omega arith)))

  module _ (i : ℕ) (li : i ≤ n) {ws : List ℕ} (q : ws ≡ gained rows (spread_to i)) where
    -- a row of the block leads where it led
    spread_still : (u w : ℕ) → 64 * j ≤ u → u < e → w < max_nodes → leads ws u w ≡ leads rows u w
    spread_still u w au ue lw =
        leads-gained rows (spread_to i) q u w lw (omega (arith, room.words, block.end))
        ∙ same_test (leads rows u w || (ltb u i && across (leads rows) (64 * j) e u w)) (leads rows u w)
        (λ h. ⊎_elim (λ f. f) (λ f.
        let (x, ax, xe, g, m) = block_some (leads rows u) (leads rows) (64 * j) e w (and_right (ltb u i) (across (leads rows) (64 * j) e u w) f) in
        closed.inner u x au ue ax xe w (leads-node n closed.within x w lw m).1 g m) (or_cases (leads rows u w) (ltb u i && across (leads rows) (64 * j) e u w) h))
        (λ h. or_left (leads rows u w) (ltb u i && across (leads rows) (64 * j) e u w) h)

    pub spread_blocked : Blocked n (64 * j) e ws
    spread_blocked = record {
      within = gained-within rows n (spread_to i) closed.within (λ u w lw h.
          let (x, _, _, _, m) = block_some (leads rows u) (leads rows) (64 * j) e w (and_right (ltb u i) (across (leads rows) (64 * j) e u w) h) in
          (omega (arith, ltb-true u i (and_left (ltb u i) (across (leads rows) (64 * j) e u w) h)), (leads-node n closed.within x w lw m).1)) q;
      inner = λ v u av ve au ue w lw f g.
          let few = room.few in
          let lu : u < max_nodes = omega (arith, block.end) in
          let l : w < max_nodes = omega arith in
          spread_still v w av ve l ∙ closed.inner v u av ve au ue w lw (sym (spread_still v u av ve lu) ∙ f) (sym (spread_still u w au ue l) ∙ g);
    }

    pub spread_busy : (x : ℕ) → Busy (64 * j) e x rows → Busy (64 * j) e x ws
    spread_busy x busy u w au ue none lw = spread_still u w au ue lw ∙ busy u w au ue none lw

    pub spread_more : i < n → gained ws (in_row i (across (leads ws) (64 * j) e)) ≡ gained rows (spread_to (i + 1))
    unfolding by_block
    spread_more l = gained-more rows (spread_to i) (in_row i (across (leads ws) (64 * j) e)) (spread_to (i + 1)) q (λ u w lw.
        ap (λ (b : Bool). (ltb u i && across (leads rows) (64 * j) e u w) || b) (at u w lw (eqb u i) refl) ∙ or_join false (ltb u i) (eqb u i) (across (leads rows) (64 * j) e u w) ∙ ap (λ (b : Bool). b && across (leads rows) (64 * j) e u w) (sym (ltb-more u i)))
      where
        -- row i is as it was
        before : (x : ℕ) → x < max_nodes → leads ws i x ≡ leads rows i x
        before x lx = leads-gained rows (spread_to i) q i x lx (omega (arith, room.words)) ∙ ap (λ (b : Bool). leads rows i x || (b && across (leads rows) (64 * j) e i x)) (le-ltb i i (omega arith)) ∙ or-false (leads rows i x)

        node : (w : ℕ) → w < max_nodes → (x : ℕ) → x < e → (b : Bool) → leb (64 * j) x ≡ b → ((b && leads ws i x) && leads ws x w) ≡ ((b && leads rows i x) && leads rows x w)
        node w lw x xe true f = ap₂ (λ (a b : Bool). a && b) (before x (omega (arith, block.end, room.few))) (spread_still x w (leb-true (64 * j) x f) xe lw)
        node w lw x xe false f = refl

        at : (u w : ℕ) → w < max_nodes → (b : Bool) → eqb u i ≡ b → (b && across (leads ws) (64 * j) e u w) ≡ (b && across (leads rows) (64 * j) e u w)
        at u w lw true f = ap (λ (y : ℕ). across (leads ws) (64 * j) e y w) (eqb-true u i f) ∙ some_ext (λ x. (leb (64 * j) x && leads ws i x) && leads ws x w) (λ x. (leb (64 * j) x && leads rows i x) && leads rows x w) e (λ x lx. node w lw x lx (leb (64 * j) x) refl) ∙ ap (λ (y : ℕ). across (leads rows) (64 * j) e y w) (sym (eqb-true u i f))
        at u w lw false f = refl

-- ---- rows on the way to closed ones
pub closing-start : (n : ℕ) (rows : List ℕ) → Within n rows → Closing n 0 rows rows
closing-start n rows within = record {
  long = refl;
  within = within;
  more = λ v w lv lw h. h;
  right = λ v w lv lw h. plus-contains (leads rows) n v w lw h;
  low = λ v u lv lu la. absurd (omega arith);
}

-- from where they are
pub closing_again : (n a : ℕ) (before rows : List ℕ) → Closing n a before rows → Closing n a rows rows
closing_again n a before rows c = record {
  long = refl;
  within = c.within;
  more = λ v w lv lw h. h;
  right = λ v w lv lw h. plus-contains (leads rows) n v w lw h;
  low = c.low;
}

-- further on
pub closing-on : (n a b : ℕ) (first before rows : List ℕ) → Closing n a first before → Closing n b before rows → Closing n b first rows
closing-on n a b first before rows c d = record {
  long = d.long ∙ c.long;
  within = d.within;
  more = λ v w lv lw h. d.more v w lv lw (c.more v w lv lw h);
  right = λ v w lv lw h. plus-least (leads before) n (plus (leads first) n) c.right (λ v u w lv lu lw f g. plus-trans (leads first) n v u w lu f g) v w lv lw (d.right v w lv lw h);
  low = d.low;
}

-- at the end
pub closing_done : (n a : ℕ) (before rows : List ℕ) → n ≤ a → Closing n a before rows → rows ≡ rows_of n (plus (leads before) n) (length before)
closing_done n a before rows l c =
    c.within ∙ rows_ext n (leads rows) (plus (leads before) n) (length rows) (through-all n (leads before) (leads rows) c.more c.right (λ v u lv lu la. c.low v u lv lu (omega arith)))
    ∙ ap (rows_of n (plus (leads before) n)) c.long

module _ (n a e : ℕ) (before rows : List ℕ) (room : RowsRoom n rows) (block : IsBlock n a e) (c : Closing n a before rows) where
  -- a node of the block
  module _ (k : ℕ) (ak : a ≤ k) (ke : k < e) {ws : List ℕ} (q : ws ≡ gained rows (by_node (leads rows) k a e)) where
    after : (v w : ℕ) → v < n → w < n → leads ws v w ≡ (leads rows v w || by_node (leads rows) k a e v w)
    after v w lv lw = leads-gained rows (by_node (leads rows) k a e) q v w (omega (arith, room.few)) (omega (arith, room.words))

    pub closing-node : Closing n a before ws
    closing-node = record {
      long = length-gained rows (by_node (leads rows) k a e) q ∙ c.long;
      within = gained-within rows n (by_node (leads rows) k a e) c.within (λ v w lw h.
          let f = and_left ((leb a v && ltb v e) && leads rows v k) (leads rows k w) h in
          ((leads-node n c.within v k (omega (arith, block.end, room.few)) (and_right (leb a v && ltb v e) (leads rows v k) f)).0, (leads-node n c.within k w lw (and_right ((leb a v && ltb v e) && leads rows v k) (leads rows k w) h)).1)) q;
      more = λ v w lv lw h. after v w lv lw ∙ or_left (leads rows v w) (by_node (leads rows) k a e v w) (c.more v w lv lw h);
      right = λ v w lv lw h. ⊎_elim (c.right v w lv lw) (λ f.
          let g = and_left ((leb a v && ltb v e) && leads rows v k) (leads rows k w) f in
          let lk : k < n = omega (arith, block.end) in
          plus-trans (leads before) n v k w lk (c.right v k lv lk (and_right (leb a v && ltb v e) (leads rows v k) g)) (c.right k w lk lw (and_right ((leb a v && ltb v e) && leads rows v k) (leads rows k w) f)))
          (or_cases (leads rows v w) (by_node (leads rows) k a e v w) (sym (after v w lv lw) ∙ h));
      low = node-low n a e k (leads rows) (leads ws) after ak ke block.end c.low;
    }

    pub closing-inner : Inner n a e k (leads rows) → Inner n a e (k + 1) (leads ws)
    closing-inner inner = node-inner n a e k (leads rows) (leads ws) after ak ke block.end inner

  -- the block
  pub closing_block : Inner n a e e (leads rows) → {ws : List ℕ} → ws ≡ gained rows (in_first n (across (leads rows) a e)) → Closing n (a + 64) before ws
  closing_block inner {ws} q = record {
    long = length-gained rows (in_first n (across (leads rows) a e)) q ∙ c.long;
    within = gained-within rows n (in_first n (across (leads rows) a e)) c.within (λ v w lw h.
        let (x, _, _, _, m) = block_some (leads rows v) (leads rows) a e w (and_right (ltb v n) (across (leads rows) a e v w) h) in
        (ltb-true v n (and_left (ltb v n) (across (leads rows) a e v w) h), (leads-node n c.within x w lw m).1)) q;
    more = λ v w lv lw h. gets v w lv lw ∙ or_left (leads rows v w) (across (leads rows) a e v w) (c.more v w lv lw h);
    right = λ v w lv lw h. ⊎_elim (c.right v w lv lw) (λ f.
        let (x, _, xe, g, m) = block_some (leads rows v) (leads rows) a e w f in
        let lx : x < n = omega (arith, block.end) in
        plus-trans (leads before) n v x w lx (c.right v x lv lx g) (c.right x w lx lw m)) (or_cases (leads rows v w) (across (leads rows) a e v w) (sym (gets v w lv lw) ∙ h));
    low = λ v u lv lu la. block_low n a e (leads rows) (leads ws) gets block.end c.low inner v u lv (block.whole u lu la);
  }
    where
      gets : (v w : ℕ) → v < n → w < n → leads ws v w ≡ (leads rows v w || across (leads rows) a e v w)
      gets v w lv lw = leads-gained rows (in_first n (across (leads rows) a e)) q v w (omega (arith, room.few)) (omega (arith, room.words)) ∙ ap (λ (b : Bool). leads rows v w || (b && across (leads rows) a e v w)) (lt-ltb v n lv)

-- ---- the block from a on, as its end is computed
pub block_of : (n a e : ℕ) → a < n → e ≡ min (a + 64) n → IsBlock n a e
block_of n a e l h = record {
  from = omega arith;
  end = omega arith;
  least = omega arith;
  whole = λ u lu la. omega arith;
}

-- as many blocks as n nodes need
pub blocks_of : (n k : ℕ) → k ≡ div_ceil n 64 → (n ≤ 64 * k) × (64 * k < n + 64)
blocks_of n k e = (omega arith, omega arith)
