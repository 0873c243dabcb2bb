-- What follows the word of a line, argument by argument; and a line that was read or refused.
use Prim.Native.Nat.{ℕ, zero, suc, ◌+◌, ◌*◌, ◌-◌, ◌≤◌, ◌<◌}
use mathlib.Core.Path.{◌≡◌, refl, sym, ap, ◌∙◌, subst}
use mathlib.Core.List.{List, [], ◌∷◌}
use mathlib.Core.Bool.{Bool, true, false, cond}
use native.Mathlib.Nat.{add-zero}
use native.Mathlib.Omega.{arith}
use lib.Dec.{eqb, ltb}
use lib.ListN.{length, get_or, set}
use lib.Seq.{slice}
use lib.IntN.{ℤ, pos}
use borrow.Author.Tests.{eqb-true, eq-eqb, ne_eqb, ltb-true}
use Rattle.text.specs.Items.{item_end}
use Rattle.text.specs.Pool.{index_of}
use Rattle.model.specs.Graph.{Term}
use Rattle.model.specs.Rules.{Rule}
use Rattle.model.specs.Books.{Name, Line, node, fact, rule, Book, Pool, nodes, links, types, langs, shapes, joins, new_names, new_triples, new_shapes, new_rules, names, collect, rules}
use Rattle.model.specs.Sizes.{sum_over}
use Rattle.model.specs.Valid.{capacity, has_room}
use Rattle.model.specs.Limits.{max_nodes, max_rules, max_facts, max_name, name_bytes}
use Rattle.grammar.specs.Valid.{well_named}
use Rattle.tables.specs.Layout.{node_kinds, node_types, node_langs, subjects, predicates, objects, rule_shapes, rule_targets, rule_operands, name_count}
use Rattle.encoding.specs.Rows.{node_row, target_code, target_operand}
use Rattle.grammar.specs.Syntax.{Slot, Arg, Args, new, LineCode, link_l, type_l, lang_l, thing_l, blank_l, fact_l, rule_l, line_family}
use Rattle.grammar.specs.Reading.{max_within, Read, got, refused, and_then, Readers, Begun, after, unknown, new_at, arg_at, args_at, close_at, body_at, readers_at, line_room, begun_above}
use Rattle.encoding.specs.Encode.{pool_base}
use Rattle.stores.specs.Lines.{put_name, put_node, put_fact, put_rule, line_names, line_cells, line_values}
use Rattle.itemreader.specs.Answers.{Reads, rest_at}
use Rattle.itemreader.proofs.Items.{item-within, named-short, item_got, item_refused, passed_on}
use Rattle.itemreader.proofs.Heads.{rest_got, rest_refused, close_not, close_full, close_got}
use Rattle.model.specs.declared.Counts.{Counts}
use Rattle.std.specs.Prelude.{Option, Some, None, Result, Ok, Err, IsErrAnd}
use Rattle.model.specs.Graph.{Triple}
use Rattle.model.specs.Refusals.{fault_of}
use Rattle.model.specs.declared.Fault.{Fault}
use Rattle.linereader.specs.declared.Node.{Node}
use Rattle.linereader.specs.Storing.{named, counted, end_line, line_end, line_body, ended_with, Done, HasNameLine, name_line_code, name_line, Row, resource_term, resource_code, put₃}

-- ---- the closing bracket and the LF
module _ (s : List ℕ) (a : Book) (room : Bool) (l : Line) (at : ℕ) where
  pub end_open : (get_or s at 0 ≡ 41 → ⊥) → line_end s a room l at ≡ refused 2
  unfolding line_end
  end_open n = rw (close_not s a l at room n)

  module _ (z : get_or s at 0 ≡ 41) where
    pub end-full : room ≡ false → line_end s a room l at ≡ refused 7
    unfolding line_end
    end-full e = rw (close_full s a l at room z e)

    pub end_missing : room ≡ true → (get_or s (at + 1) 0 ≡ 10 → ⊥) → line_end s a room l at ≡ refused 2
    unfolding line_end
    end_missing e n = rw (close_got s a l at room z e, ne_eqb (get_or s (at + 1) 0) 10 n)

    pub end_got : room ≡ true → get_or s (at + 1) 0 ≡ 10 → line_end s a room l at ≡ got l (at + 1 + 1)
    unfolding line_end
    end_got e n = rw (close_got s a l at room z e, eq-eqb (get_or s (at + 1) 0) 10 n)

-- ---- argument by argument
module _ (s : List ℕ) (a : Book) (room : Bool) where
  -- the arguments ks, the closing bracket and the LF, where f makes the line of them
  abbrev pub line_rest : (ks : List Slot) → (Args ks → Line) → Begun → ℕ → Read Line
  line_rest ks f n at = and_then (rest_at s a (readers_at s a max_within) room ks f n at) (end_line s)

  pub args_end : (f : Args [] → Line) (n : Begun) (at : ℕ) → line_rest [] f n at ≡ line_end s a room (f tt) at
  unfolding line_end args_at
  args_end f n at = refl

  module _ (k : Slot) (ks : List Slot) (f : Args (k ∷ ks) → Line) (n : Begun) (at : ℕ) where
    pub arg_got : (x : Arg k) (next : ℕ) → arg_at s a (readers_at s a max_within) k n at ≡ got x next → line_rest (k ∷ ks) f n at ≡ line_rest ks (λ xs. f (x, xs)) (after k x n) next
    arg_got x next e = ap (λ (r : Read Line). and_then r (end_line s)) (rest_got s a (readers_at s a max_within) room k ks f n at x next e)

    pub arg_refused : (r : ℕ) → arg_at s a (readers_at s a max_within) k n at ≡ refused r → line_rest (k ∷ ks) f n at ≡ refused r
    arg_refused r e = ap (λ (r : Read Line). and_then r (end_line s)) (rest_refused s a (readers_at s a max_within) room k ks f n at r e)

  -- a refusal at the first, the second and the third argument
  pub stop₁ : (k : Slot) (ks : List Slot) (f : Args (k ∷ ks) → Line) (n : Begun) (at r : ℕ) → arg_at s a (readers_at s a max_within) k n at ≡ refused r → line_rest (k ∷ ks) f n at ≡ refused r
  stop₁ k ks f n at r e = arg_refused k ks f n at r e

  module _ (k l : Slot) (ks : List Slot) (f : Args (k ∷ l ∷ ks) → Line) (n : Begun) (at : ℕ) (x : Arg k) (i : ℕ) (e : arg_at s a (readers_at s a max_within) k n at ≡ got x i) where
    pub stop₂ : (r : ℕ) → arg_at s a (readers_at s a max_within) l (after k x n) i ≡ refused r → line_rest (k ∷ l ∷ ks) f n at ≡ refused r
    stop₂ r q = arg_got k (l ∷ ks) f n at x i e ∙ arg_refused l ks (λ xs. f (x, xs)) (after k x n) i r q

  module _ (k l m : Slot) (ks : List Slot) (f : Args (k ∷ l ∷ m ∷ ks) → Line) (n : Begun) (at : ℕ) (x : Arg k) (i : ℕ) (e : arg_at s a (readers_at s a max_within) k n at ≡ got x i) (y : Arg l) (j : ℕ) (q : arg_at s a (readers_at s a max_within) l (after k x n) i ≡ got y j) where
    pub stop₃ : (r : ℕ) → arg_at s a (readers_at s a max_within) m (after l y (after k x n)) j ≡ refused r → line_rest (k ∷ l ∷ m ∷ ks) f n at ≡ refused r
    stop₃ r p = arg_got k (l ∷ m ∷ ks) f n at x i e ∙ stop₂ l m ks (λ xs. f (x, xs)) (after k x n) i y j q r p

  -- one, two and three arguments that were read
  pub all₁ : (k : Slot) (f : Args (k ∷ []) → Line) (n : Begun) (at : ℕ) (x : Arg k) (i : ℕ) → arg_at s a (readers_at s a max_within) k n at ≡ got x i → line_rest (k ∷ []) f n at ≡ line_end s a room (f (x, tt)) i
  all₁ k f n at x i e = arg_got k [] f n at x i e ∙ args_end (λ xs. f (x, xs)) (after k x n) i

  module _ (k l : Slot) (f : Args (k ∷ l ∷ []) → Line) (n : Begun) (at : ℕ) (x : Arg k) (i : ℕ) (e : arg_at s a (readers_at s a max_within) k n at ≡ got x i) (y : Arg l) (j : ℕ) (q : arg_at s a (readers_at s a max_within) l (after k x n) i ≡ got y j) where
    pub all₂ : line_rest (k ∷ l ∷ []) f n at ≡ line_end s a room (f (x, (y, tt))) j
    all₂ = arg_got k (l ∷ []) f n at x i e ∙ all₁ l (λ xs. f (x, xs)) (after k x n) i y j q

  module _ (k l m : Slot) (f : Args (k ∷ l ∷ m ∷ []) → Line) (n : Begun) (at : ℕ) (x : Arg k) (i : ℕ) (e : arg_at s a (readers_at s a max_within) k n at ≡ got x i) (y : Arg l) (j : ℕ) (q : arg_at s a (readers_at s a max_within) l (after k x n) i ≡ got y j) (z : Arg m) (h : ℕ) (p : arg_at s a (readers_at s a max_within) m (after l y (after k x n)) j ≡ got z h) where
    pub all₃ : line_rest (k ∷ l ∷ m ∷ []) f n at ≡ line_end s a room (f (x, (y, (z, tt)))) h
    all₃ = arg_got k (l ∷ m ∷ []) f n at x i e ∙ all₂ l m (λ xs. f (x, xs)) (after k x n) i y j q z h p

pub body_is : (s : List ℕ) (a : Book) (c : LineCode) (at : ℕ) → line_body s a c at ≡ line_rest s a (line_room s a c) (line_family.slots c) (line_family.build c) (begun_above a) at
unfolding line_body body_at
body_is s a c at = refl

-- ---- an item that was refused
pub item-stop : (s : List ℕ) (a : Book) (k : Slot) (f : Arg k → ℕ) (n : Begun) (at : ℕ) (e : Fault) → Reads s a k f at (Err e) → (m : ℕ) × (arg_at s a (readers_at s a max_within) k n at ≡ refused m) × (e ≡ fault_of m)
item-stop s a k f n at e h = item_refused f (arg_at s a (readers_at s a max_within) k n at) e (h (readers_at s a max_within) n)

-- ---- a new name that was read
pub record NewName (s : List ℕ) (a : Book) (p : Pool) (at next : ℕ) : Type 0 where
  pub from : at + 1 ≤ next
  pub within : next ≤ length s
  pub short : next - (at + 1) ≤ max_name
  pub room : length (names p a) < capacity p

new_name_lem : (s : List ℕ) (a : Book) (R : Readers) (b : Begun) (p : Pool) (at : ℕ) (w : Name) (next : ℕ) → arg_at s a R (new p) b at ≡ got w next → (w ≡ slice (at + 1) next s) × NewName s a p at next
unfolding arg_at new_at has_room
new_name_lem s a R b p at w next e =
    go (eqb (get_or s at 0) 32) (well_named p v) (index_of (names p a) v) (ltb (length (names p a)) (capacity p)) (eqb-true (get_or s at 0) 32) (λ q. q) (ltb-true (length (names p a)) (capacity p)) e
  where
    end : ℕ
    end = item_end s (at + 1)

    v : List ℕ
    v = slice (at + 1) end s

    go : (x y : Bool) (f : Option ℕ) (h : Bool) → (x ≡ true → get_or s at 0 ≡ 32) → (y ≡ true → well_named p v ≡ true) → (h ≡ true → length (names p a) < capacity p)
        → cond x (cond y (unknown s a f (cond h (got v end) (refused 7))) (refused 2)) (refused 2) ≡ got w next → (w ≡ slice (at + 1) next s) × NewName s a p at next
    go true true None true z y h e =
        let i = item-within s at end 31 (z refl) refl in
        let q : end ≡ next = cc in
        let t : v ≡ w = cc in
        subst (λ (n : ℕ). (w ≡ slice (at + 1) n s) × NewName s a p at n) q (sym t, record { from = i.0; within = i.1; short = named-short p s (at + 1) end i.1 (y refl); room = h refl })
    go true true None false z y h e = let z : ◌≡◌ {A = ℕ} 0 1 = cc in absurd (omega arith)
    go true true (Some k) h z y h' e = let z : ◌≡◌ {A = ℕ} 0 1 = cc in absurd (omega arith)
    go true false f h z y h' e = let z : ◌≡◌ {A = ℕ} 0 1 = cc in absurd (omega arith)
    go false y f h z y' h' e = let z : ◌≡◌ {A = ℕ} 0 1 = cc in absurd (omega arith)

module _ (s : List ℕ) (a : Book) (p : Pool) (n : Begun) (at k next : ℕ) (h : Reads s a (new p) length at (Ok (k, next))) where
  pub new_got : arg_at s a (readers_at s a max_within) (new p) n at ≡ got (slice (at + 1) next s) next
  new_got =
      let y = item_got length (arg_at s a (readers_at s a max_within) (new p) n at) k next (h (readers_at s a max_within) n) in
      y.1 ∙ ap (λ (w : Name). got w next) (new_name_lem s a (readers_at s a max_within) n p at y.0 next y.1).0

  pub new_facts : NewName s a p at next
  new_facts = (new_name_lem s a (readers_at s a max_within) n p at (slice (at + 1) next s) next new_got).1

-- its place in the pool
pub new_place : (p : Pool) (n : ℕ) → n < capacity p → pool_base p + n * name_bytes + name_bytes ≤ name_count
unfolding pool_base capacity
new_place nodes n h = omega arith
new_place links n h = omega arith
new_place types n h = omega arith
new_place langs n h = omega arith
new_place shapes n h = omega arith

pub node-room : (n : ℕ) → n < capacity nodes → n < max_nodes
unfolding capacity
node-room n h = h

pub node-place : (n : ℕ) → n < max_nodes → pool_base nodes + n * name_bytes + name_bytes ≤ name_count
unfolding pool_base
node-place n h = omega arith

-- ---- a line that is refused before anything is stored
pub done_no : (a : Book) (c : Counts) (x : Read Line) (r : Result (Counts × ℕ) Fault) (k : ℕ) (ns cs : List ℕ) (vs : List ℤ) → x ≡ refused k → r ≡ Err (fault_of k) → Done a c x r ns ns cs cs vs vs
done_no a c x r k ns cs vs e q = subst (λ (y : Read Line). Done a c y r ns ns cs cs vs vs) (sym e) (q, refl, refl, refl)

-- .. by what `?` hands on
pub done_stop : (a : Book) (c : Counts) (x : Read Line) (r : Result (Counts × ℕ) Fault) (e : Fault) (k : ℕ) (ns cs : List ℕ) (vs : List ℤ) → x ≡ refused k → e ≡ fault_of k → IsErrAnd r (λ y. y ≡ e) → Done a c x r ns ns cs cs vs vs
done_stop a c x r e k ns cs vs p q h = done_no a c x r k ns cs vs p (passed_on r e h ∙ ap Err q)

-- a line that is stored
pub done_yes : (a : Book) (c : Counts) (x : Read Line) (l : Line) (next : ℕ) (r : Result (Counts × ℕ) Fault) (ns ns' cs cs' : List ℕ) (vs vs' : List ℤ) → x ≡ got l next → r ≡ Ok (counted l c, next) → ns' ≡ line_names a l ns → cs' ≡ line_cells a l cs → vs' ≡ line_values a l vs → Done a c x r ns ns' cs cs' vs vs'
done_yes a c x l next r ns ns' cs cs' vs vs' e q h i j = subst (λ (y : Read Line). Done a c y r ns ns' cs cs' vs vs') (sym e) (q, h, i, j)

pub done_same : (a : Book) (c : Counts) (x y : Read Line) (r : Result (Counts × ℕ) Fault) (ns ns' cs cs' : List ℕ) (vs vs' : List ℤ) → x ≡ y → Done a c y r ns ns' cs cs' vs vs' → Done a c x r ns ns' cs cs' vs vs'
done_same a c x y r ns ns' cs cs' vs vs' e d = subst (λ (y : Read Line). Done a c y r ns ns' cs cs' vs vs') (sym e) d

-- ---- what the answer at the line's end says
pub ended-no : (c : Counts) (x : Read Line) (e : Fault) → ◌≡◌ {A = Result (Counts × ℕ) Fault} (Err e) (ended_with c x) → (k : ℕ) × (x ≡ refused k) × (e ≡ fault_of k)
ended-no c (got y n) e p = let z : ◌≡◌ {A = ℕ} 0 1 = cc in absurd (omega arith)
ended-no c (refused j) e p = (j, refl, cc)

ended-line : (s : List ℕ) (a : Book) (room : Bool) (l : Line) (at : ℕ) (y : Line) (next : ℕ) → line_end s a room l at ≡ got y next → y ≡ l
unfolding line_end close_at
ended-line s a room l at y next e = go (eqb (get_or s at 0) 41) room (eqb (get_or s (at + 1) 0) 10) e
  where
    go : (b c d : Bool) → and_then (cond b (cond c (got l (at + 1)) (refused 7)) (refused 2)) (λ l next. cond (eqb (get_or s next 0) 10) (got l (next + 1)) (refused 2)) ≡ got y next → y ≡ l
    go true true d e = final (eqb (get_or s (at + 1) 0) 10) e
      where
        final : (b : Bool) → cond b (got l (at + 1 + 1)) (refused 2) ≡ got y next → y ≡ l
        final true e = let q : l ≡ y = cc in sym q
        final false e = let z : ◌≡◌ {A = ℕ} 0 1 = cc in absurd (omega arith)
    go true false d e = let z : ◌≡◌ {A = ℕ} 0 1 = cc in absurd (omega arith)
    go false c d e = let z : ◌≡◌ {A = ℕ} 0 1 = cc in absurd (omega arith)

pub ended-yes : (s : List ℕ) (a : Book) (room : Bool) (l : Line) (at : ℕ) (c : Counts) (d : Counts × ℕ) → ◌≡◌ {A = Result (Counts × ℕ) Fault} (Ok d) (ended_with c (line_end s a room l at)) → (line_end s a room l at ≡ got l d.1) × (d ≡ (c, d.1))
ended-yes s a room l at c d p = go (line_end s a room l at) p (ended-line s a room l at)
  where
    go : (x : Read Line) → ◌≡◌ {A = Result (Counts × ℕ) Fault} (Ok d) (ended_with c x) → ((y : Line) (n : ℕ) → x ≡ got y n → y ≡ l) → (x ≡ got l d.1) × (d ≡ (c, d.1))
    go (got y n) p h =
        let e : d ≡ (c, n) = cc in
        let q : n ≡ d.1 = sym (ap (λ (z : Counts × ℕ). z.1) e) in
        (ap (λ (z : Line). got z n) (h y n refl) ∙ ap (got l) q, e ∙ ap (λ (m : ℕ). (c, m)) q)
    go (refused k) p h = let z : ◌≡◌ {A = ℕ} 0 1 = cc in absurd (omega arith)

-- a line that ended was within its limit
pub ended-room : (s : List ℕ) (a : Book) (room : Bool) (l : Line) (at next : ℕ) → line_end s a room l at ≡ got l next → room ≡ true
unfolding line_end close_at
ended-room s a room l at next e = go (eqb (get_or s at 0) 41) room e
  where
    go : (b c : Bool) → and_then (cond b (cond c (got l (at + 1)) (refused 7)) (refused 2)) (λ l next. cond (eqb (get_or s next 0) 10) (got l (next + 1)) (refused 2)) ≡ got l next → c ≡ true
    go true true e = refl
    go true false e = let z : ◌≡◌ {A = ℕ} 0 1 = cc in absurd (omega arith)
    go false c e = let z : ◌≡◌ {A = ℕ} 0 1 = cc in absurd (omega arith)

-- ---- lines that hold a name and nothing else
module _ (s : List ℕ) (a : Book) where
  pub lone_stop : (p : Pool) → HasNameLine p → (at r : ℕ) → arg_at s a (readers_at s a max_within) (new p) (begun_above a) at ≡ refused r → line_body s a (name_line_code p) at ≡ refused r
  lone_stop nodes o at r e = absurd o
  lone_stop links o at r e = body_is s a link_l at ∙ stop₁ s a (line_room s a link_l) (new links) [] (line_family.build link_l) (begun_above a) at r e
  lone_stop types o at r e = body_is s a type_l at ∙ stop₁ s a (line_room s a type_l) (new types) [] (line_family.build type_l) (begun_above a) at r e
  lone_stop langs o at r e = body_is s a lang_l at ∙ stop₁ s a (line_room s a lang_l) (new langs) [] (line_family.build lang_l) (begun_above a) at r e
  lone_stop shapes o at r e = absurd o

  pub lone_got : (p : Pool) → HasNameLine p → (at : ℕ) (w : Name) (i : ℕ) → arg_at s a (readers_at s a max_within) (new p) (begun_above a) at ≡ got w i → line_body s a (name_line_code p) at ≡ line_end s a true (name_line p w) i
  unfolding line_room
  lone_got nodes o at w i e = absurd o
  lone_got links o at w i e = body_is s a link_l at ∙ all₁ s a true (new links) (line_family.build link_l) (begun_above a) at w i e
  lone_got types o at w i e = body_is s a type_l at ∙ all₁ s a true (new types) (line_family.build type_l) (begun_above a) at w i e
  lone_got langs o at w i e = body_is s a lang_l at ∙ all₁ s a true (new langs) (line_family.build lang_l) (begun_above a) at w i e
  lone_got shapes o at w i e = absurd o

module _ (a : Book) (w : Name) where
  pub lone_names : (p : Pool) → HasNameLine p → (k : ℕ) → k ≡ length (names p a) → (ns : List ℕ) → put_name p k w ns ≡ line_names a (name_line p w) ns
  unfolding line_names
  lone_names nodes o k e ns = absurd o
  lone_names links o k e ns = ap (λ (j : ℕ). put_name links j w ns) e
  lone_names types o k e ns = ap (λ (j : ℕ). put_name types j w ns) e
  lone_names langs o k e ns = ap (λ (j : ℕ). put_name langs j w ns) e
  lone_names shapes o k e ns = absurd o

  pub lone_cells : (p : Pool) → HasNameLine p → (cs : List ℕ) → cs ≡ line_cells a (name_line p w) cs
  unfolding line_cells
  lone_cells nodes o cs = absurd o
  lone_cells links o cs = refl
  lone_cells types o cs = refl
  lone_cells langs o cs = refl
  lone_cells shapes o cs = absurd o

  pub lone_values : (p : Pool) → HasNameLine p → (vs : List ℤ) → vs ≡ line_values a (name_line p w) vs
  unfolding line_values
  lone_values nodes o vs = absurd o
  lone_values links o vs = refl
  lone_values types o vs = refl
  lone_values langs o vs = refl
  lone_values shapes o vs = absurd o

-- ---- the counts with a line
pub lone_counted : (p : Pool) → HasNameLine p → (w : Name) (c : Counts) → named p c ≡ counted (name_line p w) c
unfolding new_names joins new_triples new_shapes new_rules sum_over
lone_counted nodes o w c = absurd o
lone_counted links o w c = simp add-zero
lone_counted types o w c = simp add-zero
lone_counted langs o w c = simp add-zero
lone_counted shapes o w c = absurd o

pub node-counted : (w : Name) (t : Term) (c : Counts) → named nodes c ≡ counted (node w t) c
unfolding new_names joins new_triples new_shapes new_rules sum_over
node-counted w t c = simp add-zero

-- one fact more, one rule more
abbrev pub fact_more : Counts → Counts
fact_more c = record { nodes = c.nodes; links = c.links; types = c.types; langs = c.langs; shapes = c.shapes; facts = c.facts + 1; paths = c.paths; forms = c.forms; items = c.items; rules = c.rules }

abbrev pub rule_more : Counts → Counts
rule_more c = record { nodes = c.nodes; links = c.links; types = c.types; langs = c.langs; shapes = c.shapes; facts = c.facts; paths = c.paths; forms = c.forms; items = c.items; rules = c.rules + 1 }

pub fact_counted : (t : Triple) (c : Counts) → fact_more c ≡ counted (fact t) c
unfolding new_names joins new_triples new_shapes new_rules sum_over
fact_counted t c = simp add-zero

pub rule_counted : (x : Rule) (c : Counts) → rule_more c ≡ counted (rule x) c
unfolding new_names joins new_triples new_shapes new_rules sum_over
rule_counted x c = simp add-zero

-- ---- thing and blank
module _ (s : List ℕ) (a : Book) where
  pub resource_stop : (k at r : ℕ) → arg_at s a (readers_at s a max_within) (new nodes) (begun_above a) at ≡ refused r → line_body s a (resource_code k) at ≡ refused r
  resource_stop zero at r e = body_is s a thing_l at ∙ stop₁ s a (line_room s a thing_l) (new nodes) [] (line_family.build thing_l) (begun_above a) at r e
  resource_stop (suc k) at r e = body_is s a blank_l at ∙ stop₁ s a (line_room s a blank_l) (new nodes) [] (line_family.build blank_l) (begun_above a) at r e

  pub resource_got : (k at : ℕ) (w : Name) (i : ℕ) → arg_at s a (readers_at s a max_within) (new nodes) (begun_above a) at ≡ got w i → line_body s a (resource_code k) at ≡ line_end s a true (node w (resource_term k)) i
  unfolding line_room
  resource_got zero at w i e = body_is s a thing_l at ∙ all₁ s a true (new nodes) (line_family.build thing_l) (begun_above a) at w i e
  resource_got (suc k) at w i e = body_is s a blank_l at ∙ all₁ s a true (new nodes) (line_family.build blank_l) (begun_above a) at w i e

pub resource_row : (k : ℕ) → k ≤ 1 → Row (record { kind = k; datatype = 0; lang = 0 }) (pos 0) (resource_term k)
unfolding node_row
resource_row zero h = (refl, refl, refl, refl)
resource_row (suc zero) h = (refl, refl, refl, refl)
resource_row (suc (suc k)) h = absurd (omega arith)

-- ---- what is stored
module _ (a : Book) (w : Name) (t : Term) (x : Node) (v : ℤ) (k : ℕ) (e : k ≡ length (names nodes a)) where
  pub node-names : (ns : List ℕ) → put_name nodes k w ns ≡ line_names a (node w t) ns
  unfolding line_names
  node-names ns = ap (λ (j : ℕ). put_name nodes j w ns) e

  pub node-cells : (cs : List ℕ) → Row x v t → put₃ (node_kinds + k) (node_types + k) (node_langs + k) x.kind x.datatype x.lang cs ≡ line_cells a (node w t) cs
  unfolding line_cells put_node put₃
  node-cells cs r = rw (e, r.0, r.1, r.2)

  pub node-values : (vs : List ℤ) → Row x v t → set vs k v ≡ line_values a (node w t) vs
  unfolding line_values
  node-values vs r = rw (e, r.3)

pub fact_cells : (a : Book) (k s p o : ℕ) (cs : List ℕ) → k ≡ length (collect new_triples a) → put₃ (subjects + k) (predicates + k) (objects + k) s p o cs ≡ line_cells a (fact (record { subject = s; predicate = p; object = o })) cs
unfolding line_cells put_fact put₃
fact_cells a k s p o cs e = rw e

pub rule_cells : (a : Book) (k code x : ℕ) (r : Rule) (cs : List ℕ) → k ≡ length (rules a) → code ≡ target_code r.target → x ≡ target_operand r.target → put₃ (rule_shapes + k) (rule_targets + k) (rule_operands + k) r.shape code x cs ≡ line_cells a (rule r) cs
unfolding line_cells put_rule put₃
rule_cells a k code x r cs e q p = rw (e, q, p)

-- ---- room at the closing bracket
module _ (s : List ℕ) (a : Book) (n : ℕ) where
  pub fact_room : n ≡ length (collect new_triples a) → ltb n max_facts ≡ line_room s a fact_l
  unfolding line_room
  fact_room e = rw e

  pub rule_room : n ≡ length (rules a) → ltb n max_rules ≡ line_room s a rule_l
  unfolding line_room
  rule_room e = rw e
