-- The edges of document 01: those that a short text shows, computed; and that a full pool takes no name more.
use Prim.Native.Nat.{ℕ, suc, ◌+◌, ◌≤◌}
use mathlib.Core.Path.{◌≡◌, refl, sym, ap, ap₂, ◌∙◌, subst}
use mathlib.Core.List.{List, [], ◌∷◌, ◌++◌, map, append-nil, append_assoc}
use mathlib.Core.Bool.{Bool, true, false, not, cond}
use mathlib.Core.Logic.{◌↔◌}
use native.Mathlib.Omega.{arith}
use lib.Dec.{eqb}
use lib.ListN.{length, get_or, length-append}
use lib.Seq.{slice}
use borrow.Author.Tests.{eq-eqb, le-ltb, ltb-false, not-true}
use Rattle.base.specs.Lists.{anyb, allb}
use Rattle.base.specs.Bytes.{bytes, eql}
use Rattle.base.proofs.Bools.{and_left, and_right, and_both}
use Rattle.text.specs.Items.{edge, item_len, item_end, name_byte, is_name}
use Rattle.text.specs.Decimals.{number_of, positive_of, negative_of, bound_of, is_mag, value_from, digit}
use Rattle.text.specs.Pool.{index_of, first_from}
use Rattle.text.proofs.Places.{index_nothing}
use Rattle.text.specs.Spans.{Span}
use Rattle.text.proofs.Spans.{span_split, span_head, span_length, span_whole}
use Rattle.text.proofs.Words.{word-ends, word-item, span_ends, names-plain}
use Rattle.model.specs.Limits.{max_bytes, max_nodes}
use Rattle.model.specs.Answers.{refusal}
use Rattle.model.specs.Graph.{iri}
use Rattle.model.specs.Books.{Name, Line, node, Book, Pool, nodes, built_in, joins, new_names, new_terms, new_triples, new_shapes, new_rules, collect, names, rules}
use Rattle.model.specs.Sizes.{path_entries, end_entries, form_entries, shape_paths, test_items, list_items, sum_over, forms_in, paths_in, items_in}
use Rattle.model.specs.Valid.{capacity, has_room, is_resource}
use Rattle.grammar.specs.Writing.{spaced, bracket, write_node, write_line, render_from, render}
use Rattle.grammar.specs.Valid.{reserved, well_named, new_name, valid_from}
use Rattle.grammar.specs.Syntax.{Slot, new, Args, LineCode, thing_l, line_family}
use Rattle.grammar.specs.Reading.{max_within, Read, got, refused, and_then, item, unknown, after, used_at, new_at, subject_at, literal_type_at, kind_at, value_at, low_at, high_at, list_at, end_at, arg_at, args_at, close_at, body_at, headed, bracket_at, link_at, true_at, deeper, readers_at, line_room, begun_above, line_at, lines_from, reading}
use Rattle.grammar.specs.Cases.{Case, edges}
use Rattle.grammar.proofs.Leaves.{fresh_nothing, nothing_fresh}
use Rattle.grammar.proofs.Rows.{line_placed}
use Rattle.grammar.proofs.Books.{refused_after}
use Rattle.std.specs.Prelude.{Option, Some, None}

-- ---- computed
pub edges_hold : map (λ (c : Case). reading c.text) edges ≡ map (λ (c : Case). c.answer) edges
unfolding reading lines_from line_at bracket_at body_at close_at args_at arg_at end_at after readers_at deeper link_at true_at line_room begun_above used_at new_at subject_at literal_type_at kind_at value_at low_at high_at list_at well_named reserved is_name allb name_byte item_end item_len edge eql index_of first_from names built_in collect new_names joins new_terms new_triples new_shapes new_rules rules has_room capacity is_resource forms_in paths_in items_in sum_over path_entries end_entries form_entries shape_paths test_items list_items number_of positive_of negative_of bound_of is_mag value_from digit
edges_hold = refl

-- ---- a full pool
-- a new name is refused by 7 exactly where its pool has no room; the capacities are those of document 01
module _ (s : List ℕ) (above : Book) (p : Pool) (at : ℕ) where
  room-cases : (w : List ℕ) (e : ℕ) (known room : Bool) (f : Option ℕ) → well_named p w ≡ known → index_of (names p above) w ≡ f → cond known (unknown s above f (cond room (got w e) (refused 7))) (refused 2) ≡ refused 7 → (known ≡ true) × (f ≡ None) × (room ≡ false)
  room-cases w e false room f i j q = absurd (let z : ◌≡◌ {A = ℕ} 2 7 = cc in omega arith)
  room-cases w e true room (Some k) i j q = absurd (let z : ◌≡◌ {A = ℕ} 6 7 = cc in omega arith)
  room-cases w e true true None i j q = absurd (let z : ◌≡◌ {A = ℕ} 0 1 = cc in omega arith)
  room-cases w e true false None i j q = (refl, refl, refl)

  pub full_pool : (new_at s above p at ≡ refused 7) ↔ ((new_name above p (item s above at) ≡ true) × (capacity p ≤ length (names p above)))
  unfolding new_at new_name has_room
  full_pool =
      let w = item s above at in (
        λ e.
            let (a, b, c) = room-cases (item s above at) (item_end s at) (well_named p (item s above at)) (has_room above p) (index_of (names p above) (item s above at)) refl refl e in
            (and_both (well_named p (item s above at)) (not (anyb (eql (item s above at)) (names p above))) a (ap not (nothing_fresh (names p above) (item s above at) ((index_nothing (names p above) (item s above at)).0 b))), ltb-false (length (names p above)) (capacity p) c),
        λ q.
            let a = and_left (well_named p (item s above at)) (not (anyb (eql (item s above at)) (names p above))) q.0 in
            let b = not-true (anyb (eql (item s above at)) (names p above)) (and_right (well_named p (item s above at)) (not (anyb (eql (item s above at)) (names p above))) q.0) in
            ap₂ (λ (b : Bool) (f : Option ℕ). cond b (unknown s above f (cond (has_room above p) (got (item s above at) (item_end s at)) (refused 7))) (refused 2)) a ((index_nothing (names p above) (item s above at)).1 (fresh_nothing (names p above) (item s above at) b))
            ∙ ap (λ (b : Bool). cond b (got (item s above at) (item_end s at)) (refused 7)) (le-ltb (length (names p above)) (capacity p) q.1),
      )

pub node-capacity : capacity nodes ≡ max_nodes
unfolding capacity
node-capacity = refl

-- a line that defines a name, where the name's pool is full
module _ (s : List ℕ) (above : Book) (at : ℕ) where
  full-line : (c : LineCode) (p : Pool) (ks : List Slot) → line_family.slots c ≡ new p ∷ ks → get_or s at 0 ≡ 40 → slice (at + 1) (item_end s (at + 1)) s ≡ line_family.word c → get_or s (item_end s (at + 1)) 0 ≡ 32
      → new_name above p (item s above (item_end s (at + 1) + 1)) ≡ true → capacity p ≤ length (names p above) → line_at s above at ≡ refused 7
  unfolding line_at bracket_at body_at args_at arg_at
  full-line c p ks sl o w sp n f =
      let e : ℕ = item_end s (at + 1) in
      let (k, found, back, _, _) = line_placed c in
      let args : args_at s above (readers_at s above max_within) (line_family.slots c) (begun_above above) (item_end s (at + 1)) ≡ refused 7 =
      subst (λ (js : List Slot). args_at s above (readers_at s above max_within) js (begun_above above) (item_end s (at + 1)) ≡ refused 7) (sym sl)
      (ap₂ (λ (b : Bool) (r : Read Name). and_then (cond b r (refused 2)) (λ a next. and_then (args_at s above (readers_at s above max_within) ks (after (new p) a (begun_above above)) next) (λ xs last. got (a, xs) last))) (eq-eqb (get_or s (item_end s (at + 1)) 0) 32 sp) ((full_pool s above p (item_end s (at + 1) + 1)).1 (n, f))) in
      ap (λ (r : Read Line). and_then r (λ l next. cond (eqb (get_or s next 0) 10) (got l (next + 1)) (refused 2)))
      (ap₂ (λ (b : Bool) (v : List ℕ). cond b (headed s above line_family (readers_at s above max_within) false false (line_room s above) (begun_above above) (index_of (map line_family.word line_family.codes) v) (item_end s (at + 1))) (refused 2)) (eq-eqb (get_or s at 0) 40 o) w
      ∙ ap (λ (f : Option ℕ). headed s above line_family (readers_at s above max_within) false false (line_room s above) (begun_above above) f (item_end s (at + 1))) found
      ∙ ap (λ (d : LineCode). body_at s above line_family (readers_at s above max_within) (line_room s above) d (begun_above above) (item_end s (at + 1))) back
      ∙ ap (λ (r : Read (Args (line_family.slots c))). and_then r (λ xs next. close_at s above (line_room s above c) (line_family.build c xs) next)) args)

-- node 1,025: after any valid book with 1,024 nodes, a line that defines one more is refused by 7
module _ (b : Book) (n : Name) where
  abbrev one_more : List ℕ
  one_more = write_line b (node n iri) ++ (10 ∷ [])

  thing_item : (s : List ℕ) (at nx : ℕ) → Span s at nx one_more → is_name n ≡ true → (get_or s at 0 ≡ 40) × (slice (at + 1) (item_end s (at + 1)) s ≡ line_family.word thing_l) × (get_or s (item_end s (at + 1)) 0 ≡ 32) × (slice (item_end s (at + 1) + 1) (item_end s (item_end s (at + 1) + 1)) s ≡ n)
  unfolding write_line write_node bracket spaced allb edge
  thing_item s at nx p w =
      let h = span_head p in
      let sp = span_split (bytes "thing") (32 ∷ ((n ++ []) ++ (41 ∷ []) ++ (10 ∷ []))) h.2 in
      let e = span_ends sp.1 refl in
      let k = span_head sp.1 in
      let t : (n ++ []) ++ (41 ∷ []) ++ (10 ∷ []) ≡ n ++ (41 ∷ (10 ∷ [])) = append_assoc (n ++ []) (41 ∷ []) (10 ∷ []) ∙ ap (λ (l : List ℕ). l ++ (41 ∷ (10 ∷ []))) (append-nil n) in
      let u = span_split n (41 ∷ (10 ∷ [])) (subst (λ (l : List ℕ). Span s (at + 1 + 5 + 1) nx l) t k.2) in
      let i = word-ends (bytes "thing") sp.0 refl e in
      (h.1, word-item (bytes "thing") sp.0 refl e, ap (λ (j : ℕ). get_or s j 0) i ∙ k.1, ap (λ (j : ℕ). slice (j + 1) (item_end s (j + 1)) s) i ∙ word-item n u.0 (names-plain n w) (span_ends u.1 refl))

  pub node_1025 : valid_from [] b ≡ true → length (names nodes b) ≡ max_nodes → new_name b nodes n ≡ true → length (render b ++ one_more) ≤ max_bytes → reading (render b ++ one_more) ≡ refusal 7 (suc (length b))
  unfolding render new_name well_named
  node_1025 v l w m =
      let s : List ℕ = render_from [] b ++ one_more in
      let sp = span_split (render_from [] b) one_more (span_whole (render_from [] b ++ one_more)) in
      let at : ℕ = 0 + length (render_from [] b) in
      let isn = and_left (is_name n) (not (reserved nodes n)) (and_left (well_named nodes n) (not (anyb (eql n) (names nodes b))) w) in
      let (o, wd, sc, it) = thing_item (render_from [] b ++ one_more) (0 + length (render_from [] b)) (length (render_from [] b ++ one_more)) sp.1 isn in
      refused_after (render_from [] b ++ one_more) b (0 + length (render_from [] b)) 7 v sp.0 (omega (arith, span_length sp.1, length-append (write_line b (node n iri)) (10 ∷ []), sp.1.from)) m
      (full-line (render_from [] b ++ one_more) b (0 + length (render_from [] b)) thing_l nodes [] refl o wd sc (ap (new_name b nodes) it ∙ w) (omega (arith, node-capacity)))
