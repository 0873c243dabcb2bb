-- How a book is read: item by item from the left, and at one item the lowest refusal first.
use Rattle.std.specs.Prelude.{ℕ, zero, suc, ◌+◌, ◌-◌, List, [], ◌∷◌, ◌++◌, map, Bool, true, false, not, cond, eqb, ltb, leb, length, get_or, ℤ}
use Rattle.std.proofs.Math.Seq.{slice}
use Rattle.base.specs.Bytes.{bytes, eql}
use Rattle.text.specs.Items.{item_end}
use Rattle.text.specs.Decimals.{number_of, bound_of}
use Rattle.text.specs.Pool.{index_of}
use Rattle.model.specs.Limits.{max_bytes, max_depth, max_rules, max_facts, max_forms, max_paths, max_items}
use Rattle.model.specs.Answers.{Answer, refusal}
use Rattle.model.specs.Graph.{iri, lang_string}
use Rattle.model.specs.Paths.{Path, predicate, End, self, along}
use Rattle.model.specs.Shapes.{Kind, an_iri, a_blank, a_literal, Upper, at_most, unbounded, Shape, top}
use Rattle.model.specs.Rules.{Target}
use Rattle.model.specs.Books.{Name, Line, Book, Pool, nodes, links, types, names, collect, new_terms, new_triples, rules}
use Rattle.model.specs.Sizes.{path_entries, end_entries, form_entries, shape_paths, list_items, forms_in, paths_in, items_in}
use Rattle.model.specs.Valid.{has_room, is_resource}
use Rattle.grammar.specs.Writing.{write_kind}
use Rattle.grammar.specs.Valid.{well_named}
use Rattle.grammar.specs.Syntax.{Slot, used, new, subject, literal_type, kind_word, value, low, high, path, end, form, target, list, Arg, Args, Family, path_family, form_family, target_family, LineCode, link_l, type_l, lang_l, thing_l, blank_l, number_l, text_l, words_l, fact_l, shape_l, rule_l, line_family}
use Rattle.std.specs.Prelude.{Option, Some, None}
use Rattle.std.specs.Prelude.{Result, Ok, Err}
use Rattle.text.specs.declared.NumberError.{NumberError}
use Rattle.text.specs.declared.NumberError.TheVariants.{Malformed, Range}

-- how many brackets may be open together within a line's own
abbrev pub max_within : ℕ
max_within = max_depth - 1

-- what was read and the position after it; or the number of a refusal
pub data Read (A : Type 0) : Type 0 where
  got : A → ℕ → Read A
  refused : ℕ → Read A

abbrev pub and_then : {A B : Type 0} → Read A → (A → ℕ → Read B) → Read B
and_then (got x next) k = k x next
and_then (refused r) k = refused r

-- how many form entries, path entries and list items of the book have begun
pub record Begun : Type 0 where
  pub forms : ℕ
  pub paths : ℕ
  pub items : ℕ

abbrev pub form_begun : Begun → Begun
form_begun n = record { forms = n.forms + 1; paths = n.paths; items = n.items }

abbrev pub path_begun : Begun → Begun
path_begun n = record { forms = n.forms; paths = n.paths + 1; items = n.items }

-- those of the lines above, all of which have ended too
unfoldable pub begun_above : Book → Begun
begun_above above = record { forms = forms_in above; paths = paths_in above; items = items_in above }

-- those of what stands at a place: only END, FORM, PATH and lists have any
unfoldable pub after : (k : Slot) → Arg k → Begun → Begun
after (used p) a n = n
after (new p) a n = n
after subject a n = n
after literal_type a n = n
after kind_word a n = n
after value a n = n
after low a n = n
after high a n = n
after path a n = record { forms = n.forms; paths = n.paths + path_entries a; items = n.items }
after end a n = record { forms = n.forms; paths = n.paths + end_entries a; items = n.items }
after form a n = record { forms = n.forms + form_entries a; paths = n.paths + shape_paths a; items = n.items + list_items a }
after target a n = n
after (list p) a n = record { forms = n.forms; paths = n.paths; items = n.items + length a }

-- the readers of what nests: PATH, FORM and TARGET at a position
pub record Readers : Type 0 where
  pub path_r : Begun → ℕ → Read Path
  pub form_r : Begun → ℕ → Read Shape
  pub target_r : Begun → ℕ → Read Target

-- s: the text; above: what the lines above say
module _ (s : List ℕ) (above : Book) where
  -- the item at a position
  abbrev pub item : ℕ → List ℕ
  item at = slice at (item_end s at) s

  -- ---- single items
  abbrev pub known : Option ℕ → ℕ → Read ℕ
  known (Some k) next = got k next
  known None next = refused 5

  unfoldable pub used_at : Pool → ℕ → Read ℕ
  used_at p at = cond (well_named p (item at)) (known (index_of (names p above) (item at)) (item_end s at)) (refused 2)

  unfoldable pub subject_at : ℕ → Read ℕ
  subject_at at = and_then (used_at nodes at) (λ v next. cond (is_resource (get_or (collect new_terms above) v iri)) (got v next) (refused 2))

  unfoldable pub literal_type_at : ℕ → Read ℕ
  literal_type_at at = and_then (used_at types at) (λ t next. cond (not (eqb t lang_string)) (got t next) (refused 2))

  abbrev pub unknown : Option ℕ → Read Name → Read Name
  unknown (Some k) r = refused 6
  unknown None r = r

  unfoldable pub new_at : Pool → ℕ → Read Name
  new_at p at = cond (well_named p (item at)) (unknown (index_of (names p above) (item at)) (cond (has_room above p) (got (item at) (item_end s at)) (refused 7))) (refused 2)

  abbrev pub kind_numbered : Option ℕ → ℕ → Read Kind
  kind_numbered (Some k) next = got (get_or (an_iri ∷ a_blank ∷ a_literal ∷ []) k a_literal) next
  kind_numbered None next = refused 2

  unfoldable pub kind_at : ℕ → Read Kind
  kind_at at = kind_numbered (index_of (map write_kind (an_iri ∷ a_blank ∷ a_literal ∷ [])) (item at)) (item_end s at)

  abbrev pub valued : Result ℤ NumberError → ℕ → Read ℤ
  valued (Err Malformed) next = refused 2
  valued (Err Range) next = refused 3
  valued (Ok x) next = got x next

  unfoldable pub value_at : ℕ → Read ℤ
  value_at at = valued (number_of (item at)) (item_end s at)

  abbrev pub bounded : Result ℕ NumberError → ℕ → Read ℕ
  bounded (Err Malformed) next = refused 2
  bounded (Err Range) next = refused 3
  bounded (Ok n) next = got n next

  unfoldable pub low_at : ℕ → Read ℕ
  low_at at = bounded (bound_of (item at)) (item_end s at)

  unfoldable pub high_at : ℕ → Read Upper
  high_at at = cond (eql (item at) (bytes "*")) (got unbounded (item_end s at)) (and_then (low_at at) (λ n next. got (at_most n) next))

  -- names of a pool, a space before each, as many as there are; room: how many more items the book may have
  unfoldable pub list_at : Pool → ℕ → ℕ → Read (List ℕ)
  list_at p zero at = cond (eqb (get_or s at 0) 32) (and_then (used_at p (at + 1)) (λ k next. refused 7)) (got [] at)
  list_at p (suc room) at = cond (eqb (get_or s at 0) 32) (and_then (used_at p (at + 1)) (λ k next. and_then (list_at p room next) (λ ks last. got (k ∷ ks) last))) (got [] at)

  -- ---- what stands at a place, with the space before it
  abbrev pub space_at : {A : Type 0} → ℕ → (ℕ → Read A) → Read A
  space_at at read = cond (eqb (get_or s at 0) 32) (read (at + 1)) (refused 2)

  unfoldable pub end_at : Readers → Begun → ℕ → Read End
  end_at R n at = cond (eql (item at) (bytes "id")) (got self (item_end s at)) (and_then (R.path_r n at) (λ e next. got (along e) next))

  unfoldable pub arg_at : Readers → (k : Slot) → Begun → ℕ → Read (Arg k)
  arg_at R (used p) n at = space_at at (used_at p)
  arg_at R (new p) n at = space_at at (new_at p)
  arg_at R subject n at = space_at at subject_at
  arg_at R literal_type n at = space_at at literal_type_at
  arg_at R kind_word n at = space_at at kind_at
  arg_at R value n at = space_at at value_at
  arg_at R low n at = space_at at low_at
  arg_at R high n at = space_at at high_at
  arg_at R path n at = space_at at (R.path_r n)
  arg_at R end n at = space_at at (end_at R n)
  arg_at R form n at = space_at at (R.form_r n)
  arg_at R target n at = space_at at (R.target_r n)
  arg_at R (list p) n at = list_at p (max_items - n.items) at

  unfoldable pub args_at : Readers → (ks : List Slot) → Begun → ℕ → Read (Args ks)
  args_at R [] n at = got tt at
  args_at R (k ∷ ks) n at = and_then (arg_at R k n at) (λ a next. and_then (args_at R ks (after k a n) next) (λ xs last. got (a, xs) last))

  -- ---- brackets
  -- the closing bracket of x; room: x is deeper its limit
  unfoldable pub close_at : {A : Type 0} → Bool → A → ℕ → Read A
  close_at room x at = cond (eqb (get_or s at 0) 41) (cond room (got x (at + 1)) (refused 7)) (refused 2)

  module _ {A : Type 0} (F : Family A) (R : Readers) where
    -- what follows the word of code c
    unfoldable pub body_at : (room : F.Code → Bool) → F.Code → Begun → ℕ → Read A
    body_at room c n at = and_then (args_at R (F.slots c) n at) (λ xs next. close_at (room c) (F.build c xs) next)

    -- deep: no bracket may be opened here; full: no entry may begin here
    abbrev pub headed : (deep full : Bool) → (F.Code → Bool) → Begun → Option ℕ → ℕ → Read A
    headed deep full room n None at = refused 2
    headed deep full room n (Some k) at = cond deep (refused 4) (cond full (refused 7) (body_at room (get_or F.codes k F.other) n at))

    -- a bracket of the family; or, where none opens, what bare reads
    unfoldable pub bracket_at : (deep full : Bool) → (F.Code → Bool) → (bare : Read A) → Begun → ℕ → Read A
    bracket_at deep full room bare n at = cond (eqb (get_or s at 0) 40) (headed deep full room n (index_of (map F.word F.codes) (item (at + 1))) (item_end s (at + 1))) bare

  -- ---- PATH, FORM, TARGET
  unfoldable pub link_at : Bool → ℕ → Read Path
  link_at full at = and_then (used_at links at) (λ p next. cond full (refused 7) (got (predicate p) next))

  unfoldable pub true_at : Bool → ℕ → Read Shape
  true_at full at = cond (eql (item at) (bytes "true")) (cond full (refused 7) (got top (item_end s at))) (refused 2)

  -- the readers with one bracket more, where R reads deeper it; deep: no bracket more
  unfoldable pub deeper : Bool → Readers → Readers
  deeper deep R =
      record {
        path_r = λ n at. bracket_at path_family R deep (leb max_paths n.paths) (λ c. true) (link_at (leb max_paths n.paths) at) (path_begun n) at;
        form_r = λ n at. bracket_at form_family R deep (leb max_forms n.forms) (λ c. true) (true_at (leb max_forms n.forms) at) (form_begun n) at;
        target_r = λ n at. bracket_at target_family R deep false (λ c. true) (refused 2) n at;
      }

  abbrev pub no_readers : Readers
  no_readers = record { path_r = λ n at. refused 4; form_r = λ n at. refused 4; target_r = λ n at. refused 4 }

  -- with as many brackets left to open
  unfoldable pub readers_at : ℕ → Readers
  readers_at zero = deeper true no_readers
  readers_at (suc left) = deeper false (readers_at left)

  -- ---- lines
  -- facts and rules have their limit at the closing bracket
  unfoldable pub line_room : LineCode → Bool
  line_room link_l = true
  line_room type_l = true
  line_room lang_l = true
  line_room thing_l = true
  line_room blank_l = true
  line_room number_l = true
  line_room text_l = true
  line_room words_l = true
  line_room fact_l = ltb (length (collect new_triples above)) max_facts
  line_room shape_l = true
  line_room rule_l = ltb (length (rules above)) max_rules

  -- a line and its LF; its own bracket is open
  unfoldable pub line_at : ℕ → Read Line
  line_at at = and_then (bracket_at line_family (readers_at max_within) false false line_room (refused 2) (begun_above above) at) (λ l next. cond (eqb (get_or s next 0) 10) (got l (next + 1)) (refused 2))

-- a line was read, and what follows it; or the refusal at that line
abbrev pub follow : ℕ → Read Line → (Line → ℕ → Answer Book) → Answer Book
follow line (got l next) k = k l next
follow line (refused r) k = refusal r line

module _ (s : List ℕ) where
  -- the lines from a position on, after the book above, of which there are line; at most fuel of them
  unfoldable pub lines_from : ℕ → ℕ → ℕ → Book → Answer Book
  lines_from zero at line above = Answer.value above
  lines_from (suc fuel) at line above =
      cond (ltb at (length s))
      (follow (line + 1) (line_at s above at) (λ l next. lines_from fuel next (line + 1) (above ++ (l ∷ []))))
      (Answer.value above)

-- each line has at least a byte, so a text has no more lines than bytes
unfoldable pub reading : List ℕ → Answer Book
reading s = cond (ltb max_bytes (length s)) (refusal 1 0) (lines_from s (length s) 0 0 [])
