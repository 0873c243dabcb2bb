-- The parts that are written from a valid book's tables and lists are the parts of its report.
use Prim.Native.Nat.{ℕ, zero, suc, ◌+◌, ◌*◌, ◌<◌, ◌≤◌}
use mathlib.Core.List.{List, [], ◌∷◌, ◌++◌, map, append-nil}
use mathlib.Core.Bool.{Bool, true, cond}
use mathlib.Core.Path.{◌≡◌, refl, sym, ap, ap₂, ◌∙◌}
use native.Mathlib.Nat.{zero-add}
use native.Mathlib.Omega.{arith}
use lib.Dec.{ltb}
use lib.IntN.{ℤ}
use lib.ListN.{length, get_or, take, drop}
use lib.Seq.{take_at, append_snoc}
use borrow.Author.Tests.{le-leb, ltb-true}
use Rattle.base.specs.Bounded.{every}
use Rattle.base.specs.Lists.{allb}
use Rattle.base.proofs.Bools.{and_left, and_right, and_both}
use Rattle.base.proofs.Bounded.{every-all, members-low}
use Rattle.text.specs.Pool.{all_names}
use Rattle.model.specs.Answers.{Answer, value, refusal, unless_refused}
use Rattle.model.specs.Rules.{Rule, violates, violations, no_rule}
use Rattle.model.specs.Books.{Book, nodes, names, rules, sub_class_of, graph_of, schema, list_of}
use Rattle.model.specs.Valid.{capacity, admissible}
use Rattle.model.proofs.Answers.{left_by}
use Rattle.model.proofs.Lines.{names-within, terms-counted}
use Rattle.model.specs.Limits.{max_nodes, name_bytes}
use Rattle.grammar.specs.Writing.{name_of}
use Rattle.grammar.specs.Valid.{valid}
use Rattle.grammar.proofs.Books.{valid-admissible}
use Rattle.tables.specs.Layout.{cell_count, node_count, rule_count}
use Rattle.tables.specs.WellFormed.{well_formed}
use Rattle.encoding.specs.Encode.{encode_names, encode_cells, pool_base}
use Rattle.encoding.proofs.Places.{below_or}
use Rattle.encoding.proofs.Counts.{cells-length, names-counted, facts_counted_lem, rules-counted}
use Rattle.encoding.proofs.Stored.{name_back}
use Rattle.encoding.proofs.WellFormed.{well_formed_lem}
use Rattle.stores.proofs.Prefixes.{valid-names}
use Rattle.lists.specs.Rows.{over, with_rows, with_lengths, row_in}
use Rattle.lists.proofs.ReadOff.{length_read, nodes_read}
use Rattle.lists.proofs.Rows.{few}
use Rattle.report.specs.Report.{head_line, break_lines, found_line, rule_lines, found, first_line, last_line, report, part, parts_joined}
use Rattle.report.specs.Pages.{found_in, part_in, length_ok, row_ok, report_part_ok}
use Rattle.tables.specs.Names.{node_name_at, name_from}
use Rattle.report.specs.Answers.{part_long, part_formed, has_part, text, part_answer, part_after}
use Rattle.report.proofs.Report.{rule_part, last-part, next_low, next_rule, next-count, parts_joined_lem}
use Rattle.report.proofs.Parts.{part_rule, part-last, ok-head, ok_rule, ok-last, ok-past}

-- ---- lists
map_same : {A : Type 0} (f g : ℕ → A) (p : ℕ → Bool) (l : List ℕ) → ((v : ℕ) → p v ≡ true → f v ≡ g v) → allb p l ≡ true → map f l ≡ map g l
unfolding allb
map_same f g p [] h e = refl
map_same {A} f g p (x ∷ l) h e = ap₂ (λ (y : A) (t : List A). y ∷ t) (h x (and_left (p x) (allb p l) e)) (map_same f g p l h (and_right (p x) (allb p l) e))

joined_same : (f g : ℕ → List ℕ) → ((k : ℕ) → f k ≡ g k) → (n : ℕ) → parts_joined f n ≡ parts_joined g n
unfolding parts_joined
joined_same f g e zero = refl
joined_same f g e (suc n) = ap₂ (λ (x y : List ℕ). x ++ y) (joined_same f g e n) (e n)

-- the rows hold the lists of the book, and the lengths say how long these are
pub record Holds (b : Book) (ls ks : List ℕ) : Type 0 where
  pub row : (r : ℕ) → r < length (rules b) → take (get_or ks r 0) (drop (max_nodes * r) ls) ≡ list_of b (get_or (rules b) r no_rule)
  pub size : (r : ℕ) → r < length (rules b) → get_or ks r 0 ≡ length (list_of b (get_or (rules b) r no_rule))

module _ (b : Book) (v : valid b ≡ true) where
  ok : admissible b ≡ true
  ok = valid-admissible b v

  made : all_names (names nodes b) ≡ true
  made = valid-names b v nodes

  few-nodes : length (names nodes b) ≤ max_nodes
  unfolding capacity
  few-nodes = names-within nodes b ok

  -- ---- a listed node is one of the book
  list_within : (r : Rule) → allb (λ n. ltb n (length (names nodes b))) (list_of b r) ≡ true
  unfolding list_of violations graph_of
  list_within r =
      ap (λ (k : ℕ). allb (λ n. ltb n k) (list_of b r)) (sym (terms-counted b))
      ∙ members-low (violates (sub_class_of b) (graph_of b) (schema b) r) (graph_of b).nodes (graph_of b).nodes (omega arith)

  list_few : (r : Rule) → length (list_of b r) ≤ max_nodes
  unfolding list_of violations graph_of
  list_few r = omega (arith, few (violates (sub_class_of b) (graph_of b) (schema b) r) (graph_of b).nodes, terms-counted b, few-nodes)

  -- ---- lists that stand at the front of their rows
  pub holds_rows : (ls ks : List ℕ) → max_nodes * length (rules b) ≤ length ls → length (rules b) ≤ length ks → Holds b (with_rows (λ r. list_of b (get_or (rules b) r no_rule)) (length (rules b)) ls) (with_lengths (λ r. list_of b (get_or (rules b) r no_rule)) (length (rules b)) ks)
  holds_rows ls ks room more =
      let list : ℕ → List ℕ = λ r. list_of b (get_or (rules b) r no_rule) in
      let short : (r : ℕ) → length (list_of b (get_or (rules b) r no_rule)) ≤ max_nodes = λ r. list_few (get_or (rules b) r no_rule) in
      let size = length_read list short (length (rules b)) ks more in
      record {
        row = λ r low. ap (λ (k : ℕ). take k (drop (max_nodes * r) (with_rows list (length (rules b)) ls))) (size r low) ∙ nodes_read list short (length (rules b)) ls room r low;
        size = size;
      }

  -- ---- its name is stored
  module _ (t : List ℕ) where
    abbrev table : List ℕ
    table = encode_names b ++ t

    pub name_read : (n : ℕ) → n < length (names nodes b) → node_name_at table n ≡ name_of b nodes n
    unfolding pool_base name_of
    name_read n h = ap (name_from table) (let z : name_bytes * n ≡ 0 + name_bytes * n = omega arith in z) ∙ name_back b nodes made ok t n h

    names_read : (r : Rule) → map (node_name_at table) (list_of b r) ≡ map (name_of b nodes) (list_of b r)
    names_read r = map_same (node_name_at table) (name_of b nodes) (λ n. ltb n (length (names nodes b))) (list_of b r) (λ n e. name_read n (ltb-true n (length (names nodes b)) e)) (list_within r)

  -- ---- the cells of the book, whatever lies past them
  cells_read : (t : List ℕ) → take cell_count (encode_cells b ++ t) ≡ encode_cells b
  cells_read t = take_at (encode_cells b) t cell_count (cells-length b)

  module _ (ls ks : List ℕ) (holds : Holds b ls ks) where
    -- ---- how many are listed
    found_read : (above rs : List Rule) → rules b ≡ above ++ rs → found_in ks (length above) + found b rs ≡ found_in ks (length (rules b))
    unfolding found found_in
    found_read above [] e = omega (arith, ap (λ (l : List Rule). found_in ks (length l)) (e ∙ append-nil above))
    found_read above (r ∷ rs) e =
        let k : ℕ = length above in
        let size : get_or ks k 0 ≡ length (list_of b r) = holds.size k (next_low b above rs r e) ∙ ap (λ (x : Rule). length (list_of b x)) (next_rule b above rs r e) in
        omega (arith, ap (found_in ks) (next-count b above rs r e), size, found_read (above ++ (r ∷ [])) rs (e ∙ sym (append_snoc above r rs)))

    -- ---- the lists have no ground for refusal 9
    length-ok : (r : ℕ) → r < length (rules b) → length_ok ks r ≡ true
    length-ok r low = le-leb (get_or ks r 0) max_nodes (omega (arith, holds.size r low, list_few (get_or (rules b) r no_rule)))

    row-ok : (r : ℕ) → r < length (rules b) → row_ok (encode_cells b) ls ks r ≡ true
    unfolding row_ok row_in
    row-ok r low =
        let rule : Rule = get_or (rules b) r no_rule in
        and_both (length_ok ks r) (allb (λ n. ltb n (node_count (encode_cells b))) (take (get_or ks r 0) (drop (max_nodes * r) ls))) (length-ok r low)
        (ap₂ (λ (k : ℕ) (l : List ℕ). allb (λ n. ltb n k) l) (names-counted b nodes) (holds.row r low) ∙ list_within rule)

    lengths-ok : every (length_ok ks) (rule_count (encode_cells b)) ≡ true
    lengths-ok = every-all (length_ok ks) (rule_count (encode_cells b)) (λ r low. length-ok r (omega (arith, rules-counted b)))

    part-ok : (k : ℕ) → report_part_ok (encode_cells b) ls ks k ≡ true
    part-ok zero = ok-head (encode_cells b) ls ks 0 refl
    part-ok (suc r) =
        below_or (report_part_ok (encode_cells b) ls ks (suc r) ≡ true) r (length (rules b))
        (λ low. ok_rule (encode_cells b) ls ks (suc r) r refl (omega (arith, rules-counted b)) ∙ row-ok r low)
        (λ high. below_or (report_part_ok (encode_cells b) ls ks (suc r) ≡ true) (length (rules b)) r
        (λ past. ok-past (encode_cells b) ls ks (suc r) (omega (arith, rules-counted b)))
        (λ last. ok-last (encode_cells b) ls ks (suc r) (omega (arith, rules-counted b)) ∙ lengths-ok))

    module _ (t : List ℕ) where
      -- a part by the tables is the part of the book
      pub part_read : (k : ℕ) → part_in (encode_names b ++ t) (encode_cells b) ls ks k ≡ part b k
      unfolding part_in part first_line last_line rule_lines row_in found_in
      part_read zero = λ i. head_line (names-counted b nodes i) (facts_counted_lem b i) (rules-counted b i)
      part_read (suc k) =
          let ns : List ℕ = encode_names b ++ t in
          let cs : List ℕ = encode_cells b in
          let rule : Rule = get_or (rules b) k no_rule in
          below_or (part_in ns cs ls ks (suc k) ≡ part b (suc k)) k (length (rules b))
          (λ low. sym (part_rule ns cs ls ks (suc k) k refl (omega (arith, rules-counted b)))
          ∙ (ap (λ (l : List ℕ). break_lines k (map (node_name_at ns) l)) (holds.row k low) ∙ (ap (break_lines k) (names_read t rule) ∙ sym (rule_part b k low))))
          (λ high. sym (part-last ns cs ls ks (suc k) (omega (arith, rules-counted b)))
          ∙ (ap found_line (ap (found_in ks) (rules-counted b) ∙ (sym (found_read [] (rules b) refl) ∙ zero-add (found b (rules b)))) ∙ sym (last-part b k high)))

      -- the parts, one after the other, are the report
      pub report_read : parts_joined (part_in (encode_names b ++ t) (encode_cells b) ls ks) (length (rules b) + 2) ≡ report b
      report_read = joined_same (part_in (encode_names b ++ t) (encode_cells b) ls ks) (part b) part_read (length (rules b) + 2) ∙ parts_joined_lem b

      -- ---- what the operation answers: of all refusals 8 alone
      module _ (past : List ℕ) (vs : List ℤ) (k : ℕ) (page : List ℕ) (inside : k ≤ length (rules b) + 1) where
        abbrev Cs : List ℕ
        Cs = encode_cells b ++ past

        formed_here : part_formed (take cell_count Cs) ls ks k ≡ true
        formed_here = ap (λ (cs : List ℕ). part_formed cs ls ks k) (cells_read past) ∙ and_both (well_formed (encode_cells b)) (report_part_ok (encode_cells b) ls ks k) (well_formed_lem b ok) (part-ok k)

        part_here : has_part (take cell_count Cs) k ≡ true
        part_here = ap (λ (cs : List ℕ). has_part cs k) (cells_read past) ∙ le-leb k (rule_count (encode_cells b) + 1) (omega (arith, inside, rules-counted b))

        text_here : text (encode_names b ++ t) Cs vs ls ks k page ≡ part b k
        text_here = ap (λ (cs : List ℕ). part_in (encode_names b ++ t) cs ls ks k) (cells_read past) ∙ part_read k

        pub part-answer : part_answer (encode_names b ++ t) Cs vs ls ks k page ≡ cond (part_long (encode_names b ++ t) Cs vs ls ks page) (value (length (part b k))) (refusal 8 0)
        unfolding part_answer
        part-answer = rw (formed_here, part_here, text_here)

        pub part_page : part_after (encode_names b ++ t) Cs vs ls ks k page ≡ cond (part_long (encode_names b ++ t) Cs vs ls ks page) (over (part b k) page) page
        unfolding part_after
        part_page =
            ap₂ (λ (x : Answer ℕ) (w : List ℕ). unless_refused x (over w page) page) part-answer text_here
            ∙ left_by (part_long (encode_names b ++ t) Cs vs ls ks page) (value (length (part b k))) (refusal 8 0) (over (part b k) page) page
