-- Document 01's wrong programs of demand 3: each with the claim is absurd. A program that answers 8 always; one whose runner
-- touches no work space; one whose compiler has None for every rule but the first.
use Prim.Native.Nat.{ℕ, ◌+◌, ◌*◌, ◌/◌, ◌%◌, ◌<◌}
use mathlib.Core.Path.{◌≡◌, refl, sym, ap, subst, ◌∙◌}
use mathlib.Core.List.{List, [], ◌∷◌, ◌++◌}
use mathlib.Core.Bool.{Bool, true, false, ◌&&◌, and-false}
use native.Mathlib.Omega.{arith}
use lib.Dec.{ltb}
use lib.ListN.{length, drop, replicate}
use Rattle.base.proofs.Lists.{zeros_at}
use Rattle.base.specs.Range.{in_range}
use Rattle.base.specs.Bytes.{eql}
use Rattle.base.specs.Bounded.{some, every, one, size}
use Rattle.base.specs.Lists.{anyb, allb, member}
use Rattle.base.specs.Numbered.{below}
use Rattle.base.proofs.Bools.{and_right, never_both}
use Rattle.base.proofs.Bounded.{member-members}
use Rattle.base.proofs.Numbered.{at-number}
use Rattle.nodeset.specs.Words.{bit, has, nodes_of}
use Rattle.nodeset.proofs.Bits.{bit_zero}
use Rattle.nodeset.proofs.Sets.{has-drop, has-take, has_of}
use Rattle.text.specs.Items.{name_byte, is_name}
use Rattle.text.specs.Decimals.{signed, decimal, digits_of}
use Rattle.model.specs.Answers.{Answer, value, refusal}
use Rattle.model.specs.Graph.{value_of, datatype_of, language_of, holds, has_triple}
use Rattle.model.specs.Paths.{ends, ends_of}
use Rattle.model.specs.Shapes.{is_kind, satisfies, within, subset, none_shared, all_pairs, less, less_eq, same_lang, conforms, expand}
use Rattle.model.specs.Rules.{subjects_of, selects, violates}
use Rattle.model.specs.Books.{Book, rule, new_names, new_terms, new_triples, new_shapes, new_rules, joins, collect, built_in, names, graph_of, schema_from, schema, rules}
use Rattle.model.specs.Sizes.{path_entries, end_entries, form_entries, shape_paths, list_items, sum_over, forms_in, paths_in, items_in}
use Rattle.model.specs.Valid.{capacity, is_resource, defined, has_room, term_ok, fact_ok, path_ok, end_ok, shape_ok, target_ok, entries_fit, line_ok}
use Rattle.model.specs.Cases.{book_b}
use Rattle.model.specs.Limits.{max_nodes}
use Rattle.grammar.specs.Writing.{spaced, bracket, name_of, write_path, write_end, write_shape, write_target, write_node, write_line, render_from, render}
use Rattle.grammar.specs.Valid.{path_depth, end_depth, shape_depth, line_depth, reserved, well_named, new_name, names_ok, valid_line, valid_from, valid}
use Rattle.grammar.proofs.BookB.{b-valid}
use Rattle.grammar.proofs.Books.{valid-admissible}
use Rattle.tables.specs.Layout.{node_count}
use Rattle.encoding.specs.Encode.{encode_cells}
use Rattle.encoding.proofs.Counts.{rules-counted}
use Rattle.encoding.proofs.WellFormed.{well_formed_lem}
use Rattle.plan.specs.Steps.{Step}
use Rattle.plan.specs.Layout.{rule_step_at, step_at, step_count}
use Rattle.plan.specs.Sets.{in_step, set_by, set_at}
use Rattle.plancheck.proofs.WellFormed as plans
use Rattle.translation.specs.Compile.{plan_of}
use Rattle.runner.specs.Run.{work_count, set_words}
use Rattle.lists.specs.Rows.{list_in}
use Rattle.tablerun.proofs.Lists.{bare_well_formed}
use Rattle.validation.specs.Lent.{Lent, validate_long, cells_in, values_in, plan_in, sub_class_in}
use Rattle.validation.specs.Claim.{rule_of, violates_in, Right, Answers, Demand3}

-- ---- where the slices are long enough, the answer is a number of steps
rightly : (b : Book) (before after : Lent) (a : Answer ℕ) → Answers b before a after → validate_long before ≡ true → (n : ℕ) × Right b after n
rightly b before after (value n) q e = (n, q.1)
rightly b before after (refusal k line) q e = absurd (never_both e q.0)

-- what breaks a rule stands in the words of the rule's step
module _ (b : Book) (after : Lent) (n : ℕ) (h : Right b after n) where
  in_words : (r : ℕ) → r < length (rules b) → (v : ℕ) → violates_in b (rule_of b r) v ≡ true → has (drop (16 * rule_step_at (plan_in after) r) after.work) v ≡ true
  unfolding list_in
  in_words r low v e =
      let s : ℕ → Bool = has (drop (16 * rule_step_at (plan_in after) r) after.work) in
      and_right (ltb v (node_count (cells_in after))) (s v)
      (sym (member-members s (node_count (cells_in after)) v) ∙ sym (ap (member v) (h.read_off r low)) ∙ h.exactly r low v ∙ e)

-- ---- a program that answers 8 always
pub always_8 : (before after : Lent) → Demand3 (render book_b) before (refusal 8 0) after → validate_long before ≡ true → ⊥
always_8 before after claim e = never_both e (claim book_b b-valid refl).0

-- ---- a runner that touches no work space: over zeros no break is listed
no_member : (n i v : ℕ) → has (drop i (replicate n 0)) v ≡ false
unfolding has
no_member n i v = has-drop (replicate n 0) i v ∙ ap (λ (x : ℕ). bit x ((i * 64 + v) % 64)) (zeros_at n ((i * 64 + v) / 64)) ∙ bit_zero ((i * 64 + v) % 64)

left-breaks : violates_in book_b (rule_of book_b 0) 0 ≡ true
unfolding some every one size anyb allb member value_of datatype_of language_of holds has_triple ends ends_of is_kind satisfies within subset none_shared all_pairs less less_eq same_lang conforms expand selects new_terms new_triples new_shapes new_rules collect graph_of schema_from schema rules violates
left-breaks = refl

one_rule : length (rules book_b) ≡ 1
unfolding rules new_rules collect
one_rule = refl

pub no-work : (before after : Lent) (a : Answer ℕ) → Demand3 (render book_b) before a after → validate_long before ≡ true → before.work ≡ replicate work_count 0 → after.work ≡ before.work → ⊥
no-work before after a claim e zeros same =
    let q = rightly book_b before after a (claim book_b b-valid refl) e in
    let low : 0 < length (rules book_b) = omega (arith, one_rule) in
    never_both
    (ap (λ (ws : List ℕ). has (drop (16 * rule_step_at (plan_in after) 0) ws) 0) (sym (same ∙ zeros)) ∙ in_words book_b after q.0 q.1 0 low 0 left-breaks)
    (no_member work_count (16 * rule_step_at (plan_in after) 0) 0)

-- ---- a compiler with None for every rule but the first, on book B with its rule twice
abbrev pub twice : Book
twice = book_b ++ (rule (record { shape = 0; target = subjects_of 2 }) ∷ [])

twice-valid : valid twice ≡ true
unfolding valid valid_from valid_line names_ok new_name well_named reserved is_name name_byte anyb allb eql line_depth shape_depth end_depth path_depth line_ok has_room capacity term_ok fact_ok shape_ok end_ok path_ok target_ok entries_fit defined in_range is_resource names built_in collect new_names joins new_terms new_triples new_shapes new_rules rules forms_in paths_in items_in sum_over path_entries end_entries form_entries shape_paths list_items render render_from write_line write_node write_shape write_target write_end write_path name_of bracket spaced signed decimal digits_of
twice-valid = refl

left-breaks_again : violates_in twice (rule_of twice 1) 0 ≡ true
unfolding some every one size anyb allb member value_of datatype_of language_of holds has_triple ends ends_of is_kind satisfies within subset none_shared all_pairs less less_eq same_lang conforms expand selects new_terms new_triples new_shapes new_rules collect graph_of schema_from schema rules violates
left-breaks_again = refl

two-rules : length (rules twice) ≡ 2
unfolding rules new_rules collect
two-rules = refl

module _ (b : Book) (ok : valid b ≡ true) (after : Lent) (n : ℕ) (h : Right b after n) (r : ℕ) (low : r < length (rules b)) where
  abbrev k : ℕ
  k = rule_step_at (plan_in after) r

  -- a rule's step is a step of the plan
  step_there : k < n
  step_there =
      let fine = well_formed_lem b (valid-admissible b ok) in
      let known = subst (λ m. r < m) (sym (rules-counted b)) low in
      let there = (plans.sound (encode_cells b) (plan_of (encode_cells b)) (bare_well_formed (encode_cells b) fine)).rule r known in
      subst (λ m. k < m) h.counted (subst (λ (ps : List ℕ). rule_step_at ps r < step_count ps) (sym (h.planned ∙ ap plan_of h.cells)) there)

  -- None has no members
  none-empty : step_at (plan_in after) k ≡ Step.none → (v : ℕ) → v < max_nodes → has (drop (16 * k) after.work) v ≡ false
  unfolding set_words nodes_of set_at set_by in_step
  none-empty e v l =
      let cs : List ℕ = cells_in after in
      let made : ℕ → (ℕ → ℕ → Bool) → ℕ → Bool = λ j sets. in_step (sub_class_in after) cs (values_in after) (step_at (plan_in after) j) sets in
      let sets : ℕ → ℕ → Bool = below (λ w. false) made k in
      sym (has-take (drop (16 * k) after.work) 16 v l)
      ∙ has_of (λ w. ltb w (node_count cs) && set_at (sub_class_in after) cs (values_in after) (plan_in after) k w) 16 (h.ran k step_there) v l
      ∙ ap (λ (s : ℕ → Bool). ltb v (node_count cs) && s v) (at-number (λ w. false) made k)
      ∙ ap (λ (x : Step). ltb v (node_count cs) && in_step (sub_class_in after) cs (values_in after) x sets v) e
      ∙ and-false (ltb v (node_count cs))

pub first_rule_only : (before after : Lent) (a : Answer ℕ) → Demand3 (render twice) before a after → validate_long before ≡ true → step_at (plan_in after) (rule_step_at (plan_in after) 1) ≡ Step.none → ⊥
first_rule_only before after a claim e none =
    let q = rightly twice before after a (claim twice twice-valid refl) e in
    let low : 1 < length (rules twice) = omega (arith, two-rules) in
    never_both (in_words twice after q.0 q.1 1 low 0 left-breaks_again) (none-empty twice twice-valid after q.0 q.1 1 low none 0 (omega arith))
