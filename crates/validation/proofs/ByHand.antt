-- For who calls the operations one after the other: after read has accepted a book, compile, run and list, on whatever buffers,
-- get no refusal but 8, and that exactly where a lent slice is too short; else the plan has at most four steps for each form entry
-- and two for each rule, and each rule's list is what the book says.
use Prim.Native.Nat.{ℕ, ◌+◌, ◌*◌, ◌<◌, ◌≤◌}
use mathlib.Core.Path.{◌≡◌, refl, sym, ap, ap₂, subst, ◌∙◌}
use mathlib.Core.List.{List, ◌++◌}
use mathlib.Core.Bool.{Bool, true, false, cond, ◌&&◌}
use native.Mathlib.Omega.{arith}
use lib.Dec.{leb, ltb}
use lib.IntN.{ℤ}
use lib.ListN.{length, take, drop, length-append, length-drop}
use borrow.Author.Tests.{leb-true, lt-ltb}
use Rattle.base.proofs.Bools.{bool_cases, and_left, and_right, and_both}
use Rattle.model.specs.Answers.{value, refusal}
use Rattle.model.proofs.Answers.{short, done}
use Rattle.model.specs.Limits.{max_nodes}
use Rattle.model.specs.Books.{Book, sub_class_of, rules, list_of}
use Rattle.model.specs.Sizes.{forms_in}
use Rattle.tables.specs.Layout.{cell_count, rule_count}
use Rattle.tables.specs.Sizes.{long_enough}
use Rattle.tables.specs.WellFormed.{well_formed}
use Rattle.encoding.specs.Encode.{encode_cells, encode_values}
use Rattle.encoding.proofs.Counts.{rules-counted}
use Rattle.encoding.proofs.WellFormed.{well_formed_lem}
use Rattle.grammar.specs.Writing.{render}
use Rattle.grammar.specs.Valid.{valid}
use Rattle.plan.specs.Layout.{plan_count, step_count}
use Rattle.plan.specs.WellFormed.{plan_well_formed}
use Rattle.translation.specs.Compile.{steps_of, plan_of}
use Rattle.compiler.specs.Answers as compiles
use Rattle.compiler.proofs.Answers.{compile_answers}
use Rattle.runner.specs.Run as runs
use Rattle.runner.proofs.Answers.{run-answers}
use Rattle.runner.proofs.Work.{length-filled}
use Rattle.plancheck.specs.Both.{both_well_formed}
use Rattle.plancheck.proofs.Both.{both_formed}
use Rattle.plancheck.proofs.WellFormed as plans
use Rattle.translation.proofs.Plans.{length-plan_of}
use Rattle.lists.specs.Rows.{over, list_in}
use Rattle.lists.specs.Answers as lists
use Rattle.lists.proofs.Answers.{list_answers}
use Rattle.tablerun.proofs.Answers as tablerun
use Rattle.tablerun.proofs.Lists.{bare_well_formed, rule_nodes}
use Rattle.validation.specs.Claim.{rule_of}
use Rattle.validation.proofs.Books.{list_read, steps-few}
use Rattle.validation.proofs.Tables.{fine, names', cells', values', cells_read, values_read, sub_read, still-long, well_formed_read}

module _ (s ns cs : List ℕ) (vs : List ℤ) (e : long_enough ns cs vs ≡ true) (b : Book) (v : valid b ≡ true) (r : render b ≡ s) where
  -- names, cells and values as read left them
  abbrev n : List ℕ
  n = names' s ns cs vs e b v r

  abbrev c : List ℕ
  c = cells' s ns cs vs e b v r

  abbrev w : List ℤ
  w = values' s ns cs vs e b v r

  long' : long_enough n c w ≡ true
  long' = still-long s ns cs vs e b v r

  right' : well_formed (take cell_count c) ≡ true
  right' = well_formed_read s ns cs vs e b v r

  abbrev cells : List ℕ
  cells = encode_cells b

  -- ---- compile
  pub few-steps : length (steps_of cells) ≤ 4 * forms_in b + 2 * length (rules b)
  few-steps = steps-few b (fine s ns cs vs e b v r)

  module _ (ps : List ℕ) where
    -- the lent plan is long enough
    abbrev plan_fits : Bool
    plan_fits = leb plan_count (length ps)

    -- the plan as compile left it
    abbrev pub plan' : List ℕ
    plan' = compiles.plan_after n c w ps

    pub compiled_by_hand : compiles.compile_answer n c w ps ≡ cond plan_fits (value (length (steps_of cells))) (refusal 8 0)
    unfolding compiles.compile_answer
    compiled_by_hand = rw (long', right', cells_read s ns cs vs e b v r) refl

    unchanged : plan_fits ≡ false → plan' ≡ ps
    unchanged t = sym (short (compile_answers n c w ps) (ap₂ (λ (x y : Bool). x && y) long' t)).1

    module _ (t : plan_fits ≡ true) where
      plan-room : plan_count ≤ length ps
      plan-room = leb-true plan_count (length ps) t

      made : plan' ≡ plan_of (take cell_count c) ++ drop plan_count ps
      made = tablerun.plan-left n c w ps long' right' plan-room

    plan-length : length plan' ≡ length ps
    plan-length =
        bool_cases (λ t. plan_fits ≡ t → length plan' ≡ length ps) plan_fits
        (λ _ t. let z : length plan' ≡ length ps = omega (arith, plan-room t, ap length (made t), length-append (plan_of (take cell_count c)) (drop plan_count ps), length-plan_of (take cell_count c), length-drop plan_count ps) in z)
        (λ _ t. ap length (unchanged t))
        refl

    -- ---- run
    module _ (ws : List ℕ) where
      -- plan and work space are long enough
      abbrev work_fits : Bool
      work_fits = plan_fits && leb runs.work_count (length ws)

      abbrev pub work' : List ℕ
      work' = runs.work_after n c w plan' ws

      run_long_lem : runs.run_long n c w plan' ws ≡ work_fits
      unfolding runs.run_long
      run_long_lem = rw (long', plan-length) refl

      module _ (t : work_fits ≡ true) where
        plan-fits : plan_fits ≡ true
        plan-fits = and_left plan_fits (leb runs.work_count (length ws)) t

        work-room : runs.work_count ≤ length ws
        work-room = leb-true runs.work_count (length ws) (and_right plan_fits (leb runs.work_count (length ws)) t)

        plan-is : take plan_count plan' ≡ plan_of cells
        plan-is = tablerun.plan-cells n c w ps long' right' (plan-room plan-fits) plan' ws (made plan-fits) work-room ∙ ap plan_of (cells_read s ns cs vs e b v r)

        plan-right : plan_well_formed (take cell_count c) (take plan_count plan') ≡ true
        plan-right = tablerun.plan-right n c w ps long' right' (plan-room plan-fits) plan' ws (made plan-fits) work-room

        filled : work' ≡ runs.filled (sub_class_of b) cells (encode_values b) (plan_of cells) ws
        filled =
            tablerun.work-left n c w ps long' right' (plan-room plan-fits) plan' ws (made plan-fits) work-room
            ∙ (λ i. runs.filled (sub_read s ns cs vs e b v r i) (cells_read s ns cs vs e b v r i) (values_read s ns cs vs e b v r i) (plan_of (cells_read s ns cs vs e b v r i)) ws)

        ran : runs.run_answer n c w plan' ws ≡ value tt
        ran = tablerun.run_value n c w ps long' right' (plan-room plan-fits) plan' ws (made plan-fits) work-room

      not-run : work_fits ≡ false → (refusal 8 0 ≡ runs.run_answer n c w plan' ws) × (ws ≡ work')
      not-run t = short (run-answers n c w plan' ws) (run_long_lem ∙ t)

      pub ran_by_hand : runs.run_answer n c w plan' ws ≡ cond work_fits (value tt) (refusal 8 0)
      ran_by_hand =
          bool_cases (λ t. work_fits ≡ t → runs.run_answer n c w plan' ws ≡ cond t (value tt) (refusal 8 0)) work_fits
          (λ _ t. ran t) (λ _ t. sym (not-run t).0) refl

      work-length : length work' ≡ length ws
      work-length =
          bool_cases (λ t. work_fits ≡ t → length work' ≡ length ws) work_fits
          (λ _ t.
          let few = (plans.sound cells (plan_of cells) (bare_well_formed cells (well_formed_lem b (fine s ns cs vs e b v r)))).steps in
          ap length (filled t) ∙ length-filled (sub_class_of b) cells (encode_values b) (plan_of cells) ws (let z : 16 * step_count (plan_of cells) ≤ length ws = omega (arith, few, work-room t) in z))
          (λ _ t. ap length (sym (not-run t).1))
          refl

      -- ---- list, of a rule that the book has
      module _ (row : List ℕ) (k : ℕ) (low : k < length (rules b)) where
        -- plan, work space and row are long enough
        abbrev row_fits : Bool
        row_fits = plan_fits && (leb runs.work_count (length ws) && leb max_nodes (length row))

        abbrev list : List ℕ
        list = list_of b (rule_of b k)

        list_long_lem : lists.list_long n c w plan' work' row ≡ row_fits
        unfolding lists.list_long
        list_long_lem = rw (long', plan-length, work-length) refl

        abbrev Listed : Bool → Type 0
        Listed t = (lists.list_answer n c w plan' work' k row ≡ cond t (value (length list)) (refusal 8 0)) × (lists.row_after n c w plan' work' k row ≡ cond t (over list row) row)

        known : k < rule_count cells
        known = subst (λ m. k < m) (sym (rules-counted b)) low

        all_fit : row_fits ≡ true → Listed true
        all_fit t =
            let rest : Bool = leb runs.work_count (length ws) && leb max_nodes (length row) in
            let fit : work_fits ≡ true = and_both plan_fits (leb runs.work_count (length ws)) (and_left plan_fits rest t) (and_left (leb runs.work_count (length ws)) (leb max_nodes (length row)) (and_right plan_fits rest t)) in
            let nodes-are : lists.listed n c w plan' work' k row ≡ list =
            ap (λ x. list_in x (take plan_count plan') work' k) (cells_read s ns cs vs e b v r)
            ∙ ap₂ (λ p x. list_in cells p x k) (plan-is fit) (filled fit)
            ∙ rule_nodes cells (well_formed_lem b (fine s ns cs vs e b v r)) (sub_class_of b) (encode_values b) ws k known
            ∙ list_read b (fine s ns cs vs e b v r) k low in
            let both : both_well_formed (take cell_count c) (take plan_count plan') ≡ true = both_formed (take cell_count c) (take plan_count plan') right' (plan-right fit) in
            let found : ltb k (rule_count (take cell_count c)) ≡ true = ap (λ x. ltb k (rule_count x)) (cells_read s ns cs vs e b v r) ∙ lt-ltb k (rule_count cells) known in
            let said = done (list_answers n c w plan' work' k row) (list_long_lem ∙ t) both found (ap length (sym nodes-are)) (ap (λ xs. over xs row) (sym nodes-are)) in
            (sym said.0, sym said.1)

        too_short : row_fits ≡ false → Listed false
        too_short t =
            let said = short (list_answers n c w plan' work' k row) (list_long_lem ∙ t) in
            (sym said.0, sym said.1)

        pub listed_by_hand : Listed row_fits
        listed_by_hand = bool_cases (λ t. row_fits ≡ t → Listed t) row_fits (λ _ t. all_fit t) (λ _ t. too_short t) refl
