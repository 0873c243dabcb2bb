-- Zeros, one more entry, one more rule.
use Prim.Native.Nat.{ℕ, zero, suc, ◌+◌, ◌≤◌, ◌<◌}
use mathlib.Core.Bool.{Bool, true, false, cond}
use mathlib.Core.List.{List, [], ◌∷◌, ◌++◌}
use mathlib.Core.Path.{◌≡◌, refl, sym, ap, ap₂, ◌∙◌}
use native.Mathlib.Nat.{zero-add}
use native.Mathlib.Numerals.{add-one}
use native.Mathlib.Omega.{arith}
use lib.Dec.{eqb}
use lib.ListN.{get_or, length, set, replicate, drop, length-append, get_or-eq_default}
use lib.Seq.{get_or-set_same, get_or-set_other}
use borrow.Author.Tests.{eqb-true, eqb-false}
use Rattle.base.specs.Lists.{values}
use Rattle.base.proofs.Lists.{length-values_from, values_from_snoc}
use Rattle.model.specs.Limits.{max_rules, max_forms, max_steps}
use Rattle.tables.specs.Codes as codes
use Rattle.tables.specs.Layout.{form_count, rule_count, root_at, rule_shape_at, rule_target_at, rule_operand_at}
use Rattle.tables.specs.Decode.{entry_at, target_of, rule_at}
use Rattle.tables.specs.Sizes.{cleared}
use Rattle.plan.specs.Steps.{Step, numbers_of}
use Rattle.plan.specs.Layout.{plan_count, rule_steps, laid, with_numbers, with_steps, plan_cells}
use Rattle.plan.proofs.Stores.{store_rule, store-count, store-steps, laid_none}
use Rattle.translation.specs.Compile.{Part, entry_part, put_at, more, made, target_step, steps_of_rule, steps_to, steps_of, rule_step, plan_of}
use Rattle.compiler.specs.declared.Pair.{Pair}
use Rattle.compiler.specs.declared.pairs.Pairs.{Pairs}
use Rattle.compiler.specs.Stores.{keep_of, break_of, Added, FormsAdded, rule_stored}
use Rattle.translation.proofs.Whole.{length_to}

pub cleared-laid : (ps : List ℕ) → cleared plan_count 0 ps ≡ laid (drop plan_count ps) [] [] []
unfolding cleared
cleared-laid ps = sym (laid_none (drop plan_count ps))

-- ---- a store in one of the two arrays
put-set : (xs : List ℕ) (e x : ℕ) (f : ℕ → ℕ) → e < length xs → ((j : ℕ) → get_or xs j 0 ≡ f j) → (j : ℕ) → get_or (set xs e x) j 0 ≡ put_at f e x j
unfolding put_at
put-set xs e x f l h j = pick (eqb j e) refl
  where
    pick : (b : Bool) → eqb j e ≡ b → get_or (set xs e x) j 0 ≡ cond b x (f j)
    pick true q = ap (λ (i : ℕ). get_or (set xs e x) i 0) (eqb-true j e q) ∙ get_or-set_same xs e x 0 l
    pick false q = get_or-set_other xs e j x 0 (eqb-false j e q) ∙ h j

-- ---- entries: qs has those below e, and rs what compiling entry e made of it
module _ (cs ps qs rs : List ℕ) (pairs : Pairs) (e n next : ℕ) (x : Pair) (f : FormsAdded cs ps qs e n pairs) (r : Added qs rs n (entry_part cs (keep_of pairs) (break_of pairs) n e (entry_at cs [] e)) next x.keep x.breaking) where
  abbrev own : Part
  own = entry_part cs (made cs e).keep (made cs e).breaking (length (made cs e).steps) e (entry_at cs [] e)

  same-part : entry_part cs (keep_of pairs) (break_of pairs) n e (entry_at cs [] e) ≡ own
  same-part = λ i. entry_part cs (λ j. f.keeps j i) (λ j. f.breaks j i) (f.after i) e (entry_at cs [] e)

  next-made : made cs (e + 1) ≡ more (made cs e) e own
  unfolding made
  next-made = ap (made cs) (add-one e)

  steps_append : (ss ts : List Step) (k : ℕ) (ps : List ℕ) → with_steps ps k (ss ++ ts) ≡ with_steps (with_steps ps k ss) (k + length ss) ts
  unfolding with_steps
  steps_append [] ts k ps = ap (λ (m : ℕ). with_steps ps m ts) (let z : k ≡ k + 0 = omega arith in z)
  steps_append (s ∷ ss) ts k ps = steps_append ss ts (k + 1) (with_numbers ps k (numbers_of s)) ∙ ap (λ (m : ℕ). with_steps (with_steps (with_numbers ps k (numbers_of s)) (k + 1) ss) m ts) (let z : k + 1 + length ss ≡ k + suc (length ss) = omega arith in z)

  pub forms-more : {new : Pairs} → e < length pairs.keeps → e < length pairs.breaks → new.keeps ≡ set pairs.keeps e x.keep → new.breaks ≡ set pairs.breaks e x.breaking → FormsAdded cs ps rs (e + 1) next new
  unfolding more
  forms-more lk lb ek eb = record {
    stored = r.stored ∙ (λ i. with_steps (f.stored i) (f.after i) (same-part i).steps) ∙ ap (λ (i : ℕ). with_steps (with_steps ps 0 (made cs e).steps) i own.steps) (sym (zero-add (length (made cs e).steps))) ∙ sym (steps_append (made cs e).steps own.steps 0 ps) ∙ (λ i. with_steps ps 0 (sym next-made i).steps);
    after = r.after ∙ (λ i. f.after i + length (same-part i).steps) ∙ sym (length-append (made cs e).steps own.steps) ∙ (λ i. length (sym next-made i).steps);
    keeps = λ j. ap (λ (l : List ℕ). get_or l j 0) ek ∙ put-set pairs.keeps e x.keep (made cs e).keep lk f.keeps j ∙ ap (λ (y : ℕ). put_at (made cs e).keep e y j) (r.keeps ∙ ap (λ (y : Part). y.keep) same-part) ∙ (λ i. (sym next-made i).keep j);
    breaks = λ j. ap (λ (l : List ℕ). get_or l j 0) eb ∙ put-set pairs.breaks e x.breaking (made cs e).breaking lb f.breaks j ∙ ap (λ (y : ℕ). put_at (made cs e).breaking e y j) (r.breaks ∙ ap (λ (y : Part). y.breaking) same-part) ∙ (λ i. (sym next-made i).breaking j);
  }

-- no entry has steps
none-at : (n j : ℕ) → ◌≡◌ {A = ℕ} (get_or (replicate n 0) j 0) 0
none-at zero j = refl
none-at (suc n) zero = refl
none-at (suc n) (suc j) = none-at n j

pub forms-none : (cs ps : List ℕ) (n : ℕ) (pairs : Pairs) → n ≡ 0 → pairs.keeps ≡ replicate max_forms 0 → pairs.breaks ≡ replicate max_forms 0 → FormsAdded cs ps ps 0 n pairs
unfolding made with_steps
forms-none cs ps n pairs z ek eb =
    record { stored = refl; after = z; keeps = λ j. ap (λ (l : List ℕ). get_or l j 0) ek ∙ none-at max_forms j; breaks = λ j. ap (λ (l : List ℕ). get_or l j 0) eb ∙ none-at max_forms j }

-- ---- targets by their codes; xs: the numbers of the target's step
module _ (cs : List ℕ) (r code a : ℕ) (ec : code ≡ rule_target_at cs r) (ea : a ≡ rule_operand_at cs r) (xs : List ℕ) where
  abbrev Target : Type 0
  Target = xs ≡ numbers_of (target_step (rule_at cs r).target)

  target_is : (i : ℕ) (s : Step) → code ≡ i → s ≡ target_step (target_of i a) → xs ≡ numbers_of s → Target
  unfolding rule_at
  target_is i s z x q = q ∙ ap numbers_of (x ∙ (λ t. target_step (target_of ((sym z ∙ ec) t) (ea t))))

  pub target-node : code ≡ codes.target_node → xs ≡ numbers_of (Step.is a) → Target
  unfolding target_step target_of
  target-node z q = target_is codes.target_node (Step.is a) z refl q

  pub target-subjects : code ≡ codes.target_subjects → xs ≡ numbers_of (Step.from a) → Target
  unfolding target_step target_of
  target-subjects z q = target_is codes.target_subjects (Step.from a) z refl q

  pub target-objects : code ≡ codes.target_objects → xs ≡ numbers_of (Step.into a) → Target
  unfolding target_step target_of
  target-objects z q = target_is codes.target_objects (Step.into a) z refl q

  pub target_class_lem : codes.target_class ≤ code → xs ≡ numbers_of (Step.typed a) → Target
  unfolding target_step target_of
  target_class_lem l q = target_is code (Step.typed a) refl (rw get_or-eq_default) q

-- ---- rules
pub rule_law : (cs ps p1 p2 : List ℕ) (r n n2 x b b' y : ℕ) → p1 ≡ with_numbers ps n (numbers_of (target_step (rule_at cs r).target)) → p2 ≡ with_numbers p1 n2 (numbers_of (Step.both x b)) → n2 ≡ n + 1 → x ≡ n → b ≡ b' → y ≡ n2 → set p2 (rule_steps + r) y ≡ rule_stored cs ps r n b'
unfolding rule_stored with_steps
rule_law cs ps p1 p2 r n n2 x b b' y f g e2 ex eb ey = λ i. set ((g ∙ (λ t. with_numbers (f t) (e2 t) (numbers_of (Step.both (ex t) (eb t))))) i) (rule_steps + r) ((ey ∙ e2) i)

pub rule_next : (cs : List ℕ) (r n : ℕ) → n ≡ length (steps_to cs r) → n + 2 ≡ length (steps_to cs (r + 1))
rule_next cs r n e = ap (λ (k : ℕ). k + 2) e ∙ sym (length_to cs r) ∙ ap (λ (k : ℕ). length (steps_to cs k)) (sym (add-one r))

-- the rules below r are there, and the plan has one more
pub rule_more : (cs t qs rs : List ℕ) (r n b : ℕ) → r < max_rules → n + 2 ≤ max_steps → n ≡ length (steps_to cs r) → b ≡ (made cs (form_count cs)).breaking (root_at cs (rule_shape_at cs r)) → rs ≡ rule_stored cs qs r n b → qs ≡ laid t [] (values (rule_step cs) r) (steps_to cs r) → rs ≡ laid t [] (values (rule_step cs) (r + 1)) (steps_to cs (r + 1))
unfolding rule_stored steps_to steps_of_rule rule_step
rule_more cs t qs rs r n b lr ln en eb f g =
    let new : List Step = steps_of_rule cs r (length (steps_to cs r)) in
    f ∙ (λ i. set (with_steps (g i) (en i) (target_step (rule_at cs r).target ∷ Step.both (en i) (eb i) ∷ [])) (rule_steps + r) (en i + 1))
    ∙ ap (λ (p : List ℕ). set p (rule_steps + r) (rule_step cs r)) (store-steps t [] (values (rule_step cs) r) (steps_to cs r) (length (steps_to cs r)) new refl (omega arith))
    ∙ store_rule t (values (rule_step cs) r) (steps_to cs r ++ new) r (rule_step cs r) (sym (length-values_from (rule_step cs) 0 r)) lr
    ∙ ap (λ (l : List ℕ). laid t [] l (steps_to cs (suc r))) (ap (λ (k : ℕ). values (rule_step cs) r ++ (rule_step cs k ∷ [])) (sym (zero-add r)) ∙ sym (values_from_snoc (rule_step cs) 0 r))
    ∙ ap (λ (k : ℕ). laid t [] (values (rule_step cs) k) (steps_to cs k)) (sym (add-one r))

-- ---- the whole plan
pub forms-laid : (cs ps p0 p1 : List ℕ) → plan_count ≤ length ps → length (made cs (form_count cs)).steps ≤ max_steps → p0 ≡ cleared plan_count 0 ps → p1 ≡ with_steps p0 0 (made cs (form_count cs)).steps → p1 ≡ laid (drop plan_count ps) [] [] (steps_to cs 0)
unfolding steps_to
forms-laid cs ps p0 p1 l few e f = f ∙ ap (λ (p : List ℕ). with_steps p 0 (made cs (form_count cs)).steps) (e ∙ cleared-laid ps) ∙ store-steps (drop plan_count ps) [] [] [] 0 (made cs (form_count cs)).steps refl (omega arith)

pub plan-laid : (cs t p2 : List ℕ) (m : ℕ) → p2 ≡ laid t [] (values (rule_step cs) (rule_count cs)) (steps_to cs (rule_count cs)) → m ≡ length (steps_of cs) → set p2 0 m ≡ plan_of cs ++ t
unfolding plan_of plan_cells steps_of
plan-laid cs t p2 m e f = ap₂ (λ (p : List ℕ) (n : ℕ). set p 0 n) e f ∙ store-count t (values (rule_step cs) (rule_count cs)) (steps_to cs (rule_count cs)) (length (steps_to cs (rule_count cs)))
