-- Every entry of a plan is right, and every rule's step.
use Prim.Native.Nat.{ℕ, zero, suc, ◌+◌, ◌≤◌, ◌<◌}
use mathlib.Core.Bool.{Bool, true, not, ◌&&◌, cond}
use mathlib.Core.List.{List, [], ◌∷◌, ◌++◌}
use mathlib.Core.Option.{Option}
use mathlib.Core.Path.{◌≡◌, refl, sym, ap, ◌∙◌, subst}
use mathlib.Core.Logic.{⊎_elim}
use native.Mathlib.Nat.{eq-or-lt_of_le, le_of_suc-le-suc, le_of_eq}
use native.Mathlib.Omega.{arith}
use lib.Dec.{ltb}
use lib.ListN.{get_or, length, length-append, get_or-map}
use lib.IntN.{ℤ}
use borrow.Author.Tests.{eq-eqb, ne_eqb, ltb-true}
use Rattle.base.specs.Numbered.{below}
use Rattle.base.proofs.Numbered.{below-number}
use Rattle.base.proofs.Bools.{and_left}
use Rattle.base.proofs.Lists.{at-values}
use Rattle.model.specs.Shapes.{Shape, conforms, def}
use Rattle.model.specs.Rules.{Target, target_node, subjects_of, objects_of, target_class, selects, violates}
use Rattle.tables.specs.Layout.{form_count, shape_count, rule_count, form_code_at, form_first_at, form_second_at, form_third_at, form_fourth_at, limit_at, root_at, rule_shape_at}
use Rattle.tables.specs.Entries.{Entry, entry_of}
use Rattle.tables.specs.Decode.{graph_at, shape_of, shape_at, schema_at, entry_at, rule_at}
use Rattle.tables.specs.WellFormed.{entry_ok, rule_ok}
use Rattle.tables.proofs.WellFormed.{Sound}
use Rattle.tables.proofs.Decode.{shape-number}
use Rattle.plan.specs.Steps.{Step}
use Rattle.plan.specs.Sets.{in_step, set_by}
use Rattle.translation.specs.Compile.{Part, entry_part, put_at, more, made, target_step, steps_of_rule, steps_to, steps_of, rule_step}
use Rattle.translation.proofs.Right.{Has, Sets, entry-right, set_at, set_both}

-- the steps of two lists, one after the other
module _ (at : ℕ → Step) where
  pub has_left : (s : ℕ) (xs ys : List Step) → Has at s (xs ++ ys) → Has at s xs
  has_left s [] ys h = tt
  has_left s (x ∷ xs) ys h = (h.0, has_left (s + 1) xs ys h.1)

  has_right : (s : ℕ) (xs ys : List Step) → Has at s (xs ++ ys) → Has at (s + length xs) ys
  has_right s [] ys h = subst (λ (n : ℕ). Has at n ys) (let z : s ≡ s + 0 = omega arith in z) h
  has_right s (x ∷ xs) ys h = subst (λ (n : ℕ). Has at n ys) (let z : s + 1 + length xs ≡ s + suc (length xs) = omega arith in z) (has_right (s + 1) xs ys h.1)

  pub has_rest : (xs ys : List Step) → Has at 0 (xs ++ ys) → Has at (length xs) ys
  has_rest xs ys h = subst (λ (n : ℕ). Has at n ys) (let z : 0 + length xs ≡ length xs = omega arith in z) (has_right 0 xs ys h)

  -- a list has its own steps
  pub has_all_lem : (s : ℕ) (ss : List Step) → ((i : ℕ) → i < length ss → at (s + i) ≡ get_or ss i Step.all) → Has at s ss
  has_all_lem s [] h = tt
  has_all_lem s (x ∷ xs) h = (ap at (let z : s ≡ s + 0 = omega arith in z) ∙ h 0 (omega arith), has_all_lem (s + 1) xs (λ i l. ap at (let z : s + 1 + i ≡ s + suc i = omega arith in z) ∙ h (suc i) (omega arith)))

-- the entries by their codes
abbrev pub by_code_lem : ℕ → ℕ → ℕ → ℕ → ℤ → List Entry
by_code_lem a b c d x =
    Entry.top ∷ Entry.is a ∷ Entry.shape a ∷ Entry.conj a b ∷ Entry.disj a b ∷ Entry.neg a ∷ Entry.kind a ∷ Entry.datatype a ∷ Entry.lang a b
    ∷ Entry.from x ∷ Entry.above x ∷ Entry.to x ∷ Entry.under x ∷ Entry.count a b c d ∷ Entry.all a b ∷ Entry.equal a b ∷ Entry.apart a b
    ∷ Entry.closed a b ∷ Entry.less a b ∷ Entry.lesseq a b ∷ Entry.onelang a ∷ []

put_same : (f : ℕ → ℕ) (n x j : ℕ) → j ≡ n → put_at f n x j ≡ x
unfolding put_at
put_same f n x j e = ap (λ (b : Bool). cond b x (f j)) (eq-eqb j n e)

put_other : (f : ℕ → ℕ) (n x j : ℕ) → (j ≡ n → ⊥) → put_at f n x j ≡ f j
unfolding put_at
put_other f n x j e = ap (λ (b : Bool). cond b x (f j)) (ne_eqb j n e)

moved : (sub : Option ℕ) (cs : List ℕ) (vs : List ℤ) (at : ℕ → Step) (s t i i' k k' : ℕ) (p q : ℕ → Bool) → Sets sub cs vs at s i k p → s ≤ t → i' ≡ i → k' ≡ k → p ≡ q → Sets sub cs vs at t i' k' q
moved sub cs vs at s t i i' k k' p q r l ei ek e = record { keep_low = let a : i < s = r.keep_low in omega arith; break_low = let a : k < s = r.break_low in omega arith; keeps = ap (set_by sub cs vs at) ei ∙ r.keeps ∙ e; breaks = ap (set_by sub cs vs at) ek ∙ r.breaks ∙ ap (λ (f : ℕ → Bool). λ v. not (f v)) e }

module _ (cs : List ℕ) where
  -- how many steps there are before entry n, and what entry n adds
  abbrev pub start : ℕ → ℕ
  start n = length (made cs n).steps

  abbrev pub own : ℕ → Part
  own n = entry_part cs (made cs n).keep (made cs n).breaking (start n) n (entry_at cs [] n)

  pub start-more : (n : ℕ) → start (suc n) ≡ start n + length (own n).steps
  unfolding made more
  start-more n = length-append (made cs n).steps (own n).steps

  module _ (sub : Option ℕ) (vs : List ℤ) (at : ℕ → Step) where
    -- the shapes of the entries below n
    abbrev shapes : ℕ → ℕ → Shape
    shapes n = below Shape.top (λ e at. shape_of cs (entry_at cs vs e) at) n

    abbrev pub RightAt : ℕ → ℕ → Type 0
    RightAt n e = Sets sub cs vs at (start n) ((made cs n).keep e) ((made cs n).breaking e) (conforms (graph_at cs vs) (shape_at cs vs e))

    -- V makes no difference to the steps
    own_free : (n : ℕ) → entry_part cs (made cs n).keep (made cs n).breaking (start n) n (entry_at cs vs n) ≡ own n
    unfolding entry_part entry_at entry_of
    own_free n =
        let part : Entry → Part = entry_part cs (made cs n).keep (made cs n).breaking (start n) n in
        let list : ℤ → List Entry = by_code_lem (form_first_at cs n) (form_second_at cs n) (form_third_at cs n) (form_fourth_at cs n) in
        sym (get_or-map part (list (limit_at vs n)) (form_code_at cs n) Entry.bad) ∙ get_or-map part (list (limit_at [] n)) (form_code_at cs n) Entry.bad

    -- one more entry
    right-more : (n : ℕ) → entry_ok cs n (entry_at cs vs n) ≡ true → Has at 0 (made cs (suc n)).steps → ((j : ℕ) → j < n → RightAt n j) → (e : ℕ) → e < suc n → RightAt (suc n) e
    unfolding made more shape_at
    right-more n ok st ih e l = ⊎_elim here earlier (eq-or-lt_of_le (le_of_suc-le-suc l))
      where
        new : Sets sub cs vs at (start n + length (own n).steps) (own n).keep (own n).breaking (conforms (graph_at cs vs) (shape_of cs (entry_at cs vs n) (shapes n)))
        new =
            subst (λ (x : Part). Has at (start n) x.steps → Sets sub cs vs at (start n + length x.steps) x.keep x.breaking (conforms (graph_at cs vs) (shape_of cs (entry_at cs vs n) (shapes n)))) (own_free n)
            (entry-right sub cs vs at (made cs n).keep (made cs n).breaking (start n) n (shapes n) (λ j lj. subst (λ (φ : Shape). Sets sub cs vs at (start n) ((made cs n).keep j) ((made cs n).breaking j) (conforms (graph_at cs vs) φ)) (sym (below-number Shape.top (λ e at. shape_of cs (entry_at cs vs e) at) n j lj)) (ih j lj)) (entry_at cs vs n) refl ok)
            (has_rest at (made cs n).steps (own n).steps st)

        here : e ≡ n → RightAt (suc n) e
        here q = moved sub cs vs at (start n + length (own n).steps) (start (suc n)) _ _ _ _ _ _ new (le_of_eq (sym (start-more n))) (put_same (made cs n).keep n _ e q) (put_same (made cs n).breaking n _ e q) (ap (conforms (graph_at cs vs)) (sym (shape-number cs n vs) ∙ ap (shape_at cs vs) (sym q)))

        earlier : e < n → RightAt (suc n) e
        earlier l' = moved sub cs vs at (start n) (start (suc n)) _ _ _ _ _ _ (ih e l') (let z : start (suc n) ≡ start n + length (own n).steps = start-more n in omega arith) (put_other (made cs n).keep n _ e (λ q. let z : ⊥ = omega arith in z)) (put_other (made cs n).breaking n _ e (λ q. let z : ⊥ = omega arith in z)) refl

    -- every entry below n is right in a plan that has its steps
    pub right : (n : ℕ) → ((e : ℕ) → e < n → entry_ok cs e (entry_at cs vs e) ≡ true) → Has at 0 (made cs n).steps → (e : ℕ) → e < n → RightAt n e
    unfolding made more
    right zero ok st e l = absurd (omega arith)
    right (suc n) ok st e l = right-more n (ok n (omega arith)) st (right n (λ e l. ok e (omega arith)) (has_left at 0 (made cs n).steps (own n).steps st)) e l

  -- the steps of the rules come after
  pub length_to : (r : ℕ) → length (steps_to cs (suc r)) ≡ length (steps_to cs r) + 2
  unfolding steps_to steps_of_rule
  length_to r = length-append (steps_to cs r) (steps_of_rule cs r (length (steps_to cs r)))

  pub forms-first : (r : ℕ) → start (form_count cs) ≤ length (steps_to cs r)
  unfolding steps_to
  forms-first zero = omega arith
  forms-first (suc r) = omega (arith, forms-first r, length_to r)

  -- a rule's step is among the steps
  to-more : (n r : ℕ) → r ≤ n → length (steps_to cs r) ≤ length (steps_to cs n)
  to-more zero r l = le_of_eq (ap (λ (k : ℕ). length (steps_to cs k)) (let z : r ≡ 0 = omega arith in z))
  to-more (suc n) r l = ⊎_elim (λ e. le_of_eq (ap (λ (k : ℕ). length (steps_to cs k)) e)) (λ l'. omega (arith, to-more n r (le_of_suc-le-suc l'), length_to n)) (eq-or-lt_of_le l)

  pub rule_low : (r : ℕ) → r < rule_count cs → rule_step cs r < length (steps_of cs)
  unfolding rule_step steps_of
  rule_low r l = omega (arith, to-more (rule_count cs) (suc r) l, length_to r)

  has-to : (at : ℕ → Step) (n r : ℕ) → r ≤ n → Has at 0 (steps_to cs n) → Has at 0 (steps_to cs r)
  unfolding steps_to
  has-to at zero r l h = subst (λ (k : ℕ). Has at 0 (steps_to cs k)) (let z : 0 ≡ r = omega arith in z) h
  has-to at (suc n) r l h = ⊎_elim (λ e. subst (λ (k : ℕ). Has at 0 (steps_to cs k)) (sym e) h) (λ l'. has-to at n r (le_of_suc-le-suc l') (has_left at 0 (steps_to cs n) (steps_of_rule cs n (length (steps_to cs n))) h)) (eq-or-lt_of_le l)

  target-set : (sub : Option ℕ) (vs : List ℤ) (at : ℕ → Step) (k : ℕ) (t : Target) → at k ≡ target_step t → set_by sub cs vs at k ≡ selects sub (graph_at cs vs) t
  unfolding target_step in_step conforms selects
  target-set sub vs at k (target_node c) e = set_at sub cs vs at k (Step.is c) e
  target-set sub vs at k (subjects_of l) e = set_at sub cs vs at k (Step.from l) e
  target-set sub vs at k (objects_of l) e = set_at sub cs vs at k (Step.into l) e
  target-set sub vs at k (target_class c) e = set_at sub cs vs at k (Step.typed c) e

  -- a rule's shape is there
  pub rule_shape : Sound cs → (r : ℕ) → r < rule_count cs → rule_shape_at cs r < shape_count cs
  unfolding rule_ok
  rule_shape ok r l = ltb-true (rule_shape_at cs r) (shape_count cs) (and_left (ltb (rule_shape_at cs r) (shape_count cs)) _ (ok.rule r l))

  -- the shape that the schema defines under a number
  schema-at : (vs : List ℤ) (s : ℕ) → s < shape_count cs → def (schema_at cs vs) s ≡ shape_at cs vs (root_at cs s)
  unfolding schema_at
  schema-at vs s l = at-values (λ s. shape_at cs vs (root_at cs s)) (shape_count cs) s Shape.top l

  -- in a plan that has the steps of the tables: each entry's two sets, and each rule's set
  module _ (ok : Sound cs) (sub : Option ℕ) (vs : List ℤ) (at : ℕ → Step) (st : Has at 0 (steps_of cs)) where
    pub entry_sets : (e : ℕ) → e < form_count cs → RightAt sub vs at (form_count cs) e
    unfolding steps_of steps_to
    entry_sets e l = right sub vs at (form_count cs) (ok.entry vs) (has-to at (rule_count cs) 0 (omega arith) st) e l

    pub rule_set : (r : ℕ) → r < rule_count cs → set_by sub cs vs at (rule_step cs r) ≡ violates sub (graph_at cs vs) (schema_at cs vs) (rule_at cs r)
    unfolding steps_of steps_to steps_of_rule rule_step violates rule_at
    rule_set r l =
        let h : Has at 0 (steps_to cs (suc r)) = has-to at (rule_count cs) (suc r) l st in
        let n : ℕ = length (steps_to cs r) in
        let two : Has at (length (steps_to cs r)) (steps_of_rule cs r (length (steps_to cs r))) = has_rest at (steps_to cs r) (steps_of_rule cs r (length (steps_to cs r))) h in
        let root : ℕ = root_at cs (rule_shape_at cs r) in
        let q = entry_sets root (ok.root (rule_shape_at cs r) (rule_shape ok r l)) in
        set_both sub cs vs at (n + 1) n (selects sub (graph_at cs vs) (rule_at cs r).target) (omega arith) (target-set sub vs at n (rule_at cs r).target two.0) ((made cs (form_count cs)).breaking root) (λ v. not (conforms (graph_at cs vs) (shape_at cs vs root) v)) (omega (arith, q.break_low, forms-first r)) q.breaks two.1.0
        ∙ ap (λ (φ : Shape). λ v. selects sub (graph_at cs vs) (rule_at cs r).target v && not (conforms (graph_at cs vs) φ v)) (sym (schema-at vs (rule_shape_at cs r) (rule_shape ok r l)))
