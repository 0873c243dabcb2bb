-- Books line by line: what the lines of an admissible book add is right, and within the limits, where the book ends.
use Prim.Native.Nat.{ℕ, ◌+◌, ◌≤◌, ◌<◌}
use mathlib.Core.List.{List, [], ◌∷◌, ◌++◌, append-nil, append_assoc}
use mathlib.Core.Bool.{Bool, true, cond, ◌&&◌}
use mathlib.Core.Path.{◌≡◌, refl, sym, ap, ◌∙◌, subst}
use native.Mathlib.Nat.{zero-add}
use native.Mathlib.Omega.{arith}
use lib.Dec.{eqb, leb}
use lib.ListN.{length, get_or, length-append}
use borrow.Author.Tests.{eqb-true, ltb-true, lt-ltb, leb-true}
use Rattle.base.specs.Lists.{allb}
use Rattle.base.proofs.Bools.{bool_cases, and_left, and_right, and_both}
use Rattle.base.proofs.Lists.{allb_append, allb_weaker, Extends}
use Rattle.model.specs.Limits.{max_rules, max_facts, max_forms, max_paths, max_items}
use Rattle.model.specs.Shapes.{Shape}
use Rattle.model.specs.Books.{Book, Line, link, type, lang, node, fact, shape, rule, Name, Pool, nodes, links, types, langs, shapes, pool_number, built_in, joins, new_names, new_terms, new_triples, new_shapes, new_rules, collect, names, rules}
use Rattle.model.specs.Sizes.{form_entries, shape_paths, list_items, sum_over, forms_in, paths_in, items_in}
use Rattle.model.specs.Valid.{capacity, defined, has_room, fact_ok, shape_ok, target_ok, entries_fit, line_ok, admissible_from, admissible}

-- ---- what more lines add
pub collect_append : {A : Type 0} (f : Line → List A) (a b : Book) → collect f (a ++ b) ≡ collect f a ++ collect f b
unfolding collect
collect_append f [] b = refl
collect_append {A} f (l ∷ a) b = ap (λ (r : List A). f l ++ r) (collect_append f a b) ∙ sym (append_assoc (f l) (collect f a) (collect f b))

pub collect_snoc : {A : Type 0} (f : Line → List A) (a : Book) (l : Line) → collect f (a ++ (l ∷ [])) ≡ collect f a ++ f l
unfolding collect
collect_snoc {A} f a l = collect_append f a (l ∷ []) ∙ ap (λ (r : List A). collect f a ++ r) (append-nil (f l))

pub names_snoc : (p : Pool) (a : Book) (l : Line) → names p (a ++ (l ∷ [])) ≡ names p a ++ new_names p l
unfolding names
names_snoc p a l = ap (λ (r : List Name). built_in p ++ r) (collect_snoc (new_names p) a l) ∙ sym (append_assoc (built_in p) (collect (new_names p) a) (new_names p l))

-- a line that adds nothing
pub collect-none : {A : Type 0} (f : Line → List A) (l : Line) → f l ≡ [] → (a c : Book) → collect f (a ++ (l ∷ c)) ≡ collect f (a ++ c)
unfolding collect
collect-none {A} f l e a c = collect_append f a (l ∷ c) ∙ ap (λ (x : List A). collect f a ++ (x ++ collect f c)) e ∙ sym (collect_append f a c)

-- the lines above have no more names than the book
pub names-before : (p : Pool) (a b : Book) → Extends a b → length (names p a) ≤ length (names p b)
unfolding names
names-before p a b (c, e) = omega (arith, ap (λ (x : Book). length (names p x)) e, ap length (collect_append (new_names p) a c), length-append (collect (new_names p) a) (collect (new_names p) c), length-append (built_in p) (collect (new_names p) a), length-append (built_in p) (collect (new_names p) (a ++ c)))

-- a name that is defined stays so
pub defined_more : (a : Book) (l : Line) (p : Pool) (k : ℕ) → defined a p k ≡ true → defined (a ++ (l ∷ [])) p k ≡ true
unfolding defined
defined_more a l p k e = lt-ltb k (length (names p (a ++ (l ∷ [])))) (omega (arith, ltb-true k (length (names p a)) e, ap length (names_snoc p a l), length-append (names p a) (new_names p l)))

-- ---- each name of a node has its term, each name of a shape its shape
same-lengths : {A B : Type 0} (f : Line → List A) (g : Line → List B) → ((l : Line) → length (f l) ≡ length (g l)) → (b : Book) → length (collect f b) ≡ length (collect g b)
unfolding collect
same-lengths f g h [] = refl
same-lengths f g h (l ∷ b) = omega (arith, h l, same-lengths f g h b, length-append (f l) (collect f b), length-append (g l) (collect g b))

term-named : (l : Line) → length (new_terms l) ≡ length (new_names nodes l)
unfolding new_terms new_names joins
term-named (link n) = refl
term-named (type n) = refl
term-named (lang n) = refl
term-named (node n t) = refl
term-named (fact t) = refl
term-named (shape n φ) = refl
term-named (rule r) = refl

shape-named : (l : Line) → length (new_shapes l) ≡ length (new_names shapes l)
unfolding new_shapes new_names joins
shape-named (link n) = refl
shape-named (type n) = refl
shape-named (lang n) = refl
shape-named (node n t) = refl
shape-named (fact t) = refl
shape-named (shape n φ) = refl
shape-named (rule r) = refl

pub terms-counted : (b : Book) → length (collect new_terms b) ≡ length (names nodes b)
unfolding names built_in
terms-counted = same-lengths new_terms (new_names nodes) term-named

pub shapes_counted : (b : Book) → length (collect new_shapes b) ≡ length (names shapes b)
unfolding names built_in
shapes_counted = same-lengths new_shapes (new_names shapes) shape-named

-- ---- induction over the lines of an admissible book, each with the lines above it
module _ (P : Book → Type 0) (start : P []) (b : Book) (step : (a : Book) (l : Line) → Extends a b → P a → line_ok a l ≡ true → P (a ++ (l ∷ []))) where
  from-above : (a c : Book) → b ≡ a ++ c → P a → admissible_from a c ≡ true → P (a ++ c)
  unfolding admissible_from
  from-above a [] q p e = subst P (sym (append-nil a)) p
  from-above a (l ∷ c) q p e =
      let m = a ++ (l ∷ []) in
      subst P (append_assoc a (l ∷ []) c)
      (from-above m c (q ∙ sym (append_assoc a (l ∷ []) c)) (step a l (l ∷ c, q) p (and_left _ _ e)) (and_right (line_ok a l) _ e))

  pub line_by_line : admissible b ≡ true → P b
  unfolding admissible
  line_by_line e = from-above [] b refl start e

-- what a line finds right, and more lines leave right, is right in the whole book
pub all_right : {A : Type 0} (f : Line → List A) (ok : Book → A → Bool) → ((a : Book) (l : Line) → line_ok a l ≡ true → allb (ok a) (f l) ≡ true) → ((a : Book) (l : Line) (x : A) → ok a x ≡ true → ok (a ++ (l ∷ [])) x ≡ true) → (b : Book) → admissible b ≡ true → allb (ok b) (collect f b) ≡ true
unfolding collect allb
all_right f ok line more b = line_by_line (λ b. allb (ok b) (collect f b) ≡ true) refl b (λ a l _ h e.
    let c = a ++ (l ∷ []) in
    ap (allb (ok c)) (collect_snoc f a l) ∙ allb_append (ok c) (collect f a) (f l)
    ∙ and_both _ _ (allb_weaker (ok a) (ok c) (collect f a) (more a l) h) (allb_weaker (ok a) (ok c) (f l) (more a l) (line a l e)))

-- induction over the shapes, each with the lines above it
module _ (Q : List Shape → Type 0) (start : Q []) (b : Book) (step : (a : Book) (φ : Shape) → Extends a b → Q (collect new_shapes a) → shape_ok a φ ≡ true → entries_fit a φ ≡ true → Q (collect new_shapes a ++ (φ ∷ []))) where
  shape-step : (a : Book) (l : Line) → Extends a b → Q (collect new_shapes a) → line_ok a l ≡ true → Q (collect new_shapes a ++ new_shapes l)
  unfolding new_shapes line_ok
  shape-step a (link n) x q e = subst Q (sym (append-nil (collect new_shapes a))) q
  shape-step a (type n) x q e = subst Q (sym (append-nil (collect new_shapes a))) q
  shape-step a (lang n) x q e = subst Q (sym (append-nil (collect new_shapes a))) q
  shape-step a (node n t) x q e = subst Q (sym (append-nil (collect new_shapes a))) q
  shape-step a (fact t) x q e = subst Q (sym (append-nil (collect new_shapes a))) q
  shape-step a (shape n φ) x q e =
      let r : (shape_ok a φ && entries_fit a φ) ≡ true = and_right (has_room a shapes) _ e in
      step a φ x q (and_left _ _ r) (and_right (shape_ok a φ) _ r)
  shape-step a (rule r) x q e = subst Q (sym (append-nil (collect new_shapes a))) q

  pub shape_by_shape : admissible b ≡ true → Q (collect new_shapes b)
  unfolding collect
  shape_by_shape = line_by_line (λ b. Q (collect new_shapes b)) start b (λ a l x q e. subst Q (sym (collect_snoc new_shapes a l)) (shape-step a l x q e))

-- ---- the limits
-- a list that no line makes longer than m
module _ {A : Type 0} (f : Line → List A) (m : ℕ) (fits : (a : Book) (l : Line) → length (collect f a) ≤ m → line_ok a l ≡ true → length (collect f a) + length (f l) ≤ m) where
  pub within : (b : Book) → admissible b ≡ true → length (collect f b) ≤ m
  unfolding collect
  within b = line_by_line (λ b. length (collect f b) ≤ m) (omega arith) b (λ a l _ h e. omega (arith, fits a l h e, ap length (collect_snoc f a l), length-append (collect f a) (f l)))

fact_room : (a : Book) (l : Line) → length (collect new_triples a) ≤ max_facts → line_ok a l ≡ true → length (collect new_triples a) + length (new_triples l) ≤ max_facts
unfolding new_triples line_ok
fact_room a (link n) h e = omega arith
fact_room a (type n) h e = omega arith
fact_room a (lang n) h e = omega arith
fact_room a (node n t) h e = omega arith
fact_room a (fact t) h e = omega (arith, ltb-true (length (collect new_triples a)) max_facts (and_right (fact_ok a t) _ e))
fact_room a (shape n φ) h e = omega arith
fact_room a (rule r) h e = omega arith

pub facts_within : (b : Book) → admissible b ≡ true → length (collect new_triples b) ≤ max_facts
facts_within = within new_triples max_facts fact_room

rule_room : (a : Book) (l : Line) → length (collect new_rules a) ≤ max_rules → line_ok a l ≡ true → length (collect new_rules a) + length (new_rules l) ≤ max_rules
unfolding new_rules line_ok rules
rule_room a (link n) h e = omega arith
rule_room a (type n) h e = omega arith
rule_room a (lang n) h e = omega arith
rule_room a (node n t) h e = omega arith
rule_room a (fact t) h e = omega arith
rule_room a (shape n φ) h e = omega arith
rule_room a (rule r) h e = omega (arith, ltb-true (length (rules a)) max_rules (and_right (defined a shapes r.shape && target_ok a r.target) _ e))

pub rules-within : (b : Book) → admissible b ≡ true → length (rules b) ≤ max_rules
unfolding rules
rules-within = within new_rules max_rules rule_room

-- a pool's number tells the pool
numbered_pool : ℕ → Pool
numbered_pool k = get_or (nodes ∷ links ∷ types ∷ langs ∷ shapes ∷ []) k nodes

pool_number_lem : (p : Pool) → numbered_pool (pool_number p) ≡ p
unfolding numbered_pool
pool_number_lem nodes = refl
pool_number_lem links = refl
pool_number_lem types = refl
pool_number_lem langs = refl
pool_number_lem shapes = refl

pub same_pool : (p q : Pool) → pool_number p ≡ pool_number q → p ≡ q
same_pool p q e = sym (pool_number_lem p) ∙ ap numbered_pool e ∙ pool_number_lem q

module _ (p : Pool) (a : Book) (h : length (names p a) ≤ capacity p) where
  room_joined : (q : Pool) (n : Name) → has_room a q ≡ true → length (names p a) + length (joins p q n) ≤ capacity p
  unfolding joins has_room
  room_joined q n e = bool_cases (λ t. eqb (pool_number p) (pool_number q) ≡ t → length (names p a) + length (cond t (n ∷ []) []) ≤ capacity p) (eqb (pool_number p) (pool_number q))
      (λ _ s. let l : length (names p a) < capacity p = subst (λ (r : Pool). length (names r a) < capacity r) (sym (same_pool p q (eqb-true (pool_number p) (pool_number q) s))) (ltb-true (length (names q a)) (capacity q) e) in omega arith)
      (λ _ _. omega arith) refl

  name_room : (l : Line) → line_ok a l ≡ true → length (names p a) + length (new_names p l) ≤ capacity p
  unfolding new_names line_ok
  name_room (link n) e = room_joined links n e
  name_room (type n) e = room_joined types n e
  name_room (lang n) e = room_joined langs n e
  name_room (node n t) e = room_joined nodes n (and_left _ _ e)
  name_room (fact t) e = omega arith
  name_room (shape n φ) e = room_joined shapes n (and_left _ _ e)
  name_room (rule r) e = omega arith

built_in_within : (p : Pool) → length (names p []) ≤ capacity p
unfolding names built_in collect capacity
built_in_within nodes = omega arith
built_in_within links = omega arith
built_in_within types = omega arith
built_in_within langs = omega arith
built_in_within shapes = omega arith

pub names-within : (p : Pool) (b : Book) → admissible b ≡ true → length (names p b) ≤ capacity p
names-within p b = line_by_line (λ b. length (names p b) ≤ capacity p) (built_in_within p) b (λ a l _ h e. omega (arith, name_room p a h l e, ap length (names_snoc p a l), length-append (names p a) (new_names p l)))

pub sum_append : (f : Shape → ℕ) (xs ys : List Shape) → sum_over f (xs ++ ys) ≡ sum_over f xs + sum_over f ys
unfolding sum_over
sum_append f [] ys = sym (zero-add (sum_over f ys))
sum_append f (x ∷ xs) ys = omega (arith, sum_append f xs ys)

-- entries of shapes, at most m of them
module _ (f : Shape → ℕ) (m : ℕ) (fits : (a : Book) (φ : Shape) → entries_fit a φ ≡ true → sum_over f (collect new_shapes a) + f φ ≤ m) where
  pub entries-within : (b : Book) → admissible b ≡ true → sum_over f (collect new_shapes b) ≤ m
  unfolding sum_over
  entries-within b = shape_by_shape (λ φs. sum_over f φs ≤ m) (omega arith) b (λ a φ _ _ _ e. omega (arith, fits a φ e, sum_append f (collect new_shapes a) (φ ∷ [])))

pub forms-within : (b : Book) → admissible b ≡ true → forms_in b ≤ max_forms
unfolding forms_in entries_fit
forms-within = entries-within form_entries max_forms (λ a φ e. leb-true (forms_in a + form_entries φ) max_forms (and_left _ _ e))

pub paths-within : (b : Book) → admissible b ≡ true → paths_in b ≤ max_paths
unfolding paths_in entries_fit
paths-within = entries-within shape_paths max_paths (λ a φ e. leb-true (paths_in a + shape_paths φ) max_paths (and_left _ _ (and_right (leb (forms_in a + form_entries φ) max_forms) _ e)))

pub items-within : (b : Book) → admissible b ≡ true → items_in b ≤ max_items
unfolding items_in entries_fit
items-within = entries-within list_items max_items (λ a φ e. leb-true (items_in a + list_items φ) max_items (and_right (leb (paths_in a + shape_paths φ) max_paths) _ (and_right (leb (forms_in a + form_entries φ) max_forms) _ e)))
