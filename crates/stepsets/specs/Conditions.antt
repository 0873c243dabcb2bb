-- What is asked of each node, over two sets that go with it: its ends, and the ends of a link, the set of a step, the nodes
-- that have a language or the links of a list. A line for each keeping and each breaking step, as plan/specs/Sets says the step.
use Rattle.std.specs.Prelude.{ℕ, List, Bool, true, not, ◌&&◌, eqb, ltb, leb, ℤ}
use Rattle.base.specs.Bounded.{size}
use Rattle.model.specs.Graph.{holds}
use Rattle.model.specs.Shapes.{conforms, within, subset, none_shared, only_listed, unlike_langs, same_members, all_less, all_less_eq}
use Rattle.model.specs.Limits.{max_nodes}
use Rattle.tables.specs.Codes as codes
use Rattle.tables.specs.Layout.{node_count, kind_at, form_code_at}
use Rattle.tables.specs.Decode.{graph_at, term_at, triples_at, entry_at, shape_at, upper_of}
use Rattle.plan.specs.Conditions.{fails_test, not_less, not_less_eq, some_in_one, some_shared, some_pair, clash, some_unlisted}
use Rattle.plan.specs.Sets.{test_of}
use Rattle.stepsets.specs.declared.Condition.{Condition}
use Rattle.stepsets.specs.declared.Condition.TheVariants.{Is, IsNot, Test, Untest, Count, Every, Equal, Unequal, Apart, Meet, Less, NotLess, LessEq, NotLessEq, OneLang, ManyLang, Closed, Open}

-- the condition holds of node v, where a and b are its two sets
unfoldable pub holds_of : List ℕ → List ℤ → Condition → (ℕ → Bool) → (ℕ → Bool) → ℕ → Bool
holds_of cs vs (Is c) a b v = eqb v c.0
holds_of cs vs (IsNot c) a b v = not (eqb v c.0)
holds_of cs vs (Test e) a b v = conforms (graph_at cs vs) (shape_at cs vs e) v
holds_of cs vs (Untest e) a b v = holds (λ t. fails_test t (term_at cs vs v)) (test_of cs (entry_at cs vs e))
holds_of cs vs (Count lo hi) a b v = within lo (upper_of hi) (size (λ w. a w && b w) max_nodes)
holds_of cs vs Every a b v = subset (node_count cs) a b
holds_of cs vs Equal a b v = same_members (node_count cs) a b
holds_of cs vs Unequal a b v = some_in_one (node_count cs) a b
holds_of cs vs Apart a b v = none_shared (node_count cs) a b
holds_of cs vs Meet a b v = some_shared (node_count cs) a b
holds_of cs vs Less a b v = all_less (term_at cs vs) (node_count cs) a b
holds_of cs vs NotLess a b v = some_pair (node_count cs) a b (λ x y. not_less (term_at cs vs x) (term_at cs vs y))
holds_of cs vs LessEq a b v = all_less_eq (term_at cs vs) (node_count cs) a b
holds_of cs vs NotLessEq a b v = some_pair (node_count cs) a b (λ x y. not_less_eq (term_at cs vs x) (term_at cs vs y))
holds_of cs vs OneLang a b v = unlike_langs (term_at cs vs) (node_count cs) (λ w. a w && b w)
holds_of cs vs ManyLang a b v = some_pair (node_count cs) (λ w. a w && b w) (λ w. a w && b w) (clash (term_at cs vs))
holds_of cs vs Closed a b v = only_listed (triples_at cs) b v
holds_of cs vs Open a b v = some_unlisted (triples_at cs) b v

-- node m has a language
abbrev pub tagged : List ℕ → ℕ → Bool
tagged cs m = ltb m (node_count cs) && eqb (kind_at cs m) codes.node_words

-- a test names a form entry that is one
unfoldable pub condition_ok : List ℕ → Condition → Bool
condition_ok cs (Is c) = true
condition_ok cs (IsNot c) = true
condition_ok cs (Test e) = leb codes.form_kind (form_code_at cs e) && leb (form_code_at cs e) codes.form_below
condition_ok cs (Untest e) = leb codes.form_kind (form_code_at cs e) && leb (form_code_at cs e) codes.form_below
condition_ok cs (Count lo hi) = true
condition_ok cs Every = true
condition_ok cs Equal = true
condition_ok cs Unequal = true
condition_ok cs Apart = true
condition_ok cs Meet = true
condition_ok cs Less = true
condition_ok cs NotLess = true
condition_ok cs LessEq = true
condition_ok cs NotLessEq = true
condition_ok cs OneLang = true
condition_ok cs ManyLang = true
condition_ok cs Closed = true
condition_ok cs Open = true
