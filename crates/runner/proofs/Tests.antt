-- Test steps and `closed` steps: what the form entry that they name says.
use Prim.Native.Nat.{ℕ}
use mathlib.Core.List.{List}
use mathlib.Core.Option.{Option}
use mathlib.Core.Bool.{true, true≢false}
use mathlib.Core.Path.{◌≡◌, refl, sym, ap, ◌∙◌}
use lib.IntN.{ℤ}
use Rattle.base.specs.Lists.{member}
use Rattle.model.specs.Graph.{holds}
use Rattle.model.specs.Shapes.{Shape, satisfies, conforms, only_listed}
use Rattle.tables.specs.Layout.{form_code_at, form_first_at, form_second_at, form_third_at, form_fourth_at, limit_at}
use Rattle.tables.specs.Entries.{Entry, entry_of}
use Rattle.tables.specs.Decode.{graph_at, triples_at, items_at, entry_at, shape_of, shape_at}
use Rattle.tables.proofs.Decode.{shape-number}
use Rattle.plan.specs.Conditions.{some_unlisted}
use Rattle.plan.specs.Sets.{test_of, links_of}
use Rattle.plan.specs.WellFormed.{test_ok, closed_ok}
use Rattle.plancheck.proofs.Codes.{test_code, test_codes, closed-codes}

module _ (cs : List ℕ) (vs : List ℤ) where
  -- an entry that is a test, as a shape
  as_test : (x : Entry) (at : ℕ → Shape) (v : ℕ) → holds (λ t. true) (test_of cs x) ≡ true → conforms (graph_at cs vs) (shape_of cs x at) v ≡ holds (λ t. satisfies t ((graph_at cs vs).term v)) (test_of cs x)
  unfolding holds test_of shape_of conforms
  as_test Entry.top at v w = absurd (true≢false (sym w))
  as_test (Entry.is c) at v w = absurd (true≢false (sym w))
  as_test (Entry.shape s) at v w = absurd (true≢false (sym w))
  as_test (Entry.conj a b) at v w = absurd (true≢false (sym w))
  as_test (Entry.disj a b) at v w = absurd (true≢false (sym w))
  as_test (Entry.neg a) at v w = absurd (true≢false (sym w))
  as_test (Entry.kind k) at v w = refl
  as_test (Entry.datatype t) at v w = refl
  as_test (Entry.lang i n) at v w = refl
  as_test (Entry.from x) at v w = refl
  as_test (Entry.above x) at v w = refl
  as_test (Entry.to x) at v w = refl
  as_test (Entry.under x) at v w = refl
  as_test (Entry.count p a lo hi) at v w = absurd (true≢false (sym w))
  as_test (Entry.all p a) at v w = absurd (true≢false (sym w))
  as_test (Entry.equal f l) at v w = absurd (true≢false (sym w))
  as_test (Entry.apart f l) at v w = absurd (true≢false (sym w))
  as_test (Entry.closed i n) at v w = absurd (true≢false (sym w))
  as_test (Entry.less p l) at v w = absurd (true≢false (sym w))
  as_test (Entry.lesseq p l) at v w = absurd (true≢false (sym w))
  as_test (Entry.onelang p) at v w = absurd (true≢false (sym w))
  as_test Entry.bad at v w = absurd (true≢false (sym w))

  module _ (e : ℕ) (ok : test_ok cs e ≡ true) where
    is_test : holds (λ t. true) (test_of cs (entry_at cs vs e)) ≡ true
    unfolding entry_at
    is_test = test_code cs e (limit_at vs e) (form_code_at cs e) ∙ test_codes cs e ok

    pub test_meets : (v : ℕ) → conforms (graph_at cs vs) (shape_at cs vs e) v ≡ holds (λ t. satisfies t ((graph_at cs vs).term v)) (test_of cs (entry_at cs vs e))
    test_meets v = ap (λ (s : Shape). conforms (graph_at cs vs) s v) (shape-number cs e vs) ∙ as_test (entry_at cs vs e) _ v is_test

  -- a `closed` entry's links
  module _ (e : ℕ) (ok : closed_ok cs e ≡ true) where
    pub links_of_lem : links_of cs (entry_at cs vs e) ≡ Option.some (items_at cs (form_first_at cs e) (form_second_at cs e))
    unfolding links_of entry_at entry_of
    links_of_lem = ap (λ (k : ℕ). links_of cs (entry_of k (form_first_at cs e) (form_second_at cs e) (form_third_at cs e) (form_fourth_at cs e) (limit_at vs e))) (closed-codes cs e ok)

    abbrev items : List ℕ
    items = items_at cs (form_first_at cs e) (form_second_at cs e)

    pub opened_by : (v : ℕ) → some_unlisted (triples_at cs) (λ l. member l items) v ≡ holds (λ ps. some_unlisted (graph_at cs vs).triples (λ l. member l ps) v) (links_of cs (entry_at cs vs e))
    unfolding holds graph_at
    opened_by v = sym (ap (holds (λ ps. some_unlisted (triples_at cs) (λ l. member l ps) v)) links_of_lem)

    pub closed_by : (v : ℕ) → only_listed (triples_at cs) (λ l. member l items) v ≡ holds (λ ps. only_listed (graph_at cs vs).triples (λ l. member l ps) v) (links_of cs (entry_at cs vs e))
    unfolding holds graph_at
    closed_by v = sym (ap (holds (λ ps. only_listed (triples_at cs) (λ l. member l ps) v)) links_of_lem)
