-- Pairs of terms that are not so ordered, by the tables; and the conditions that a search for such a pair decides.
use Prim.Native.Nat.{ℕ, ◌<◌}
use mathlib.Core.Bool.{Bool, not, ◌||◌}
use mathlib.Core.List.{List}
use mathlib.Core.Option.{Option}
use mathlib.Core.Path.{◌≡◌, sym, ap, ◌∙◌}
use lib.Dec.{eqb}
use lib.IntN.{ℤ}
use lib.Signed.{lt_z, le_z}
use Rattle.model.specs.Graph.{value_of}
use Rattle.std.specs.Prelude as std
use Rattle.model.specs.declared.NodeNo.{NodeNo}
use Rattle.model.specs.Shapes.{less, less_eq, all_less, all_less_eq}
use Rattle.tables.specs.Codes as codes
use Rattle.tables.specs.Layout.{node_count, kind_at, number_at}
use Rattle.tables.specs.Decode.{term_at}
use Rattle.plan.specs.Conditions.{lacks, not_less, not_less_eq, some_pair}
use Rattle.plan.proofs.Complements.{not-less, not-less_eq}
use Rattle.conditions.specs.Pairs.{unordered, comes_back}
use Rattle.conditions.specs.Searches.{first_pair, among, found, nothing, pair_found}
use Rattle.conditions.specs.declared.Order.{Order}
use Rattle.conditions.specs.declared.Order.TheVariants.{Less, LessEq}
use Rattle.conditions.proofs.Terms.{value-lacks}
use Rattle.conditions.proofs.Searches.{some-pair, none-of, pair-breaks, pair_keeps}

-- the first has no number, or the second has none, or its number does not come after the first's
pub order_test : (cs : List ℕ) (vs : List ℤ) (x y : ℕ) → x < node_count cs → y < node_count cs → (order : Order) → (not (eqb (kind_at cs x) codes.node_number) || (not (eqb (kind_at cs y) codes.node_number) || comes_back order (number_at vs x) (number_at vs y))) ≡ unordered order (term_at cs vs x) (term_at cs vs y)
unfolding unordered comes_back not_less not_less_eq
order_test cs vs x y l k Less = sym (value-lacks cs vs x l (λ p. lacks (λ q. le_z q p) (value_of (term_at cs vs y))) ∙ ap (λ (b : Bool). not (eqb (kind_at cs x) codes.node_number) || b) (value-lacks cs vs y k (λ q. le_z q (number_at vs x))))
order_test cs vs x y l k LessEq = sym (value-lacks cs vs x l (λ p. lacks (λ q. lt_z q p) (value_of (term_at cs vs y))) ∙ ap (λ (b : Bool). not (eqb (kind_at cs x) codes.node_number) || b) (value-lacks cs vs y k (λ q. lt_z q (number_at vs x))))

-- ---- nothing is found where each pair is so ordered; something where some pair is not
module _ (cs : List ℕ) (vs : List ℤ) (a b : ℕ → Bool) where
  -- what the search for a pair finds
  abbrev first_not : Order → Option (ℕ × ℕ)
  first_not order = first_pair (among a b (λ x y. unordered order (term_at cs vs x) (term_at cs vs y))) (node_count cs)

  pub less-kept : (o : std.Option (NodeNo × NodeNo)) {t : Bool} → pair_found o ≡ first_not Less → std.is_some o ≡ not t → t ≡ all_less (term_at cs vs) (node_count cs) a b
  unfolding unordered
  less-kept o e h = none-of (pair_found o) (some-pair o) h ∙ ap nothing e ∙ pair_keeps (node_count cs) a b (λ x y. not_less (term_at cs vs x) (term_at cs vs y)) (λ x y. less (term_at cs vs x) (term_at cs vs y)) (λ x y. not-less (term_at cs vs x) (term_at cs vs y))

  pub less-broken : (o : std.Option (NodeNo × NodeNo)) → pair_found o ≡ first_not Less → std.is_some o ≡ some_pair (node_count cs) a b (λ x y. not_less (term_at cs vs x) (term_at cs vs y))
  unfolding unordered
  less-broken o e = some-pair o ∙ ap found e ∙ pair-breaks (node_count cs) a b (λ x y. not_less (term_at cs vs x) (term_at cs vs y))

  pub lesseq_kept : (o : std.Option (NodeNo × NodeNo)) {t : Bool} → pair_found o ≡ first_not LessEq → std.is_some o ≡ not t → t ≡ all_less_eq (term_at cs vs) (node_count cs) a b
  unfolding unordered
  lesseq_kept o e h = none-of (pair_found o) (some-pair o) h ∙ ap nothing e ∙ pair_keeps (node_count cs) a b (λ x y. not_less_eq (term_at cs vs x) (term_at cs vs y)) (λ x y. less_eq (term_at cs vs x) (term_at cs vs y)) (λ x y. not-less_eq (term_at cs vs x) (term_at cs vs y))

  pub lesseq_broken : (o : std.Option (NodeNo × NodeNo)) → pair_found o ≡ first_not LessEq → std.is_some o ≡ some_pair (node_count cs) a b (λ x y. not_less_eq (term_at cs vs x) (term_at cs vs y))
  unfolding unordered
  lesseq_broken o e = some-pair o ∙ ap found e ∙ pair-breaks (node_count cs) a b (λ x y. not_less_eq (term_at cs vs x) (term_at cs vs y))
