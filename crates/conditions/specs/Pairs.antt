-- Conditions on the triples out of a node, and on pairs of nodes.
use Rattle.std.specs.Prelude.{ℕ, ◌/◌, List, Bool, not, ◌&&◌, eqb, ℤ}
use Rattle.std.specs.Int.Signed.{lt_z, le_z}
use Rattle.model.specs.Graph.{Term}
use Rattle.model.specs.Limits.{max_links}
use Rattle.tables.specs.Layout.{subject_at, predicate_at}
use Rattle.plan.specs.Conditions.{not_less, not_less_eq}
use Rattle.conditions.specs.declared.Order.{Order}
use Rattle.conditions.specs.declared.Order.TheVariants.{Less, LessEq}

-- how many words a set of links takes
abbrev pub link_words : ℕ
link_words = max_links / 64

-- triple i of the tables goes out of v and has a predicate that is not listed
unfoldable pub unlisted : List ℕ → (ℕ → Bool) → ℕ → ℕ → Bool
unlisted cs listed v i = eqb (subject_at cs i) v && not (listed (predicate_at cs i))

-- a pair of terms is not so ordered
unfoldable pub unordered : Order → Term → Term → Bool
unordered Less a b = not_less a b
unordered LessEq a b = not_less_eq a b

-- a second value y does not come after a first value x
unfoldable pub comes_back : Order → ℤ → ℤ → Bool
comes_back Less x y = le_z y x
comes_back LessEq x y = lt_z y x
