-- Property paths, and the pairs of nodes that they mean.
use Rattle.std.specs.Prelude.{ℕ, List, Bool, ◌&&◌, ◌||◌, eqb}
use Rattle.base.specs.Bounded.{some}
use Rattle.model.specs.Graph.{Triple, has_triple}
use Rattle.model.specs.Repeats.{star, plus}

-- 01: a link, inv, seq, alt; 02, Job 1: star, plus
pub data Path : Type 0 where
  predicate : ℕ → Path
  inverse : Path → Path
  sequence alternative : Path → Path → Path
  zero_or_more one_or_more : Path → Path

-- where a pair condition starts from; 01: END, `id` or PATH
pub data End : Type 0 where
  self : End
  along : Path → End

-- n: the number of nodes; ts: the triples
module _ (n : ℕ) (ts : List Triple) where
  -- w is an end of the path from v
  unfoldable pub ends : Path → ℕ → ℕ → Bool
  ends (predicate p) v w = has_triple ts v p w
  ends (inverse e) v w = ends e w v
  ends (sequence d e) v w = some (λ u. ends d v u && ends e u w) n
  ends (alternative d e) v w = ends d v w || ends e v w
  ends (zero_or_more e) v w = star (ends e) n v w
  ends (one_or_more e) v w = plus (ends e) n v w

  unfoldable pub ends_of : End → ℕ → ℕ → Bool
  ends_of self v w = eqb v w
  ends_of (along e) v w = ends e v w
