-- The index of the names, with what a line adds.
use Rattle.std.specs.Prelude.{ℕ, ◌+◌, ◌/◌, List, cond, ltb}
use Rattle.chains.specs.Chains.{linked}
use Rattle.text.specs.Pool.{name_key}
use Rattle.model.specs.Books.{Pool, nodes, links, types, langs, shapes}
use Rattle.model.specs.Valid.{capacity}
use Rattle.model.specs.Limits.{name_bytes}
use Rattle.encoding.specs.Encode.{pool_base}
use Rattle.model.specs.declared.Counts.{Counts}
use Rattle.itemreader.specs.Held.{count_of, name_places}
use Rattle.model.specs.declared.Counts.{Counts}

-- ns: the names; n and m: the counts before and after
module _ (ns : List ℕ) (n m : Counts) where
  -- the next name of a pool in its chain, where there is one more
  unfoldable pub pool_joined : Pool → List ℕ → List ℕ
  pool_joined p index =
      cond (ltb (count_of n p) (count_of m p))
      (linked index (pool_base p / name_bytes) (name_places + pool_base p / name_bytes) (name_key ns (pool_base p) (capacity p) (count_of n p)) (count_of n p))
      index

  unfoldable pub all_joined : List ℕ → List ℕ
  all_joined index = pool_joined shapes (pool_joined langs (pool_joined types (pool_joined links (pool_joined nodes index))))
