use Prim.Native.Nat.{ℕ}
use mathlib.Core.Path.{◌∙◌, ap}
use mathlib.Core.List.{List}
use Rattle.text.specs.Pool.{store}
use Rattle.encoding.specs.Encode.{pool_base}
use Rattle.stores.specs.Lines.{put_name}
use Rattle.reader.proofs.put_built_in.Goals as goal

pub returns : goal.returns
unfolding put_name pool_base
returns c = c.put_name-2.ensures ∙ ap (λ (l : List ℕ). store l _ _) c.put_name.ensures
