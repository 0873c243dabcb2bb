use Prim.Native.Nat.{◌-◌}
use mathlib.Core.Path.{◌∙◌}
use lib.ListN.{take, drop}
use Rattle.std.proofs.Common.{rules}
use Rattle.std.proofs.lemmas.Iterator.{YieldsList-from_slice}
use Rattle.std.proofs.lemmas.Iterator.Search.{all_from_yields_List}
use Rattle.text.specs.Decimals.{digit}
use Rattle.text.proofs.Parts.{part-all}
use Rattle.text.proofs.all_digits.Goals as goal

pub returns : goal.returns
returns c =
    let a = c.args in
    all_from_yields_List digit _ _ c.all.result c.all.ensures.ran (YieldsList-from_slice (take (a.end - a.at) (drop a.at a.book.now)) c.iter.ensures.rest) (λ x b q k. search rules)
    ∙ part-all digit a.book.now a.at a.end c.requires.0
