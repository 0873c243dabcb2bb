use Prim.Native.Nat.{ℕ, ◌+◌, ◌-◌}
use mathlib.Core.Path.{◌≡◌, ◌∙◌}
use mathlib.Core.List.{List}
use native.Mathlib.Omega.{arith}
use lib.ListN.{length, take, drop, length-drop}
use lib.Seq.{slice, length-slice, length-take-le}
use Rattle.std.proofs.Common.{rules}
use Rattle.base.proofs.Copies.{over_part}
use Rattle.text.proofs.Parts.{part_cut}
use Rattle.text.proofs.Pool.{put_padded}
use Rattle.text.proofs.put_name.Goals as goal

pub returns : goal.returns
returns c =
    let a = c.args in
    let w : List ℕ = slice a.at a.end a.book.now in
    let l = length-slice a.at a.end a.book.now c.requires.1 in
    let word : List ℕ = take (a.end - a.at) (drop a.at a.book.now) in
    let n : length word ≡ a.end - a.at = length-take-le (a.end - a.at) (drop a.at a.book.now) (omega (arith, length-drop a.at a.book.now)) in
    put_padded a.names.now w a.place (a.place + (a.end - a.at)) (omega arith) (omega arith) (omega arith)
    (c.copy.ensures ∙ over_part a.names.now word a.place (a.place + (a.end - a.at) - a.place) (omega arith) (omega arith) ∙ part_cut a.book.now a.at a.end c.requires.0)
    (c.fill.ensures.after (λ y e. search rules))
