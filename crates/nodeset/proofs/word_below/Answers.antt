-- `word_below` meets its contract: a word has all ones, none, or the lowest n % 64.
use Prim.Native.Nat.{◌%◌}
use native.Mathlib.Omega.{arith}
use lib.Pow.{pow_pos}
use Rattle.nodeset.proofs.Sets.{shl_one, word_below}
use Rattle.nodeset.proofs.word_below.Goals as goal

pub returns-then-i-n : goal.returns-then-i-n
returns-then-i-n c = let a = c.args in omega (arith, word_below a.n a.i 64 (omega arith) (λ d l h. l) (λ d l h. omega arith))

pub returns-then-n-i : goal.returns-then-n-i
returns-then-n-i c = let a = c.args in omega (arith, word_below a.n a.i 0 (omega arith) (λ d l h. omega arith) (λ d l h. omega arith))

pub overflow_sub-result : goal.overflow_sub-result
overflow_sub-result c = let k = c.args.n % 64 in omega (arith, shl_one k (omega arith), pow_pos k)

pub returns : goal.returns
returns c =
    let a = c.args in
    omega (arith, shl_one (a.n % 64) (omega arith), word_below a.n a.i (a.n % 64) (omega arith) (λ d l h. omega arith) (λ d l h. omega arith))
