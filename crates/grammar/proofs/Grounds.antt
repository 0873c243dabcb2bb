-- A ground is in its line, and its number is from 2 to 7.
use Prim.Native.Nat.{ℕ, ◌+◌, ◌≤◌}
use mathlib.Core.List.{List}
use native.Mathlib.Omega.{arith}
use lib.ListN.{length}
use Rattle.model.specs.Books.{Book}
use Rattle.grammar.specs.Syntax.{Slot}
use Rattle.grammar.specs.Reading.{Begun}
use Rattle.grammar.specs.Grounds.{Waits, line, inner, next, item, Ground, no_line, no-line-word, no_space, misfit, no_word, no_close, no_end, value_range, low_range, high_range, nesting, undefined, repeated, pool_full, items-full, forms-full, paths-full, facts_full, rules-full}

module _ (s : List ℕ) (above : Book) (start : ℕ) where
  -- the places are in the line, and in the text
  pub waits-from : {q o : ℕ} {ks : List Slot} {n : Begun} → Waits s above start q ks n o → start ≤ q
  waits-from (line c p) = p.from
  waits-from (inner w o p) = let h = waits-from w in let k = p.from in omega arith
  waits-from (next w a p e) = let h = waits-from w in let k = p.from in omega arith
  waits-from (item w a p e) = let h = waits-from w in let k = p.from in omega arith

  pub waits-inside : {q o : ℕ} {ks : List Slot} {n : Begun} → Waits s above start q ks n o → q ≤ length s
  waits-inside (line c p) = p.within
  waits-inside (inner w o p) = p.within
  waits-inside (next w a p e) = p.within
  waits-inside (item w a p e) = p.within

  -- a ground is in the line, and its number is from 2 to 7
  pub record Numbered (r p : ℕ) : Type 0 where
    pub from : start ≤ p
    pub least : 2 ≤ r
    pub greatest : r ≤ 7

  after_space : (r : ℕ) {q o : ℕ} {ks : List Slot} {n : Begun} → Waits s above start q ks n o → 2 ≤ r → r ≤ 7 → Numbered r (q + 1)
  after_space r w l h = record { from = let f = waits-from w in omega arith; least = l; greatest = h }

  pub ground-numbered : {r p : ℕ} → Ground s above start r p → Numbered r p
  ground-numbered (no_line e) = omega arith
  ground-numbered (no-line-word w o e) = omega arith
  ground-numbered (no_space w l e) = record { from = waits-from w; least = omega arith; greatest = omega arith }
  ground-numbered (misfit w v i e b) = after_space 2 w (omega arith) (omega arith)
  ground-numbered (no_word w v i e) = after_space 2 w (omega arith) (omega arith)
  ground-numbered (no_close w e) = record { from = waits-from w; least = omega arith; greatest = omega arith }
  ground-numbered (no_end l p v e) = record { from = p.from; least = omega arith; greatest = omega arith }
  ground-numbered (value_range w z i e) = after_space 3 w (omega arith) (omega arith)
  ground-numbered (low_range w x i e) = after_space 3 w (omega arith) (omega arith)
  ground-numbered (high_range w x i e) = after_space 3 w (omega arith) (omega arith)
  ground-numbered (nesting w d o b) = after_space 4 w (omega arith) (omega arith)
  ground-numbered (undefined w k v i e f) = after_space 5 w (omega arith) (omega arith)
  ground-numbered (repeated w v i e f) = after_space 6 w (omega arith) (omega arith)
  ground-numbered (pool_full w v i e f) = after_space 7 w (omega arith) (omega arith)
  ground-numbered (items-full w a d i e) = after_space 7 w (omega arith) (omega arith)
  ground-numbered (forms-full w b e) = after_space 7 w (omega arith) (omega arith)
  ground-numbered (paths-full w k b e) = after_space 7 w (omega arith) (omega arith)
  ground-numbered (facts_full w o c e) = record { from = waits-from w; least = omega arith; greatest = omega arith }
  ground-numbered (rules-full w o c e) = record { from = waits-from w; least = omega arith; greatest = omega arith }
