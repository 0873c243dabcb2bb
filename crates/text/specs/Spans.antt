-- A word that stands between two positions of a text.
use Rattle.std.specs.Prelude.{ℕ, ◌≤◌, ◌≡◌, List, length}
use Rattle.std.proofs.Math.Seq.{slice}

-- w stands from a to b
pub record Span (s : List ℕ) (a b : ℕ) (w : List ℕ) : Type 0 where
  pub from : a ≤ b
  pub within : b ≤ length s
  pub text : slice a b s ≡ w
