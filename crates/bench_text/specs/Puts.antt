-- Text put into a buffer.
use Rattle.std.specs.Prelude.{ℕ, ◌+◌, ◌≡◌, List, length}
use Rattle.std.proofs.lemmas.List.Edits.{sets}

-- a buffer had these bytes put at a place: the place behind them, and what it holds then
pub record Puts (out : List ℕ) (at : ℕ) (bytes : List ℕ) (behind : ℕ) (left : List ℕ) : Type 0 where
  pub place : behind ≡ at + length bytes
  pub holds : left ≡ sets out at bytes
