-- A place in a piece of an accepted table, by the numbers that the exact rules take of it.
use Rattle.std.specs.Prelude.{ℤ, pos}
use Rattle.integers.specs.Promise.{Between}
use Rattle.cubic.specs.Piece.{Monotone}
use Rattle.rules.specs.Limits.{WidthWithin, RiseWithin}
use Rattle.rules.specs.Known.{UnitSize}

-- a piece as an accepted table has it, with slopes in 1/U, and a count in it
pub record InPiece (U h z m n t : ℤ) : Type 0 where
  pub unit : UnitSize U
  pub width : WidthWithin h
  pub rise : RiseWithin z
  pub monotone : Monotone U h z m n
  pub place : Between (pos 0) t h
