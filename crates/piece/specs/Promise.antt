-- What the exact rules answer of one piece. Whoever believes the promise of `judge` believes this file, the limits, and the definition of a
-- monotone piece.
use Rattle.std.specs.Prelude.{ℕ, zero, suc, ℤ, pos, negsuc, Result, Ok, Err}
use Rattle.cubic.specs.Piece.{Monotone}
use Rattle.rules.specs.Limits.{unit, UnitWithin, WidthWithin, RiseWithin}
use Rattle.piece.specs.declared.Verdict.{Verdict}
use Rattle.piece.specs.declared.Verdict.TheVariants.{Rising, Falling, Flat, Bends}
use Rattle.rules.specs.declared.Refused.{Refused}
use Rattle.rules.specs.Causes.{number_of}

-- "The verdicts are rising, falling, flat and bends"; a refusal has "none of the four verdicts".
pub data Finding : Type 0 where
  rising falling flat bends none : Finding

-- The number of the refusal (0: none), its place, and the verdict.
pub data Ruling : Type 0 where
  ruling : ℕ → ℕ → Finding → Ruling

-- The exact rules' number, place and verdict for each answer.
abbrev pub ruling_of : Result Verdict Refused → Ruling
ruling_of (Ok Rising) = ruling 0 0 rising
ruling_of (Ok Falling) = ruling 0 0 falling
ruling_of (Ok Flat) = ruling 0 0 flat
ruling_of (Ok Bends) = ruling 0 0 bends
ruling_of (Err r) = ruling (number_of r.cause) r.place none

-- A monotone piece is called by the sign of its rise.
abbrev pub leaning : ℤ → Finding
leaning (pos zero) = flat
leaning (pos (suc n)) = rising
leaning (negsuc n) = falling

-- The right ruling for a piece whose slopes are in 1/2^s. "one piece: 3, 4", and before these "A larger s is refusal 12, place 0, asked first": the first cause that holds, at place 0; else
-- monotone by the definition, or it bends.
pub data Judged (s : ℕ) (h z m n : ℤ) : Ruling → Type 0 where
  unit_refused : (UnitWithin s → ⊥) → Judged s h z m n (ruling 12 0 none)
  width_refused : UnitWithin s → (WidthWithin h → ⊥) → Judged s h z m n (ruling 3 0 none)
  rise_refused : UnitWithin s → WidthWithin h → (RiseWithin z → ⊥) → Judged s h z m n (ruling 4 0 none)
  monotone : UnitWithin s → WidthWithin h → RiseWithin z → Monotone (unit s) h z m n → Judged s h z m n (ruling 0 0 (leaning z))
  bent : UnitWithin s → WidthWithin h → RiseWithin z → (Monotone (unit s) h z m n → ⊥) → Judged s h z m n (ruling 0 0 bends)
