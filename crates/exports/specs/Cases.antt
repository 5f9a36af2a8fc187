-- Where a function below answers an enum, an Option or a Result, a record crosses to C: a number for its case, and the case's values, each 0 where the case has none, but for what
-- stands below a dwell, which is 1. Whoever believes such a promise believes this file and the promise of the function below.
use Rattle.std.specs.Prelude.{Bool, true, false, ℕ, ℤ, pos, Float, Option, None, Some, Result, Ok, Err}
use Rattle.std.specs.Float.{binary64}
use Rattle.floats.specs.Promise.{Exactly}
use Rattle.piece.specs.declared.Verdict.{Verdict}
use Rattle.piece.specs.declared.Verdict.TheVariants.{Rising, Falling, Flat, Bends}
use Rattle.piece.specs.Promise as piece
use Rattle.table.specs.Table.{Table}
use Rattle.drive.specs.Drive.{dwell, move, Driving}
use Rattle.words.specs.declared.split.Word.{Word}
use Rattle.decimals.specs.declared.reading.NotNumber.{NotNumber}
use Rattle.decimals.specs.declared.reading.NotNumber.TheVariants.{NotDecimal, TooLarge}

-- The number of a verdict: 0 none, 1 rising, 2 falling, 3 flat, 4 bends.
abbrev pub verdict_number : piece.Finding → ℕ
verdict_number piece.none = 0
verdict_number piece.rising = 1
verdict_number piece.falling = 2
verdict_number piece.flat = 3
verdict_number piece.bends = 4

-- what each verdict is called there
abbrev pub finding_of : Verdict → piece.Finding
finding_of Rising = piece.rising
finding_of Falling = piece.falling
finding_of Flat = piece.flat
finding_of Bends = piece.bends

-- What is answered of one piece is right by the exact rules, and its verdict stands there by its number.
pub data JudgedAs (s : ℕ) (h z m n : ℤ) (number place : ℕ) : ℕ → Type 0 where
  judged : {w : piece.Finding} → piece.Judged s h z m n (piece.ruling number place w) → JudgedAs s h z m n number place (verdict_number w)

-- What the drive is told: kind 0, a dwell, with its level on the left, +0 above and 1 below, so that left + numerator / denominator is the level; or kind 1,
-- a move, with its three floats.
pub data DrivenAs (tab : Table) (x : ℤ) (number place : ℕ) : ℕ → Float → Float → Float → Type 0 where
  dwells : {level zero one : Float} → Driving tab x number place (dwell level) → Exactly binary64 (pos 0) zero → Exactly binary64 (pos 1) one → DrivenAs tab x number place 0 level zero one
  moves : {left numerator denominator : Float} → Driving tab x number place (move left numerator denominator) → DrivenAs tab x number place 1 left numerator denominator

-- A word is found, with its two positions; or none is, and both are 0.
pub data WordAs : Option Word → Bool → ℕ → ℕ → Type 0 where
  found : {w : Word} → WordAs (Some w) true w.start w.end
  nothing : WordAs None false 0 0

-- What text says as a number: kind 0, the number; kind 1, that it is no decimal number, or kind 2, that it is too large, each with the value 0.
pub data NumberAs : Result ℤ NotNumber → ℕ → ℤ → Type 0 where
  whole : {n : ℤ} → NumberAs (Ok n) 0 n
  not_decimal : NumberAs (Err NotDecimal) 1 (pos 0)
  too_large : NumberAs (Err TooLarge) 2 (pos 0)
