-- The causes of a refusal by their numbers in the exact rules, and what an answer says of a refusal. Whoever believes a promise about refusals believes this file.
use Rattle.std.specs.Prelude.{ℕ, Result, Ok, Err}
use Rattle.rules.specs.declared.Cause.{Cause}
use Rattle.rules.specs.declared.Cause.TheVariants.{SlopeUnit, Lengths, Count, Point, Width, Rise, Bend, Position, Size}
use Rattle.rules.specs.declared.Refused.{Refused}

-- "Refusal numbers", and "A larger s is refusal 12"
abbrev pub number_of : Cause → ℕ
number_of Lengths = 1
number_of Count = 2
number_of Width = 3
number_of Rise = 4
number_of Bend = 5
number_of Position = 6
number_of Point = 7
number_of Size = 8
number_of SlopeUnit = 12

-- a refusal by a cause that is that of no piece
abbrev pub at_place_0 : Cause → Refused
at_place_0 cause = record { cause = cause; place = 0 }

module _ {A : Type 0} where
  -- The number and the place that an answer gives: "0 | none, done | 0"
  abbrev pub number : Result A Refused → ℕ
  number (Ok a) = 0
  number (Err r) = number_of r.cause

  abbrev pub place : Result A Refused → ℕ
  place (Ok a) = 0
  place (Err r) = r.place

  -- what it has beside them; "and its value, if it has one, is 0": none stands for that of a refused call
  abbrev pub answer_or : A → Result A Refused → A
  answer_or none (Ok a) = a
  answer_or none (Err r) = none
