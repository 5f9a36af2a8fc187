-- "The value at a position" of the exact rules, for a whole table. Whoever believes the promise of `evaluate` believes this file and what it cites: the
-- cubic and its rounding, a table and its causes, which piece a position belongs to, and the refusals.
use Rattle.std.specs.Prelude.{◌≡◌, ℕ, ◌+◌, ℤ, pos, ◌+ℤ◌, ◌-ℤ◌}
use Rattle.cubic.specs.Value.{risen}
use Rattle.rules.specs.Limits.{unit}
use Rattle.rules.specs.Refusals.{Given, Answered}
use Rattle.table.specs.Table.{Table, entry, step}
use Rattle.position.specs.Position.{Belongs, HoldsAt, evaluation_order}

-- what the cubic of piece i has risen by at the position, rounded to a whole number, "With t = position − left knot"
abbrev pub risen_on : Table → ℕ → ℤ → ℤ
risen_on t i x =
    risen (unit t.s) (step t.knots i) (step t.values i) (entry t.slopes i) (entry t.slopes (i + 1)) (x -ℤ entry t.knots i)

-- "the answer is the left value plus" that
abbrev pub value_on : Table → ℕ → ℤ → ℤ
value_on t i x = entry t.values i +ℤ risen_on t i x

-- the value at a position, on the piece that it belongs to
pub record ValueAt (t : Table) (x v : ℤ) : Type 0 where
  pub piece : ℕ
  pub belongs : Belongs t.knots x piece
  pub is : v ≡ value_on t piece x

-- What `evaluate` answers: the first cause of a refusal in the order 12, 1, 2, 3, 4, 5, 6, its place, and the value 0, which then says nothing; or 0 at
-- place 0, and the value at the position.
pub record Evaluated (t : Table) (x : ℤ) (number place : ℕ) (v : ℤ) : Type 0 where
  pub refusal : Given (HoldsAt t x) evaluation_order number place
  pub value : Answered (ValueAt t x) (pos 0) number v
