-- What `find` answers, which the answers at a position are made of.
use Rattle.std.specs.Prelude.{◌≡◌, ℤ, Result, IfOk}
use Rattle.rules.specs.declared.Refused.{Refused}
use Rattle.rules.specs.Causes.{number, place}
use Rattle.rules.specs.Limits.{unit}
use Rattle.rules.specs.Refusals.{Given}
use Rattle.table.specs.Table.{Table}
use Rattle.position.specs.declared.inside.Inside.{Inside}
use Rattle.position.specs.Position.{HoldsAt, evaluation_order}
use Rattle.position.specs.Spot.{SpotOn}

-- the position in its piece, in the table's unit
pub record InsideAt (t : Table) (x : ℤ) (at : Inside) : Type 0 where
  pub unit_is : at.unit.size ≡ unit t.s
  pub spot : SpotOn t.knots t.values t.slopes at.spot.piece x at.spot.left at.spot.h at.spot.z at.spot.m at.spot.n at.spot.t

-- "evaluation: 1, 2, 3, 4, 5, 6", and 12 "asked first": the refusal; or where the position is
pub record FoundAt (t : Table) (x : ℤ) (r : Result Inside Refused) : Type 0 where
  pub refusal : Given (HoldsAt t x) evaluation_order (number r) (place r)
  pub inside : IfOk r (InsideAt t x)
