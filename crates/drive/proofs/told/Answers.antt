-- A piece without a rise dwells, and any other moves.
use Rattle.std.specs.Prelude.{[], ◌∷◌}
use Rattle.std.proofs.Common.{rules}
use Rattle.std.specs.Int.{w32}
use Rattle.std.specs.Float.{binary64}
use Rattle.integers.specs.Sizes.{held, code}
use Rattle.integers.specs.Tests.{zeros, zero_yes, zero_no}
use Rattle.floats.proofs.Cast.{cast_is}
use Rattle.rules.specs.Known.{known_rise}
use Rattle.drive.specs.Drive.{dwells, moves}
use Rattle.drive.proofs.told.Goals as goal

pub returns-then-at-eq0 : goal.returns-then-at-eq0
returns-then-at-eq0 c =
    let at = c.args.at in
    dwells (zero_yes (known_rise at.spot.z at.in_piece.rise ∷ []) c.if-at-eq0.true (search zeros depth 30 fits 9000) tt)
    (cast_is binary64 (held w32 at.spot.left (search rules) ∷ []) (search code depth 30 fits 9000) tt)

pub returns-else-at-eq0 : goal.returns-else-at-eq0
returns-else-at-eq0 c =
    let at = c.args.at in
    moves (zero_no (known_rise at.spot.z at.in_piece.rise ∷ []) c.if-at-eq0.false (search zeros depth 30 fits 9000) tt) c.moving.ensures.left c.moving.ensures.numerator c.moving.ensures.denominator
