-- Each refusal holds by what the limits' tests say, and the verdict by the piece's being monotone and its rise's sign.
use Rattle.std.specs.Prelude.{List, [], ◌∷◌, ℤ}
use Rattle.std.proofs.Common.{subst, to_z-of_z}
use Rattle.std.specs.Int.{w32, w64}
use Rattle.integers.specs.Promise.{Decided}
use Rattle.integers.specs.Decided.{told, denied, asked}
use Rattle.integers.specs.Order.{≤ℤ_antisym}
use Rattle.integers.specs.Sizes.{Known, held, code}
use Rattle.integers.specs.Tests.{tests, passed, failed}
use Rattle.integers.specs.Arguments.{arguments, plainly₅}
use Rattle.cubic.specs.Piece.{Monotone}
use Rattle.rules.specs.Limits.{unit, UnitWithin, WidthWithin, RiseWithin}
use Rattle.rules.specs.Known.{known_unit}
use Rattle.piece.specs.Promise.{unit_refused, width_refused, rise_refused, bent}
use Rattle.piece.specs.Leaning.{is_rising, is_falling, is_flat}
use Rattle.piece.proofs.judge.Goals as goal
use Rattle.piece.proofs.judge.Goals.{After-is_monotone}

pub returns-then-not-unit_within : goal.returns-then-not-unit_within
returns-then-not-unit_within c = rw c.by.ensures (unit_refused (denied c.unit_within.ensures c.if-not-unit_within.true))

pub returns-then-not-width_within : goal.returns-then-not-width_within
returns-then-not-width_within c =
    rw c.by-then-not-width_within.ensures
    (width_refused (told c.unit_within.ensures c.if-not-unit_within.false) (denied (asked WidthWithin (to_z-of_z c.ranges.h) c.width_within.ensures) c.if-not-width_within.true))

pub returns-then-not-rise_within : goal.returns-then-not-rise_within
returns-then-not-rise_within c =
    rw c.by-then-not-rise_within.ensures
    (rise_refused (told c.unit_within.ensures c.if-not-unit_within.false) (told (asked WidthWithin (to_z-of_z c.ranges.h) c.width_within.ensures) c.if-not-width_within.false)
    (denied (asked RiseWithin (to_z-of_z c.ranges.z) c.rise_within.ensures) c.if-not-rise_within.true))

pub unit-requires : goal.unit-requires
unit-requires c = told c.unit_within.ensures c.if-not-unit_within.false

abbrev numbers : After-is_monotone → List Known
numbers c = held w64 c.args.h c.ranges.h ∷ held w64 c.args.z c.ranges.z ∷ held w32 c.args.m c.ranges.m ∷ held w32 c.args.n c.ranges.n ∷ []

-- where the piece has been looked at: it is within the limits, and whether it is monotone
module _ (c : After-is_monotone) where
  u : UnitWithin c.args.s
  u = told c.unit_within.ensures c.if-not-unit_within.false

  w : WidthWithin c.args.h
  w = told (asked WidthWithin (to_z-of_z c.ranges.h) c.width_within.ensures) c.if-not-width_within.false

  r : RiseWithin c.args.z
  r = told (asked RiseWithin (to_z-of_z c.ranges.z) c.rise_within.ensures) c.if-not-rise_within.false

  decided : Decided (Monotone (unit c.args.s) c.args.h c.args.z c.args.m c.args.n) c.is_monotone.result
  decided =
      subst (λ (U : ℤ). Decided (Monotone U c.args.h c.args.z c.args.m c.args.n) c.is_monotone.result) c.unit.ensures
      (plainly₅ (known_unit c.unit.result.size c.unit.result.within ∷ numbers c) (λ (U h z m n : ℤ). Decided (Monotone U h z m n) c.is_monotone.result) c.is_monotone.ensures (search code depth 30 fits 9000)
      (search arguments depth 30 fits 9000) tt)

pub returns-then-not-is_monotone : goal.returns-then-not-is_monotone
returns-then-not-is_monotone c = let m = c.before in bent (u m) (w m) (r m) (denied (decided m) c.if-not-is_monotone.true)

pub returns-then-z-gt0 : goal.returns-then-z-gt0
returns-then-z-gt0 c =
    let m = c.before.before in
    is_rising (u m) (w m) (r m) (passed (numbers m) c.if-z-gt0.true (search tests depth 30 fits 9000) tt) (told (decided m) c.if-not-is_monotone.false)

pub returns-then-z-lt0 : goal.returns-then-z-lt0
returns-then-z-lt0 c =
    let m = c.before.before.before in
    is_falling (u m) (w m) (r m) (passed (numbers m) c.if-z-lt0.true (search tests depth 30 fits 9000) tt) (told (decided m) c.if-not-is_monotone.false)

pub returns : goal.returns
returns c =
    let m = c.before.before.before in
    is_flat (u m) (w m) (r m)
    (≤ℤ_antisym (failed (numbers m) c.if-z-gt0.false (search tests depth 30 fits 9000) tt) (failed (numbers m) c.if-z-lt0.false (search tests depth 30 fits 9000) tt))
    (told (decided m) c.if-not-is_monotone.false)
