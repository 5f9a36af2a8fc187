-- Each of Horner's steps is a whole number that a float holds.
use Rattle.std.specs.Prelude.{[], ◌∷◌, ◌^◌, ℤ, T}
use Rattle.std.proofs.Common.{to_z, of_z}
use Rattle.std.specs.Int.{w64}
use Rattle.std.specs.Float.{binary64}
use Rattle.std.specs.Float.Ieee.{in_float, of_int}
use Rattle.integers.specs.Within.{Within}
use Rattle.integers.specs.Sizes.{known, code}
use Rattle.floats.specs.Whole.{Whole, exactly_whole, whole_product, whole_sum, settled}
use Rattle.floats.proofs.Exactly.{zero_in_code}
use Rattle.floats.proofs.Cast.{may_cast, cast_is}
use Rattle.drive.proofs.horner.numerator.Goals as goal

-- a number that goes in, cast
cast : {n : ℤ} → Within (2 ^ 53) n → Whole n (of_int binary64 (to_z w64 (of_z w64 n)))
cast {n} w = exactly_whole (cast_is binary64 (known n _ w ∷ []) (search code depth 30 fits 9000) tt)

pub returns : goal.returns
returns c =
    let within = c.requires in
    let t = cast within.place in
    let h = cast within.width in
    let upper = whole_sum binary64 (whole_product binary64 (cast within.three) t within.three_t) (whole_product binary64 (cast within.two) h within.two_h) within.upper in
    let lower = whole_product binary64 (cast within.one) (whole_product binary64 h h within.h_h) within.one_h_h in
    let last = whole_product binary64 (whole_sum binary64 (whole_product binary64 upper t within.upper_t) lower within.lower) t within.last in
    settled binary64 last zero_in_code within.last
