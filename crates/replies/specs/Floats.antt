-- A float as it is written: its sign, also that of −0, and the whole part of its size where that is below 2^64. No answer has a float with a fraction, or one that is larger.
use Rattle.std.specs.Prelude.{ℕ, Bool, true, false, cond, pos, Float}
use Rattle.std.specs.Float.{fin, binary64}
use Rattle.std.specs.Float.Ieee.{div, neg, lt, to_unsigned}
use Rattle.answers.specs.declared.filling.Signed.{Signed}

-- −0 is no less than 0, but 1 over it is
unfoldable pub is_negative : Float → Bool
unfolding div lt
is_negative x = lt (div binary64 (fin false 1 (pos 0)) x) (fin false 0 (pos 0))

-- the whole part of a float above −1 and below 2^64, and 0 for any other
unfoldable pub whole_part : Float → ℕ
unfolding lt to_unsigned
whole_part x = cond (lt (fin true 1 (pos 0)) x) (cond (lt x (fin false 1 (pos 64))) (to_unsigned 64 x) 0) 0

abbrev pub with_sign : Bool → Float → Signed
with_sign true x = record { negative = true; size = whole_part (neg x) }
with_sign false x = record { negative = false; size = whole_part x }

unfoldable pub float_as : Float → Signed
unfolding is_negative whole_part neg
float_as x = with_sign (is_negative x) x
