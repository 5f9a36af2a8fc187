-- Wrong programs with numbers, each refuted by what it would answer to one call: `division_toward_zero : floor_div (negsuc 9) (pos 3) (negsuc 2) → ⊥` says that a program
-- which answers −3 to the division of −10 by 3 does not meet the promise, neither that of `floor_div` nor that of `negwafir_floor_div`, which C links. A call is written by its
-- arguments and what may be answered to it, last. `Demands.antt` says how to read the rest.
use Rattle.std.specs.Prelude.{refl, Bool, true, false, ◌⊎◌, ℕ, ℤ, pos, negsuc}
use Rattle.std.proofs.Common.{inl, inr, arith, lit≤}
use Rattle.std.specs.Int.Signed.{le_z_yes, lt_z_yes}
use Rattle.integers.specs.Decided.{told, denied}
use Rattle.rules.specs.Known.{UnitSize}
use Rattle.demands.specs.Refuting.{within, numbers_differ}
use Rattle.integers.proofs.difference.Reads as integers-difference
use Rattle.integers.proofs.between.Reads as integers-between
use Rattle.integers.proofs.floor_div.Reads as integers-floor_div
use Rattle.integers.proofs.nearest_div.Reads as integers-nearest_div
use Rattle.rules.proofs.unit_within.Reads as rules-unit_within
use Rattle.rules.proofs.unit.Reads as rules-unit
use Rattle.rules.proofs.count_within.Reads as rules-count_within
use Rattle.rules.proofs.width_within.Reads as rules-width_within
use Rattle.rules.proofs.rise_within.Reads as rules-rise_within
use Rattle.exports.proofs.negwafir_difference.Reads as exports-negwafir_difference
use Rattle.exports.proofs.negwafir_between.Reads as exports-negwafir_between
use Rattle.exports.proofs.negwafir_floor_div.Reads as exports-negwafir_floor_div
use Rattle.exports.proofs.negwafir_nearest_div.Reads as exports-negwafir_nearest_div
use Rattle.exports.proofs.negwafir_unit_within.Reads as exports-negwafir_unit_within
use Rattle.exports.proofs.negwafir_count_within.Reads as exports-negwafir_count_within
use Rattle.exports.proofs.negwafir_width_within.Reads as exports-negwafir_width_within
use Rattle.exports.proofs.negwafir_rise_within.Reads as exports-negwafir_rise_within

-- of two promises that are one definition
pub either : {A : Type 0} → A ⊎ A → A
either (inl a) = a
either (inr a) = a

-- ---- integers::difference

abbrev difference : ℤ → ℤ → (r : ℤ) → Type 0
difference left right r = integers-difference.Post tt (left, (right, tt)) r (left, (right, tt)) ⊎ exports-negwafir_difference.Post tt (left, (right, tt)) r (left, (right, tt))

-- from 2147483647 to −2147483648 the difference is −4294967295, which wraps to 1 in 32 bits
pub difference_in_32_bits : difference (pos 2147483647) (negsuc 2147483647) (pos 1) → ⊥
difference_in_32_bits p = numbers_differ tt (either p)

-- from 0 to 3 the difference is 3, and not −3
pub left_minus_right : difference (pos 0) (pos 3) (negsuc 2) → ⊥
left_minus_right p = numbers_differ tt (either p)

-- ---- integers::between

abbrev between : ℤ → ℤ → ℤ → (r : Bool) → Type 0
between low x high r = integers-between.Post tt (low, (x, (high, tt))) r (low, (x, (high, tt))) ⊎ exports-negwafir_between.Post tt (low, (x, (high, tt))) r (low, (x, (high, tt)))

-- 1024 lies between 1 and 1024
pub high_end_left_out : between (pos 1) (pos 1024) (pos 1024) false → ⊥
high_end_left_out p = denied (either p) refl (within tt tt)

-- 1 lies between 1 and 1024
pub low_end_left_out : between (pos 1) (pos 1) (pos 1024) false → ⊥
low_end_left_out p = denied (either p) refl (within tt tt)

-- 0 does not lie between 1 and 1024
pub taken_below_the_low_end : between (pos 1) (pos 0) (pos 1024) true → ⊥
taken_below_the_low_end p = (told (either p) refl).low.le

-- 1025 does not lie between 1 and 1024
pub taken_above_the_high_end : between (pos 1) (pos 1025) (pos 1024) true → ⊥
taken_above_the_high_end p = (told (either p) refl).high.le

-- 5 lies between 0 and 9, though 0 does not lie between 5 and 9
pub number_for_its_low_end : between (pos 0) (pos 5) (pos 9) false → ⊥
number_for_its_low_end p = denied (either p) refl (within tt tt)

-- ---- integers::floor_div

abbrev floor_div : ℤ → ℤ → (r : ℤ) → Type 0
floor_div n d r = integers-floor_div.Post tt (n, (d, tt)) r (n, (d, tt)) ⊎ exports-negwafir_floor_div.Post tt (n, (d, tt)) r (n, (d, tt))

-- −10 divided by 3 is −4, rounded down, and not −3
pub division_toward_zero : floor_div (negsuc 9) (pos 3) (negsuc 2) → ⊥
division_toward_zero p = numbers_differ tt (either p).is

-- −9 divided by 3 is −3, with nothing left over, and not −4
pub exact_quotient_too_low : floor_div (negsuc 8) (pos 3) (negsuc 3) → ⊥
exact_quotient_too_low p = numbers_differ tt (either p).is

-- 7 divided by 2 is 3, and 2 divided by 7 is 0
pub divisor_for_dividend : floor_div (pos 7) (pos 2) (pos 0) → ⊥
divisor_for_dividend p = numbers_differ tt (either p).is

-- by a divisor below 1 the answer is 0: 7 by −2 is not −4, which is −3.5 rounded down
pub divided_by_a_negative : floor_div (pos 7) (negsuc 1) (negsuc 3) → ⊥
divided_by_a_negative p = numbers_differ tt (either p).is

-- and 7 by 0 is not 7
pub dividend_over_zero : floor_div (pos 7) (pos 0) (pos 7) → ⊥
dividend_over_zero p = numbers_differ tt (either p).is

-- ---- integers::nearest_div

abbrev nearest_div : ℤ → ℤ → (r : ℤ) → Type 0
nearest_div n d r = integers-nearest_div.Post tt (n, (d, tt)) r (n, (d, tt)) ⊎ exports-negwafir_nearest_div.Post tt (n, (d, tt)) r (n, (d, tt))

-- 7 divided by 4 is 2 to the nearest, and not 1
pub nearest_rounded_down : nearest_div (pos 7) (pos 4) (pos 1) → ⊥
nearest_rounded_down p = ((either p).nearest (lt_z_yes tt)).below.lt

-- −7 divided by 4 is −2, and not −1; and −1 by 1 is −1, and not 0, as division toward zero has it of −2 + 1 by 2
pub nearest_rounded_toward_zero : nearest_div (negsuc 6) (pos 4) (negsuc 0) → ⊥
nearest_rounded_toward_zero p = ((either p).nearest (lt_z_yes tt)).above.le

pub nearest_by_division_toward_zero : nearest_div (negsuc 0) (pos 1) (pos 0) → ⊥
nearest_by_division_toward_zero p = ((either p).nearest (lt_z_yes tt)).above.le

-- −1 divided by 2 is 0, and not −1, as a half away from zero has it, or a fall as the mirror of a rise
pub a_half_away_from_zero : nearest_div (negsuc 0) (pos 2) (negsuc 0) → ⊥
a_half_away_from_zero p = ((either p).nearest (lt_z_yes tt)).below.lt

-- 1 divided by 2 is 1, and not 0, as a half down has it, or to the even number
pub a_half_down : nearest_div (pos 1) (pos 2) (pos 0) → ⊥
a_half_down p = ((either p).nearest (lt_z_yes tt)).below.lt

-- 0 divided by 1 is 0, and not 1, as it is with a half of 1 rounded up; and 1 divided by 3 is 0
pub an_odd_half_rounded_up : nearest_div (pos 0) (pos 1) (pos 1) → ⊥
an_odd_half_rounded_up p = ((either p).nearest (lt_z_yes tt)).above.le

pub a_third_rounded_up : nearest_div (pos 1) (pos 3) (pos 1) → ⊥
a_third_rounded_up p = ((either p).nearest (lt_z_yes tt)).above.le

-- 2^63 − 1 divided by itself is 1, and not −1, as a sum that wraps has it; nor 0, without the 1 that is put on where d is taken off
pub a_sum_that_wraps : nearest_div (pos 9223372036854775807) (pos 9223372036854775807) (negsuc 0) → ⊥
a_sum_that_wraps p = ((either p).nearest (lt_z_yes tt)).below.lt

pub nothing_put_on : nearest_div (pos 9223372036854775807) (pos 9223372036854775807) (pos 0) → ⊥
nothing_put_on p = ((either p).nearest (lt_z_yes tt)).below.lt

-- 7 divided by 2 is 4, and 2 divided by 7 is 0
pub nearest_divisor_for_dividend : nearest_div (pos 7) (pos 2) (pos 0) → ⊥
nearest_divisor_for_dividend p = ((either p).nearest (lt_z_yes tt)).below.lt

-- by a divisor below 1 the answer is 0: 7 by −2 is not −3, which is −3.5 with a half going up, and 7 by 0 is not 7
pub nearest_by_a_negative : nearest_div (pos 7) (negsuc 1) (negsuc 2) → ⊥
nearest_by_a_negative p = numbers_differ tt ((either p).otherwise (le_z_yes tt))

pub nearest_over_zero : nearest_div (pos 7) (pos 0) (pos 7) → ⊥
nearest_over_zero p = numbers_differ tt ((either p).otherwise (le_z_yes tt))

-- ---- rules::unit_within, rules::unit

abbrev unit_within : ℕ → (r : Bool) → Type 0
unit_within s r = rules-unit_within.Post tt (s, tt) r (s, tt) ⊎ exports-negwafir_unit_within.Post tt (s, tt) r (s, tt)

pub nine_is_a_unit : unit_within 9 true → ⊥
nine_is_a_unit p = omega (arith, (told (either p) refl).high)

-- 264 is 8 in a byte, and 2^31 + 8 is below 0 with a sign
pub a_unit_in_a_byte : unit_within 264 true → ⊥
a_unit_in_a_byte p = omega (arith, (told (either p) refl).high)

pub a_unit_with_a_sign : unit_within 2147483656 true → ⊥
a_unit_with_a_sign p = omega (arith, (told (either p) refl).high)

-- 8 and 0 are units
pub the_finest_unit_refused : unit_within 8 false → ⊥
the_finest_unit_refused p = denied (either p) refl (record { high = lit≤ tt })

pub whole_slopes_refused : unit_within 0 false → ⊥
whole_slopes_refused p = denied (either p) refl (record { high = lit≤ tt })

-- where what it requires is met, 2^s is neither 2·s nor always 256, and 1 at 0; a unit is from 1 to 256, whatever the proof of that
abbrev pub UnitIsNot : ℕ → ℤ → Type 0
UnitIsNot s u = rules-unit.Pre tt (s, tt) × ((w : UnitSize u) → rules-unit.Post tt (s, tt) (record { size = u; within = w }) (s, tt) → ⊥)

pub twice_its_number : UnitIsNot 3 (pos 6)
twice_its_number = (record { high = lit≤ tt }, λ w p. numbers_differ tt p)

pub always_256 : UnitIsNot 0 (pos 256)
always_256 = (record { high = lit≤ tt }, λ w p. numbers_differ tt p)

pub no_unit_at_0 : UnitIsNot 0 (pos 0)
no_unit_at_0 = (record { high = lit≤ tt }, λ w p. numbers_differ tt p)

-- ---- rules::count_within

abbrev count_within : ℕ → (r : Bool) → Type 0
count_within n r = rules-count_within.Post tt (n, tt) r (n, tt) ⊎ exports-negwafir_count_within.Post tt (n, tt) r (n, tt)

-- 1,025 points are one too many
pub a_point_too_many : count_within 1025 true → ⊥
a_point_too_many p = omega (arith, (told (either p) refl).high)

-- one point is too few
pub one_point_is_enough : count_within 1 true → ⊥
one_point_is_enough p = omega (arith, (told (either p) refl).low)

-- no points are too few: it is the number given that is asked about
pub any_count_within : count_within 0 true → ⊥
any_count_within p = omega (arith, (told (either p) refl).low)

-- 1,024 points are within the limits
pub most_points_refused : count_within 1024 false → ⊥
most_points_refused p = denied (either p) refl (record { low = omega arith; high = omega arith })

-- ---- rules::width_within

abbrev width_within : ℤ → (r : Bool) → Type 0
width_within h r = rules-width_within.Post tt (h, tt) r (h, tt) ⊎ exports-negwafir_width_within.Post tt (h, tt) r (h, tt)

-- 0 is no width
pub width_zero_taken : width_within (pos 0) true → ⊥
width_zero_taken p = (told (either p) refl).low.le

-- 1 is a width: not every one is refused, and the answer is not turned round
pub every_width_refused : width_within (pos 1) false → ⊥
every_width_refused p = denied (either p) refl (within tt tt)

-- 1,025 is no width
pub width_one_too_large : width_within (pos 1025) true → ⊥
width_one_too_large p = (told (either p) refl).high.le

-- ---- rules::rise_within

abbrev rise_within : ℤ → (r : Bool) → Type 0
rise_within z r = rules-rise_within.Post tt (z, tt) r (z, tt) ⊎ exports-negwafir_rise_within.Post tt (z, tt) r (z, tt)

-- 1,048,577 is no rise: not every number is one
pub rise_one_too_large : rise_within (pos 1048577) true → ⊥
rise_one_too_large p = (told (either p) refl).high.le

-- −1,048,576 is a rise
pub least_rise_refused : rise_within (negsuc 1048575) false → ⊥
least_rise_refused p = denied (either p) refl (within tt tt)

-- −1,048,577 is no rise
pub fall_one_too_large : rise_within (negsuc 1048576) true → ⊥
fall_one_too_large p = (told (either p) refl).low.le
