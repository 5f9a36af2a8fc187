-- "Figures to hold against it" of the exact rules, as request 2 of document 02 amends them, as far as they speak of built slopes, and the same points in other units: the definitions that `build` promises give
-- them.
use Rattle.std.specs.Prelude.{◌≡◌, refl, [], ◌∷◌, ℕ, ℤ, pos, negsuc}
use Rattle.std.proofs.Common.{arith}
use Rattle.rules.specs.Limits.{unit, UnitWithin}
use Rattle.rules.specs.Refusals.{Given, refused, passed}
use Rattle.table.specs.Table.{table, Holds, width_outside, build_order}
use Rattle.table.specs.Accepted.{unit_passes, same_length_passes, count_passes}
use Rattle.slopes.specs.Slopes.{built_slopes}

-- "points (0,0), (1,1), (2,4), (3,7) have 0, 384, 768, 768", as request 2 of document 02 has it, and with point 0 at (0,−2), as document 01 has it, "768, 768, 768, 768". The three
-- lists that are marked P stand in `Sixteen.antt` of `demands`.
pub four_slopes : built_slopes (unit 8) (pos 0 ∷ pos 1 ∷ pos 2 ∷ pos 3 ∷ []) (pos 0 ∷ pos 1 ∷ pos 4 ∷ pos 7 ∷ []) ≡ pos 0 ∷ pos 384 ∷ pos 768 ∷ pos 768 ∷ []
four_slopes = refl

pub four_slopes_lowered : built_slopes (unit 8) (pos 0 ∷ pos 1 ∷ pos 2 ∷ pos 3 ∷ []) (negsuc 1 ∷ pos 1 ∷ pos 4 ∷ pos 7 ∷ []) ≡ pos 768 ∷ pos 768 ∷ pos 768 ∷ pos 768 ∷ []
four_slopes_lowered = refl

-- ---- the borders of the end rule

-- opposite signs, and the quotient is below the bound, or the bound itself, or beyond it, where 896 would bend
pub below_the_bound : built_slopes (unit 8) (pos 0 ∷ pos 1 ∷ pos 2 ∷ []) (pos 0 ∷ pos 1 ∷ negsuc 0 ∷ []) ≡ pos 640 ∷ pos 0 ∷ negsuc 895 ∷ []
below_the_bound = refl

pub the_bound_itself : built_slopes (unit 8) (pos 0 ∷ pos 1 ∷ pos 2 ∷ []) (pos 0 ∷ pos 1 ∷ negsuc 1 ∷ []) ≡ pos 768 ∷ pos 0 ∷ negsuc 1279 ∷ []
the_bound_itself = refl

pub beyond_the_bound : built_slopes (unit 8) (pos 0 ∷ pos 1 ∷ pos 2 ∷ []) (pos 0 ∷ pos 1 ∷ negsuc 2 ∷ []) ≡ pos 768 ∷ pos 0 ∷ negsuc 1663 ∷ []
beyond_the_bound = refl

-- no rise at the left end, and beside the right one, which then has 3/2 of the secant
pub no_rise : built_slopes (unit 8) (pos 0 ∷ pos 1 ∷ pos 2 ∷ []) (pos 0 ∷ pos 0 ∷ pos 1 ∷ []) ≡ pos 0 ∷ pos 0 ∷ pos 384 ∷ []
no_rise = refl

-- the quotient opposes the rise
pub opposed : built_slopes (unit 8) (pos 0 ∷ pos 1 ∷ pos 2 ∷ []) (pos 0 ∷ pos 1 ∷ pos 5 ∷ []) ≡ pos 0 ∷ pos 409 ∷ pos 1408 ∷ []
opposed = refl

-- toward zero, where it falls
pub falls : built_slopes (unit 8) (pos 0 ∷ pos 1 ∷ pos 3 ∷ []) (pos 0 ∷ negsuc 0 ∷ negsuc 1 ∷ []) ≡ negsuc 297 ∷ negsuc 176 ∷ negsuc 41 ∷ []
falls = refl

-- the bound is 768/3, and not three times 85; and 768/2
pub bound_of_a_third : built_slopes (unit 8) (pos 0 ∷ pos 3 ∷ pos 4 ∷ []) (pos 0 ∷ pos 1 ∷ negsuc 8 ∷ []) ≡ pos 256 ∷ pos 0 ∷ negsuc 3220 ∷ []
bound_of_a_third = refl

pub bound_of_a_half : built_slopes (unit 8) (pos 0 ∷ pos 2 ∷ pos 3 ∷ []) (pos 0 ∷ pos 1 ∷ negsuc 8 ∷ []) ≡ pos 384 ∷ pos 0 ∷ negsuc 3455 ∷ []
bound_of_a_half = refl

-- a quarter of a unit
pub less_than_a_unit : built_slopes (unit 8) (pos 0 ∷ pos 1024 ∷ pos 2048 ∷ []) (pos 0 ∷ pos 1 ∷ pos 2 ∷ []) ≡ pos 0 ∷ pos 0 ∷ pos 0 ∷ []
less_than_a_unit = refl

-- the largest slope that an end can have, 2^29
pub the_largest : built_slopes (unit 8) (pos 0 ∷ pos 1 ∷ pos 2 ∷ []) (pos 0 ∷ pos 1048576 ∷ pos 0 ∷ []) ≡ pos 536870912 ∷ pos 0 ∷ negsuc 536870911 ∷ []
the_largest = refl

-- with a neighbour that falls by 2^20 at these widths, the largest rise that is held to the bound
pub the_last_that_is_bounded : built_slopes (unit 8) (pos 0 ∷ pos 1 ∷ pos 2 ∷ []) (pos 0 ∷ pos 349525 ∷ negsuc 699050 ∷ []) ≡ pos 268435200 ∷ pos 0 ∷ negsuc 447392383 ∷ []
the_last_that_is_bounded = refl

-- both ends of four points
pub both_ends_of_four : built_slopes (unit 8) (pos 0 ∷ pos 1 ∷ pos 2 ∷ pos 3 ∷ []) (pos 0 ∷ pos 1 ∷ pos 4 ∷ pos 3 ∷ []) ≡ pos 0 ∷ pos 384 ∷ pos 0 ∷ negsuc 767 ∷ []
both_ends_of_four = refl

-- ---- other units: "read 2^s for 256, 3·2^s for 768"

-- (0,0), (1,1), (2,4), which have 0, 384, 1024 in 1/256
pub in_whole_slopes : built_slopes (unit 0) (pos 0 ∷ pos 1 ∷ pos 2 ∷ []) (pos 0 ∷ pos 1 ∷ pos 4 ∷ []) ≡ pos 0 ∷ pos 1 ∷ pos 4 ∷ []
in_whole_slopes = refl

pub in_halves : built_slopes (unit 1) (pos 0 ∷ pos 1 ∷ pos 2 ∷ []) (pos 0 ∷ pos 1 ∷ pos 4 ∷ []) ≡ pos 0 ∷ pos 3 ∷ pos 8 ∷ []
in_halves = refl

pub in_16ths : built_slopes (unit 4) (pos 0 ∷ pos 1 ∷ pos 2 ∷ []) (pos 0 ∷ pos 1 ∷ pos 4 ∷ []) ≡ pos 0 ∷ pos 24 ∷ pos 64 ∷ []
in_16ths = refl

pub in_128ths : built_slopes (unit 7) (pos 0 ∷ pos 1 ∷ pos 2 ∷ []) (pos 0 ∷ pos 1 ∷ pos 4 ∷ []) ≡ pos 0 ∷ pos 192 ∷ pos 512 ∷ []
in_128ths = refl

-- (0,0), (3,−10), which have −853 twice: each toward zero
pub a_fall_in_whole_slopes : built_slopes (unit 0) (pos 0 ∷ pos 3 ∷ []) (pos 0 ∷ negsuc 9 ∷ []) ≡ negsuc 2 ∷ negsuc 2 ∷ []
a_fall_in_whole_slopes = refl

pub a_fall_in_8ths : built_slopes (unit 3) (pos 0 ∷ pos 3 ∷ []) (pos 0 ∷ negsuc 9 ∷ []) ≡ negsuc 25 ∷ negsuc 25 ∷ []
a_fall_in_8ths = refl

pub a_fall_in_128ths : built_slopes (unit 7) (pos 0 ∷ pos 3 ∷ []) (pos 0 ∷ negsuc 9 ∷ []) ≡ negsuc 425 ∷ negsuc 425 ∷ []
a_fall_in_128ths = refl

-- (0,0), (1,1), (3,2), which have 298, 177, 42; and (0,0), (1,1), (2,−3), whose first slope is held to its bound
pub softer_ends_in_16ths : built_slopes (unit 4) (pos 0 ∷ pos 1 ∷ pos 3 ∷ []) (pos 0 ∷ pos 1 ∷ pos 2 ∷ []) ≡ pos 18 ∷ pos 11 ∷ pos 2 ∷ []
softer_ends_in_16ths = refl

pub softer_ends_in_whole_slopes : built_slopes (unit 0) (pos 0 ∷ pos 1 ∷ pos 3 ∷ []) (pos 0 ∷ pos 1 ∷ pos 2 ∷ []) ≡ pos 1 ∷ pos 0 ∷ pos 0 ∷ []
softer_ends_in_whole_slopes = refl

pub the_bound_in_whole_slopes : built_slopes (unit 0) (pos 0 ∷ pos 1 ∷ pos 2 ∷ []) (pos 0 ∷ pos 1 ∷ negsuc 2 ∷ []) ≡ pos 3 ∷ pos 0 ∷ negsuc 5 ∷ []
the_bound_in_whole_slopes = refl

-- ---- two counts at opposite ends of 32 bits

-- "Knots 2147483647, −2147483648: refused by 3 at place 0", whatever the unit, the two values and the slopes
pub ends_of_32_bits_are_refused : {s : ℕ} → UnitWithin s → (v w m n : ℤ) → Given (Holds (table s (pos 2147483647 ∷ negsuc 2147483647 ∷ []) (v ∷ w ∷ []) (m ∷ n ∷ []))) build_order 3 0
ends_of_32_bits_are_refused u v w m n =
    passed (unit_passes u)
    (passed (same_length_passes (record { values = refl; slopes = refl }))
    (passed (count_passes (record { low = omega arith; high = omega arith }))
    (refused (width_outside {i = 0} (omega arith) (λ w. w.low.le)) (λ _ l _. absurd (omega (arith, l))))))
