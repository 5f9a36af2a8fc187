-- "The value at a position" of the exact rules, for one piece, as it is written there and rounded as request 6 has it. Whoever believes a promise about values believes this file.
use Rattle.std.specs.Prelude.{ℤ, ◌*ℤ◌}
use Rattle.integers.specs.Promise.{nearest_of}
use Rattle.cubic.specs.Piece.{rise_at}

-- "rounded to the nearest whole number, a half going up, for rising and falling alike"
abbrev pub rounded : (n d : ℤ) → ℤ
rounded n d = nearest_of n d

-- "(a·t·h² + (3Z − 2a − b)·t²·h + (a + b − 2Z)·t³) / (256·h³)": what stands above the line, t counts into a piece of width h, rise z and slopes m, n, and
-- what stands below it. Here Z = U·z, a = m·h and b = n·h, with U the slope unit, which stands for 256.
abbrev pub numerator : (U h z m n t : ℤ) → ℤ
numerator U h z m n t = rise_at (U *ℤ z) (m *ℤ h) (n *ℤ h) t h

abbrev pub denominator : (U h : ℤ) → ℤ
denominator U h = U *ℤ (h *ℤ h *ℤ h)

-- what "the left value plus" adds: the quotient, rounded. As the left value is a whole number, the sum is "the exact value rounded" (`the_whole_rounded` in Rounded.antt).
abbrev pub risen : (U h z m n t : ℤ) → ℤ
risen U h z m n t = rounded (numerator U h z m n t) (denominator U h)
