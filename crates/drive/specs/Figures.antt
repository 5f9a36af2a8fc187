-- "Figures to hold against it" of the exact rules, as far as they speak of float answers, the edge of the limit at other widths, and floats bit by bit: the
-- definitions that `float_answer` promises give them.
use Rattle.std.specs.Prelude.{◌≡◌, refl, true, false, ℤ, pos, negsuc, Float}
use Rattle.std.proofs.Common.{true≢false, arith}
use Rattle.std.specs.Int.Signed.{le_z_yes, lt_z_yes}
use Rattle.std.specs.Float.{fin, binary64}
use Rattle.std.specs.Float.Ieee.{fits}
use Rattle.integers.specs.Parts.{to_parts}
use Rattle.floats.specs.Promise.{Exactly}
use Rattle.floats.proofs.Exactly.{plus_zero}
use Rattle.rules.specs.Limits.{TooLarge}
use Rattle.position.specs.Position.{inside, at_last_knot}
use Rattle.curve.specs.Figures.{falling}
use Rattle.drive.specs.Drive.{move, ToldAt, moves}

-- the last rise that has an answer at a width, and the first that has none, upwards and downwards
pub record Edge (h last first : ℤ) : Type 0 where
  pub answered : TooLarge h last → ⊥
  pub refused : TooLarge h first

-- "h = 1,024 with z = 1,024 has a float answer; z = 1,025 has none"
pub record Edges : Type 0 where
  pub at_1024 : Edge (pos 1024) (pos 1024) (pos 1025)
  pub at_1024_falling : Edge (pos 1024) (negsuc 1023) (negsuc 1024)
  pub at_128 : Edge (pos 128) (pos 524288) (pos 524289)
  pub at_128_falling : Edge (pos 128) (negsuc 524287) (negsuc 524288)
  pub at_102 : Edge (pos 102) (pos 1036094) (pos 1036095)
  pub at_102_falling : Edge (pos 102) (negsuc 1036093) (negsuc 1036094)

pub edges : Edges
edges =
    record {
      at_1024 = record { answered = λ l. l.above.lt; refused = record { above = lt_z_yes tt } };
      at_1024_falling = record { answered = λ l. l.above.lt; refused = record { above = lt_z_yes tt } };
      at_128 = record { answered = λ l. l.above.lt; refused = record { above = lt_z_yes tt } };
      at_128_falling = record { answered = λ l. l.above.lt; refused = record { above = lt_z_yes tt } };
      at_102 = record { answered = λ l. l.above.lt; refused = record { above = lt_z_yes tt } };
      at_102_falling = record { answered = λ l. l.above.lt; refused = record { above = lt_z_yes tt } };
    }

-- points (0,0), (3,−10) with slopes −853, −853, of which the values are given: at position 0 the numerator is +0, at 1 it is −23038, and the denominator is
-- 27·2^8 throughout
abbrev zero : Float
zero = fin false 0 (pos 0)

pub record OnTheFall : Type 0 where
  pub at_0 : ToldAt falling (pos 0) (move zero zero (fin false 27 (pos 8)))
  pub at_1 : ToldAt falling (pos 1) (move zero (fin true 11519 (pos 1)) (fin false 27 (pos 8)))
  pub at_3 : ToldAt falling (pos 3) (move zero (fin true 135 (pos 9)) (fin false 27 (pos 8)))

falls : negsuc 9 ≡ pos 0 → ⊥
falls e = omega (arith, to_parts e)

-- the last bit of each is seen by computing it
pub on_the_fall : OnTheFall
unfolding fits
on_the_fall =
    let below : Exactly binary64 (pos 6912) (fin false 27 (pos 8)) = record { held = tt; value = (refl, refl) } in
    let at_1 : Exactly binary64 (negsuc 23037) (fin true 11519 (pos 1)) = record { held = tt; value = (refl, refl) } in
    let at_3 : Exactly binary64 (negsuc 69119) (fin true 135 (pos 9)) = record { held = tt; value = (refl, refl) } in
    record {
      at_0 = record { piece = 0; belongs = inside {i = 0} (omega arith) (le_z_yes tt) (lt_z_yes tt); is = moves falls (plus_zero binary64) (plus_zero binary64) below };
      at_1 = record { piece = 0; belongs = inside {i = 0} (omega arith) (le_z_yes tt) (lt_z_yes tt); is = moves falls (plus_zero binary64) at_1 below };
      at_3 = record { piece = 0; belongs = at_last_knot {i = 0} refl refl; is = moves falls (plus_zero binary64) at_3 below };
    }

-- "never −0"
pub minus_zero_is_no_zero : Exactly binary64 (pos 0) (fin true 0 (pos 0)) → ⊥
minus_zero_is_no_zero e = true≢false e.value.0
