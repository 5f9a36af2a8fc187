-- "Figures to hold against it" of the exact rules, as far as they speak of values and as request 6 amends them, and halves: the definitions that `evaluate` promises give them.
use Rattle.std.specs.Prelude.{◌≡◌, refl, [], ◌∷◌, pos, negsuc}
use Rattle.std.proofs.Common.{arith}
use Rattle.std.specs.Int.Signed.{le_z_yes, lt_z_yes}
use Rattle.cubic.specs.Value.{risen}
use Rattle.rules.specs.Limits.{unit}
use Rattle.table.specs.Table.{Table, table}
use Rattle.position.specs.Position.{inside, at_last_knot}
use Rattle.curve.specs.Curve.{ValueAt}

-- "points (0,0), (3,−10) have slopes −853, −853"
abbrev pub falling : Table
falling = table 8 (pos 0 ∷ pos 3 ∷ []) (pos 0 ∷ negsuc 9 ∷ []) (negsuc 852 ∷ negsuc 852 ∷ [])

-- the values at the other positions, by the sampling program's lines; −3 at position 1 stands in `Sixteen.antt` of `demands`
pub record Sampled : Type 0 where
  pub at_0 : ValueAt falling (pos 0) (pos 0)
  pub at_2 : ValueAt falling (pos 2) (negsuc 6)
  pub at_3 : ValueAt falling (pos 3) (negsuc 9)

pub sampled : Sampled
sampled =
    record {
      at_0 = record { piece = 0; belongs = inside {i = 0} (omega arith) (le_z_yes tt) (lt_z_yes tt); is = refl };
      at_2 = record { piece = 0; belongs = inside {i = 0} (omega arith) (le_z_yes tt) (lt_z_yes tt); is = refl };
      at_3 = record { piece = 0; belongs = at_last_knot {i = 0} refl refl; is = refl };
    }

-- "a half going up, for rising and falling alike": a rise of 1 or 3 in two counts, and a fall, at the count between
pub record Halves : Type 0 where
  pub rising_by_1 : risen (unit 8) (pos 2) (pos 1) (pos 128) (pos 128) (pos 1) ≡ pos 1
  pub falling_by_1 : risen (unit 8) (pos 2) (negsuc 0) (negsuc 127) (negsuc 127) (pos 1) ≡ pos 0
  pub rising_by_3 : risen (unit 8) (pos 2) (pos 3) (pos 384) (pos 384) (pos 1) ≡ pos 2
  pub falling_by_3 : risen (unit 8) (pos 2) (negsuc 2) (negsuc 383) (negsuc 383) (pos 1) ≡ negsuc 0

pub halves : Halves
halves = record { rising_by_1 = refl; falling_by_1 = refl; rising_by_3 = refl; falling_by_3 = refl }
