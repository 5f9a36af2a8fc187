-- A slope that is fair to a piece beside it. `proofs/Fair.antt` shows that slopes that are built are, and that a piece with fair slopes at both ends is monotone.
use Rattle.std.specs.Prelude.{◌≡◌, ℤ, pos, ◌*ℤ◌, ◌≤ℤ◌}
use Rattle.integers.specs.Promise.{magnitude, with_sign}

-- a slope with the sign of the rise and at most three times as steep as the piece
pub record Fair (U h z m : ℤ) : Type 0 where
  pub size : ℤ
  pub low : pos 0 ≤ℤ size
  pub high : (size *ℤ h) ≤ℤ (pos 3 *ℤ (U *ℤ magnitude z))
  pub signed : m ≡ with_sign z size
