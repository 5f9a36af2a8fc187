-- The value in a piece that an accepted table has.
use Rattle.std.specs.Prelude.{◌≡◌, ℤ, pos, ◌+ℤ◌, ◌-ℤ◌}
use Rattle.std.proofs.Common.{sym, subst, SFits}
use Rattle.std.specs.Int.{Width}
use Rattle.integers.specs.Within.{Within}
use Rattle.integers.specs.Sizes.{between_fits}
use Rattle.cubic.specs.Value.{risen}
use Rattle.cubic.specs.Along.{Along, Amid, upwards, downwards, amid, part_within}
use Rattle.cubic.proofs.InOrder.{risen_from_left, risen_to_right}
use Rattle.rules.specs.Known.{0<_unit, 0<_width, rise_size}
use Rattle.position.specs.InPiece.{InPiece}

module _ {U h z m n t : ℤ} (o : InPiece U h z m n t) where
  from_left : Along z (pos 0) (risen U h z m n t)
  from_left = risen_from_left (0<_unit o.unit) (0<_width o.width) o.monotone t o.place.low o.place.high

  to_right : Along z (risen U h z m n t) z
  to_right = risen_to_right (0<_unit o.unit) (0<_width o.width) o.monotone t o.place.low o.place.high

  -- what it has risen by is a part of the piece's rise
  pub risen_within : Within 1048576 (risen U h z m n t)
  risen_within = part_within (rise_size o.rise) from_left to_right

  -- and nothing without one
  pub level_risen : z ≡ pos 0 → risen U h z m n t ≡ pos 0
  level_risen e = sym (from_left.level e)

  -- the value lies between the piece's two values
  pub value_amid : {left right : ℤ} → z ≡ right -ℤ left → Amid left (left +ℤ risen U h z m n t) right
  value_amid {left} {right} e = amid (subst (λ (v : ℤ). Along v (pos 0) (risen U h z m n t)) e from_left) (subst (λ (v : ℤ). Along v (risen U h z m n t) v) e to_right)

  -- so that it fits where they do
  pub value_fits : (w : Width) {left right : ℤ} → z ≡ right -ℤ left → SFits w left → SFits w right → SFits w (left +ℤ risen U h z m n t)
  value_fits w {left} {right} e l r = either (value_amid e)
    where
      either : Amid left (left +ℤ risen U h z m n t) right → SFits w (left +ℤ risen U h z m n t)
      either (upwards b) = between_fits w b l r
      either (downwards b) = between_fits w b r l
