-- "The drive does the division": what it is told, divided and rounded, is the value that evaluation answers.
use Rattle.std.specs.Prelude.{◌≡◌, ℕ, ℤ, ◌+ℤ◌, ◌*ℤ◌, Float}
use Rattle.std.proofs.Common.{sym, ◌∙◌, ap, subst}
use Rattle.std.proofs.Math.IntN.{+ℤ_idr}
use Rattle.std.specs.Float.{binary64}
use Rattle.floats.specs.Promise.{Exactly}
use Rattle.cubic.specs.Value.{rounded, risen}
use Rattle.cubic.proofs.Rounded.{the_whole_rounded, 0<_denominator}
use Rattle.rules.specs.Known.{0<_unit, 0<_width}
use Rattle.table.specs.Table.{Table}
use Rattle.table.specs.Accepted.{Accepted}
use Rattle.position.specs.Pieces.{one_piece}
use Rattle.position.specs.InPiece.{InPiece}
use Rattle.position.specs.Spot.{inside_accepted}
use Rattle.curve.specs.Curve.{ValueAt, value_on}
use Rattle.curve.specs.OnPiece.{level_risen}
use Rattle.drive.specs.Drive.{Telling, dwell, move, ToldIn, dwells, moves, ToldAt}

-- v is what a drive makes of it: the level, or the left value plus the quotient, which is (left·d + n)/d, rounded as a value is
pub data Makes (v : ℤ) : Telling → Type 0 where
  level_is : {level : Float} → Exactly binary64 v level → Makes v (dwell level)
  quotient_is : {from above below : Float} {left n d : ℤ} → Exactly binary64 left from → Exactly binary64 n above → Exactly binary64 d below → v ≡ rounded (left *ℤ d +ℤ n) d → Makes v (move from above below)

makes : {U left h z m n t : ℤ} {a : Telling} → InPiece U h z m n t → ToldIn U left h z m n t a → Makes (left +ℤ risen U h z m n t) a
makes {left} o (dwells {x = level} e x) = level_is (subst (λ (v : ℤ). Exactly binary64 v level) (sym (ap (λ (w : ℤ). left +ℤ w) (level_risen o e) ∙ +ℤ_idr left)) x)
makes {left} o (moves f x y w) = quotient_is x y w (sym (the_whole_rounded left _ (0<_denominator (0<_unit o.unit) (0<_width o.width))))

pub what_the_drive_makes_of_its_answer_is_the_value : {t : Table} {x v : ℤ} {a : Telling} → Accepted t → ToldAt t x a → ValueAt t x v → Makes v a
what_the_drive_makes_of_its_answer_is_the_value {t} {x} {v} {a} c f g =
    subst (λ (w : ℤ). Makes w a) (sym (g.is ∙ ap (λ (i : ℕ). value_on t i x) (one_piece c.limits g.belongs f.belongs))) (makes (inside_accepted c f.belongs) f.is)
