-- "It lies between the piece's two values."
use Rattle.std.specs.Prelude.{refl, ℕ, ◌+◌, ◌<◌, ℤ, ◌≤ℤ◌, length}
use Rattle.std.proofs.Common.{sym, subst}
use Rattle.rules.specs.Order.{answer_right}
use Rattle.cubic.specs.Along.{Amid, amid_on_the_way}
use Rattle.table.specs.Table.{Table, entry}
use Rattle.position.specs.Position.{Belongs}
use Rattle.position.specs.Pieces.{one_piece}
use Rattle.position.specs.Refused.{accepted_at}
use Rattle.position.specs.Spot.{inside_accepted}
use Rattle.curve.specs.Curve.{Evaluated}
use Rattle.curve.specs.OnPiece.{value_amid}
use Rattle.curve.specs.InOrder.{value_on_lem, from_the_left, to_the_right}

pub the_answer_lies_between_the_pieces_two_values : {t : Table} {x v : ℤ} {place i : ℕ} → Evaluated t x 0 place v → Belongs t.knots x i → Amid (entry t.values i) v (entry t.values (i + 1))
the_answer_lies_between_the_pieces_two_values {t} {x} {v} {i = i} e b =
    let accepted = accepted_at refl e.refusal in
    let at = answer_right refl e.value in
    subst (λ (j : ℕ). Amid (entry t.values j) v (entry t.values (j + 1))) (one_piece accepted.limits at.belongs b)
    (subst (λ (w : ℤ). Amid (entry t.values at.piece) w (entry t.values (at.piece + 1))) (sym at.is) (value_amid (inside_accepted accepted at.belongs) refl))

-- so where a piece has both its end knots
pub the_answer_lies_between_the_two_values_at_both_knots : {t : Table} {x v : ℤ} {place : ℕ} (i : ℕ) → Evaluated t x 0 place v → i + 1 < length t.knots → entry t.knots i ≤ℤ x → x ≤ℤ entry t.knots (i + 1)
    → Amid (entry t.values i) v (entry t.values (i + 1))
the_answer_lies_between_the_two_values_at_both_knots {t} {x} i e l low high =
    let a = accepted_at refl e.refusal in
    subst (λ (v : ℤ). Amid (entry t.values i) v (entry t.values (i + 1))) (sym (value_on_lem a i l (answer_right refl e.value) low high))
    (amid_on_the_way (from_the_left a i l x low high) (to_the_right a i l x low high))
