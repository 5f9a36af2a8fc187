-- The promise of `evaluate` fixes the number, the place and the value: no two results meet it.
use Rattle.std.specs.Prelude.{◌≡◌, ℕ, ℤ}
use Rattle.std.proofs.Common.{sym, ◌∙◌, ap}
use Rattle.rules.specs.Order.{one_given, one_answered}
use Rattle.table.specs.Table.{Table}
use Rattle.table.specs.Accepted.{Accepted}
use Rattle.position.specs.Pieces.{one_piece}
use Rattle.position.specs.Refused.{accepted_at}
use Rattle.curve.specs.Curve.{value_on, ValueAt, Evaluated}

one_value : {t : Table} {x v w : ℤ} → Accepted t → ValueAt t x v → ValueAt t x w → v ≡ w
one_value {t} {x} a f g = f.is ∙ ap (λ (i : ℕ). value_on t i x) (one_piece a.limits f.belongs g.belongs) ∙ sym g.is

pub one_evaluation : {t : Table} {x v w : ℤ} {m n p q : ℕ} → Evaluated t x m p v → Evaluated t x n q w → (m ≡ n) × (p ≡ q) × (v ≡ w)
one_evaluation f g =
    let e = one_given f.refusal g.refusal in
    (e.0, e.1, one_answered e.0 (λ z. one_value (accepted_at z g.refusal)) f.value g.value)
