-- The promise of `locate` fixes the number, the place and the piece: no two results meet it.
use Rattle.std.specs.Prelude.{◌≡◌, ℕ, ℤ}
use Rattle.rules.specs.Order.{one_given, one_answered}
use Rattle.table.specs.Table.{Table}
use Rattle.position.specs.Position.{Located}
use Rattle.position.specs.Pieces.{one_piece}
use Rattle.position.specs.Refused.{accepted_at}

pub one_place : {t : Table} {x : ℤ} {m n p q i j : ℕ} → Located t x m p i → Located t x n q j → (m ≡ n) × (p ≡ q) × (i ≡ j)
one_place f g =
    let e = one_given f.refusal g.refusal in
    (e.0, e.1, one_answered e.0 (λ z. one_piece (accepted_at z g.refusal).limits) f.piece g.piece)
