-- Every evaluation has an answer: the promise of `evaluate` is not empty.
use Rattle.std.specs.Prelude.{refl, ℕ, ℤ, pos}
use Rattle.rules.specs.Found.{answered_beside}
use Rattle.table.specs.Table.{Table}
use Rattle.position.specs.Found.{SomePiece, every_position_has_an_answer, piece_at}
use Rattle.curve.specs.Curve.{value_on, ValueAt, Evaluated}

pub record SomeEvaluation (t : Table) (x : ℤ) : Type 0 where
  pub number : ℕ
  pub place : ℕ
  pub value : ℤ
  pub evaluated : Evaluated t x number place value

-- the value on the piece that the position belongs to
value_on_lem : {t : Table} {x : ℤ} → SomePiece t.knots x → (v : ℤ) × ValueAt t x v
value_on_lem {t} {x} i = (value_on t i.piece x, record { piece = i.piece; belongs = i.belongs; is = refl })

pub every_evaluation_has_an_answer : (t : Table) (x : ℤ) → SomeEvaluation t x
every_evaluation_has_an_answer t x =
    let g = every_position_has_an_answer t x in
    let a = answered_beside {Right = ValueAt t x} {otherwise = pos 0} g.number (λ e. value_on_lem (piece_at t x e g.given)) in
    record { number = g.number; place = g.place; value = a.answer; evaluated = record { refusal = g.given; value = a.right } }
