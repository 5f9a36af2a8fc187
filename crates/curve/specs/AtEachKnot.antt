-- "It [..] equals the value at each knot."
use Rattle.std.specs.Prelude.{◌≡◌, refl, [], ◌∷◌, ℕ, zero, suc, ◌+◌, ◌<◌, ℤ, pos, ◌+ℤ◌, ◌-ℤ◌, length}
use Rattle.std.proofs.Common.{◌∙◌, ap, subst, ⊎_elim, eq-or-lt_of_le, arith}
use Rattle.integers.specs.Linear.{lin, says}
use Rattle.integers.specs.Order.{across}
use Rattle.cubic.specs.Value.{risen}
use Rattle.cubic.proofs.InOrder.{risen_at_left, risen_at_right}
use Rattle.rules.specs.Limits.{unit}
use Rattle.rules.specs.Known.{unit_size, 0<_unit, 0<_width}
use Rattle.rules.specs.Order.{answer_right}
use Rattle.table.specs.Table.{Table, entry, step}
use Rattle.table.specs.Accepted.{Accepted}
use Rattle.position.specs.Position.{Belongs, at_last_knot}
use Rattle.position.specs.Pieces.{one_piece, knot_starts_its_piece}
use Rattle.position.specs.Refused.{accepted_at}
use Rattle.curve.specs.Curve.{value_on, Evaluated}

module _ {t : Table} (a : Accepted t) where
  -- at the left end of a piece, and at its right end
  pub at_left : (i : ℕ) → i + 1 < length t.knots → value_on t i (entry t.knots i) ≡ entry t.values i
  at_left i l =
      ap (λ (c : ℤ). entry t.values i +ℤ risen (unit t.s) (step t.knots i) (step t.values i) (entry t.slopes i) (entry t.slopes (i + 1)) c) (nothing (entry t.knots i))
      ∙ ap (λ (w : ℤ). entry t.values i +ℤ w) (risen_at_left (0<_unit (unit_size a.unit)) (0<_width (a.limits.widths i l)) (step t.values i) (entry t.slopes i) (entry t.slopes (i + 1)))
      ∙ none (entry t.values i)
    where
      nothing : (x : ℤ) → x -ℤ x ≡ pos 0
      nothing x = lin (x ∷ []) (search says depth 30 fits 9000) (omega arith)

      none : (x : ℤ) → x +ℤ pos 0 ≡ x
      none x = lin (x ∷ []) (search says depth 30 fits 9000) (omega arith)

  pub at_right : (i : ℕ) → i + 1 < length t.knots → value_on t i (entry t.knots (i + 1)) ≡ entry t.values (i + 1)
  at_right i l =
      ap (λ (w : ℤ). entry t.values i +ℤ w) (risen_at_right (0<_unit (unit_size a.unit)) (0<_width (a.limits.widths i l)) (step t.values i) (entry t.slopes i) (entry t.slopes (i + 1)))
      ∙ across (entry t.values i) (entry t.values (i + 1))

  -- a knot is the left end of the piece that starts there, and the last one the right end of the last
  pub value_at_knot : (k i : ℕ) → k < length t.knots → Belongs t.knots (entry t.knots k) i → value_on t i (entry t.knots k) ≡ entry t.values k
  value_at_knot k i l b = ⊎_elim (λ e. last k e b) inner (eq-or-lt_of_le l)
    where
      inner : suc k < length t.knots → value_on t i (entry t.knots k) ≡ entry t.values k
      inner h =
          subst (λ (j : ℕ). value_on t j (entry t.knots k) ≡ entry t.values k) (one_piece a.limits (knot_starts_its_piece a.limits k (omega arith)) b)
          (at_left k (omega arith))

      end : (j : ℕ) → j + 2 ≡ length t.knots → Belongs t.knots (entry t.knots (j + 1)) i → value_on t i (entry t.knots (j + 1)) ≡ entry t.values (j + 1)
      end j e c =
          subst (λ (m : ℕ). value_on t m (entry t.knots (j + 1)) ≡ entry t.values (j + 1)) (one_piece a.limits (at_last_knot e refl) c)
          (at_right j (omega (arith, e)))

      last : (k : ℕ) → suc k ≡ length t.knots → Belongs t.knots (entry t.knots k) i → value_on t i (entry t.knots k) ≡ entry t.values k
      last zero e c = absurd (omega (arith, e, a.limits.count.low))
      last (suc j) e c = subst (λ (m : ℕ). Belongs t.knots (entry t.knots m) i → value_on t i (entry t.knots m) ≡ entry t.values m) {x = j + 1} {y = suc j} (omega arith) (end j (omega (arith, e))) c

pub at_each_knot_the_answer_is_the_value_there : {t : Table} {v : ℤ} {place : ℕ} (k : ℕ) → k < length t.knots → Evaluated t (entry t.knots k) 0 place v → v ≡ entry t.values k
at_each_knot_the_answer_is_the_value_there k l e =
    let at = answer_right refl e.value in
    at.is ∙ value_at_knot (accepted_at refl e.refusal) k at.piece l at.belongs
