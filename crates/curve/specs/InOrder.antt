-- "on a rising piece, of two positions in order the answers are in order, on a falling piece in reverse order": of the values of an accepted table, on each piece with both its end knots, and over a whole
-- table whose pieces all go one way.
use Rattle.std.specs.Prelude.{◌≡◌, [], ◌∷◌, ℕ, zero, suc, ◌+◌, ◌-◌, ◌<◌, ℤ, ◌-ℤ◌, ◌≤ℤ◌, ◌<ℤ◌, length}
use Rattle.std.proofs.Common.{sym, ◌∙◌, ap, subst, subst₂, ⊎_elim, eq-or-lt_of_le, arith}
use Rattle.std.specs.Int.Signed.{≤ℤ_refl}
use Rattle.integers.specs.Linear.{lin, says}
use Rattle.integers.specs.Order.{0≤_gap, ≤ℤ_or-<ℤ, ≤ℤ_antisym}
use Rattle.cubic.specs.Along.{Along, along_moved}
use Rattle.cubic.proofs.InOrder.{risen_in_order}
use Rattle.rules.specs.Known.{unit_size, 0<_unit, 0<_width}
use Rattle.table.specs.Table.{Table, entry, step}
use Rattle.table.specs.Accepted.{Accepted}
use Rattle.position.specs.Position.{Belongs, inside}
use Rattle.position.specs.Pieces.{within_list, starts, ends, knots_in_order, one_piece, pieces_in_order}
use Rattle.curve.specs.Curve.{value_on, ValueAt}
use Rattle.curve.specs.AtEachKnot.{at_left, at_right, value_at_knot}

module _ {t : Table} (a : Accepted t) where
  -- ---- one piece

  module _ (i : ℕ) (l : i + 1 < length t.knots) where
    -- the value on a piece from its left knot to its right one: the right one belongs to the next piece, which has the same value there
    pub value_on_lem : {x v : ℤ} → ValueAt t x v → entry t.knots i ≤ℤ x → x ≤ℤ entry t.knots (i + 1) → v ≡ value_on t i x
    value_on_lem {x} {v} at low high = at.is ∙ ⊎_elim at_the_end before_it (≤ℤ_or-<ℤ (entry t.knots (i + 1)) x)
      where
        before_it : x <ℤ entry t.knots (i + 1) → value_on t at.piece x ≡ value_on t i x
        before_it b = ap (λ (j : ℕ). value_on t j x) (one_piece a.limits at.belongs (inside l low b))

        at_the_end : entry t.knots (i + 1) ≤ℤ x → value_on t at.piece x ≡ value_on t i x
        at_the_end b =
            subst (λ (y : ℤ). Belongs t.knots y at.piece → value_on t at.piece y ≡ value_on t i y) (≤ℤ_antisym b high) (λ c. value_at_knot a (i + 1) at.piece l c ∙ sym (at_right a i l)) at.belongs

    -- at two places of it
    pub along_the_piece : (x y : ℤ) → entry t.knots i ≤ℤ x → x ≤ℤ y → y ≤ℤ entry t.knots (i + 1) → Along (step t.values i) (value_on t i x) (value_on t i y)
    along_the_piece x y low xy high =
        along_moved (entry t.values i)
        (risen_in_order (0<_unit (unit_size a.unit)) (0<_width (a.limits.widths i l)) (a.pieces i l) (x -ℤ entry t.knots i) (y -ℤ entry t.knots i) (0≤_gap low) (less x y (entry t.knots i) xy) (less y (entry t.knots (i + 1)) (entry t.knots i) high))
      where
        less : (x y k : ℤ) → x ≤ℤ y → (x -ℤ k) ≤ℤ (y -ℤ k)
        less x y k = lin (x ∷ y ∷ k ∷ []) (search says depth 30 fits 9000) (omega arith)

    -- so from its left value on, and up to its right one
    pub from_the_left : (x : ℤ) → entry t.knots i ≤ℤ x → x ≤ℤ entry t.knots (i + 1) → Along (step t.values i) (entry t.values i) (value_on t i x)
    from_the_left x low high = subst (λ (v : ℤ). Along (step t.values i) v (value_on t i x)) (at_left a i l) (along_the_piece (entry t.knots i) x (≤ℤ_refl (entry t.knots i)) low high)

    pub to_the_right : (x : ℤ) → entry t.knots i ≤ℤ x → x ≤ℤ entry t.knots (i + 1) → Along (step t.values i) (value_on t i x) (entry t.values (i + 1))
    to_the_right x low high = subst (Along (step t.values i) (value_on t i x)) (at_right a i l) (along_the_piece x (entry t.knots (i + 1)) low high (≤ℤ_refl (entry t.knots (i + 1))))

  -- ---- the whole table: values that are related in some way on each piece, from knot to knot, are so throughout

  module _ (R : ℤ → ℤ → Type 0) (same : (v : ℤ) → R v v) (joined : (u v w : ℤ) → R u v → R v w → R u w)
      (on-each : (i : ℕ) → i + 1 < length t.knots → (x y : ℤ) → entry t.knots i ≤ℤ x → x ≤ℤ y → y ≤ℤ entry t.knots (i + 1) → R (value_on t i x) (value_on t i y)) where
    at_knots : (i c : ℕ) → i + c < length t.knots → R (entry t.values i) (entry t.values (i + c))
    at_knots i zero l = subst (λ (j : ℕ). R (entry t.values i) (entry t.values j)) {x = i} (omega arith) (same (entry t.values i))
    at_knots i (suc c) l = joined _ _ _ (at_knots i c (omega arith)) (subst (λ (j : ℕ). R (entry t.values (i + c)) (entry t.values j)) {x = i + c + 1} (omega arith) (over_one (i + c) (omega arith)))
      where
        over_one : (k : ℕ) → k + 1 < length t.knots → R (entry t.values k) (entry t.values (k + 1))
        over_one k h = subst₂ R (at_left a k h) (at_right a k h) (on-each k h (entry t.knots k) (entry t.knots (k + 1)) (≤ℤ_refl _) (knots_in_order a.limits k (k + 1) (omega arith) h) (≤ℤ_refl _))

    pub throughout : {x y v w : ℤ} → ValueAt t x v → ValueAt t y w → x ≤ℤ y → R v w
    throughout {x} {y} {v} {w} p q h = subst₂ R (sym p.is) (sym q.is) (⊎_elim one_piece_alone further (eq-or-lt_of_le (pieces_in_order a.limits h p.belongs q.belongs)))
      where
        one_piece_alone : p.piece ≡ q.piece → R (value_on t p.piece x) (value_on t q.piece y)
        one_piece_alone e =
            subst (λ (j : ℕ). R (value_on t p.piece x) (value_on t j y)) e
            (on-each p.piece (within_list p.belongs) x y (starts a.limits p.belongs) h (subst (λ (j : ℕ). y ≤ℤ entry t.knots (j + 1)) (sym e) (ends q.belongs)))

        further : p.piece < q.piece → R (value_on t p.piece x) (value_on t q.piece y)
        further l =
            joined _ _ _ (subst (R (value_on t p.piece x)) (at_right a p.piece (within_list p.belongs)) (on-each p.piece (within_list p.belongs) x (entry t.knots (p.piece + 1)) (starts a.limits p.belongs) (ends p.belongs) (≤ℤ_refl _)))
            (joined _ _ _ (subst (λ (j : ℕ). R (entry t.values (p.piece + 1)) (entry t.values j)) {x = p.piece + 1 + (q.piece - (p.piece + 1))} (omega arith) (at_knots (p.piece + 1) (q.piece - (p.piece + 1)) (omega (arith, within_list q.belongs))))
            (subst (λ (u : ℤ). R u (value_on t q.piece y)) (at_left a q.piece (within_list q.belongs)) (on-each q.piece (within_list q.belongs) (entry t.knots q.piece) y (≤ℤ_refl _) (starts a.limits q.belongs) (ends q.belongs))))
