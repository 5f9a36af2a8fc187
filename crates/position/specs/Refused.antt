-- When a position is refused: the causes that a table has by itself are asked as in the table check.
use Rattle.std.specs.Prelude.{◌≡◌, refl, [], ◌∷◌, ℕ, ℤ}
use Rattle.std.proofs.Common.{sym, subst₂, arith}
use Rattle.integers.specs.Decided.{stable, between_or_not}
use Rattle.rules.specs.Refusals.{Given, done, refused, passed}
use Rattle.rules.specs.Order.{Same, one_more_cause, other_way, carried, stopped, went_on, passes_at_0, front, behind, clear}
use Rattle.table.specs.Table.{Table, Holds, check_order}
use Rattle.table.specs.Accepted.{Accepted, accepted_table}
use Rattle.position.specs.Position.{WithinKnots, HoldsAt, of_table, position_outside, evaluation_order}

module _ {t : Table} {x : ℤ} where
  table_alone : (c p : ℕ) → (c ≡ 6 → ⊥) → HoldsAt t x c p → Holds t c p
  table_alone c p f (of_table h) = h
  table_alone c p f (position_outside g) = absurd (f refl)

  same_causes : Same (Holds t) (HoldsAt t x) check_order
  same_causes = one_more_cause 6 check_order (λ _ _. of_table) table_alone tt

  pub as_checked : {n p : ℕ} → Given (Holds t) check_order n p → Given (HoldsAt t x) check_order n p
  as_checked = carried same_causes

  pub refused_outside : (WithinKnots t.knots x → ⊥) → Given (HoldsAt t x) (6 ∷ []) 6 0
  refused_outside f = refused (position_outside f) (λ _ l _. absurd (omega (arith, l)))

  pub taken_inside : WithinKnots t.knots x → Given (HoldsAt t x) (6 ∷ []) 0 0
  taken_inside b = passed (λ p h. no p h) done
    where
      no : (p : ℕ) → HoldsAt t x 6 p → ⊥
      no p (of_table h) = elim h [ ]
      no p (position_outside f) = f b

  -- what the table check and the position make of an evaluation's refusal
  module _ {n p : ℕ} (g : Given (Holds t) check_order n p) where
    pub table_refused : (n ≡ 0 → ⊥) → Given (HoldsAt t x) evaluation_order n p
    table_refused f = stopped (6 ∷ []) f (as_checked g)

    pub position_refused : n ≡ 0 → (WithinKnots t.knots x → ⊥) → Given (HoldsAt t x) evaluation_order 6 0
    position_refused e f = went_on e (as_checked g) (refused_outside f)

    pub none_refused : n ≡ 0 → WithinKnots t.knots x → Given (HoldsAt t x) evaluation_order n p
    none_refused e w =
        subst₂ (Given (HoldsAt t x) evaluation_order) (sym e) (sym (passes_at_0 e g)) (went_on e (as_checked g) (taken_inside w))

  -- what is known where nothing is refused
  module _ {n p : ℕ} (e : n ≡ 0) (g : Given (HoldsAt t x) evaluation_order n p) where
    pub checked_at : Given (Holds t) check_order 0 0
    checked_at = carried (other_way same_causes) (front check_order (6 ∷ []) e g)

    pub accepted_at : Accepted t
    accepted_at = accepted_table refl checked_at

    pub inside_at : WithinKnots t.knots x
    inside_at = stable (between_or_not _ _ _) (λ f. clear e (behind check_order e g) 0 (position_outside f))
