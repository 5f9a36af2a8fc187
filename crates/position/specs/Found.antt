-- Every position has an answer, and one within the knots a piece: the promise of `locate` is not empty.
use Rattle.std.specs.Prelude.{◌≡◌, List, [], ◌∷◌, ℕ, zero, suc, ◌+◌, ◌-◌, ◌≤◌, ◌<◌, ℤ, ◌≤ℤ◌, ◌<ℤ◌, length}
use Rattle.std.proofs.Common.{subst, ⊎_elim, arith}
use Rattle.integers.specs.Order.{≤ℤ_or-<ℤ, ≤ℤ_antisym}
use Rattle.integers.specs.Decided.{alike_or_not, <ℤ_or_not, between_or_not}
use Rattle.rules.specs.Refusals.{Given}
use Rattle.rules.specs.Found.{Searched, first, nowhere, searched_below, SomeGiven, found_on, found_as, answered_beside}
use Rattle.table.specs.Table.{Table, entry}
use Rattle.table.specs.Found.{every_table_has_an_answer_to_a_check}
use Rattle.position.specs.Position.{Belongs, inside, at_last_knot, WithinKnots, HoldsAt, evaluation_order, Located}
use Rattle.position.specs.Refused.{as_checked, refused_outside, taken_inside, accepted_at, inside_at}

-- ---- the piece

pub record SomePiece (ks : List ℤ) (x : ℤ) : Type 0 where
  pub piece : ℕ
  pub belongs : Belongs ks x piece

module _ (ks : List ℤ) (x : ℤ) where
  -- a piece that ends behind the position
  record EndsBehind (i : ℕ) : Type 0 where
    pub here : i + 1 < length ks
    pub behind : x <ℤ entry ks (i + 1)

  ends_searched : Searched EndsBehind
  ends_searched =
      searched_below (length ks - 1) (λ (i : ℕ) (e : EndsBehind i). omega (arith, e.here))
      (λ i l. alike_or_not (λ b. record { here = omega (arith, l); behind = b }) (λ (e : EndsBehind i). e.behind) (<ℤ_or_not x (entry ks (i + 1))))

  -- the first of them is the position's, and without one it is the last piece, at whose end the position is
  pub every_position_within_the_knots_has_a_piece : 2 ≤ length ks → WithinKnots ks x → SomePiece ks x
  every_position_within_the_knots_has_a_piece two w = of ends_searched
    where
      not_yet : (j : ℕ) → j + 1 < length ks → (EndsBehind j → ⊥) → entry ks (j + 1) ≤ℤ x
      not_yet j l f = ⊎_elim (λ h. h) (λ b. absurd (f (record { here = l; behind = b }))) (≤ℤ_or-<ℤ (entry ks (j + 1)) x)

      starts : (i : ℕ) → i + 1 < length ks → ((j : ℕ) → j < i → EndsBehind j → ⊥) → entry ks i ≤ℤ x
      starts zero l none = w.low
      starts (suc j) l none = subst (λ (k : ℕ). entry ks k ≤ℤ x) {x = j + 1} {y = suc j} (omega arith) (not_yet j (omega arith) (none j (omega arith)))

      last : (i : ℕ) → i + 2 ≡ length ks → (EndsBehind i → ⊥) → Belongs ks x i
      last i e f =
          at_last_knot e (≤ℤ_antisym (subst (λ (k : ℕ). x ≤ℤ entry ks k) {x = length ks - 1} {y = i + 1} (omega (arith, e)) w.high) (not_yet i (omega (arith, e)) f))

      of : Searched EndsBehind → SomePiece ks x
      of (first i e none) = record { piece = i; belongs = inside e.here (starts i e.here none) e.behind }
      of (nowhere none) = let i = length ks - 2 in record { piece = i; belongs = last i (omega arith) (none i) }

-- ---- the answer

module _ (t : Table) (x : ℤ) where
  inside_given : SomeGiven (HoldsAt t x) (6 ∷ [])
  inside_given =
      ⊎_elim (λ b. record { number = 0; place = 0; given = taken_inside b }) (λ f. record { number = 6; place = 0; given = refused_outside f }) (between_or_not _ x _)

  pub every_position_has_an_answer : SomeGiven (HoldsAt t x) evaluation_order
  every_position_has_an_answer = found_on (found_as (λ _ _. as_checked) (every_table_has_an_answer_to_a_check t)) (λ _. inside_given)

  pub piece_at : {n p : ℕ} → n ≡ 0 → Given (HoldsAt t x) evaluation_order n p → SomePiece t.knots x
  piece_at e g = every_position_within_the_knots_has_a_piece t.knots x (accepted_at e g).limits.count.low (inside_at e g)

pub record SomeLocation (t : Table) (x : ℤ) : Type 0 where
  pub number : ℕ
  pub place : ℕ
  pub piece : ℕ
  pub located : Located t x number place piece

pub every_position_is_located : (t : Table) (x : ℤ) → SomeLocation t x
every_position_is_located t x =
    let g = every_position_has_an_answer t x in
    let a = answered_beside {Right = Belongs t.knots x} {otherwise = 0} g.number (λ e. let i = piece_at t x e g.given in (i.piece, i.belongs)) in
    record { number = g.number; place = g.place; piece = a.answer; located = record { refusal = g.given; piece = a.right } }
