-- Which piece a position belongs to, and when a position is refused. Whoever believes a promise about positions believes this file.
use Rattle.std.specs.Prelude.{◌≡◌, List, [], ◌∷◌, ℕ, ◌+◌, ◌-◌, ◌<◌, ℤ, ◌≤ℤ◌, ◌<ℤ◌, length}
use Rattle.integers.specs.Promise.{Between}
use Rattle.rules.specs.Refusals.{Given, Answered}
use Rattle.table.specs.Table.{Table, entry, Holds}

-- "A position at an inner knot belongs to the piece that starts there; the last knot belongs to the last piece." One between two knots belongs to the
-- piece between them. Where neither 2 nor 3 holds, each position from the first knot to the last has one piece; elsewhere nothing rests on this.
pub data Belongs (ks : List ℤ) (x : ℤ) : ℕ → Type 0 where
  inside : {i : ℕ} → i + 1 < length ks → entry ks i ≤ℤ x → x <ℤ entry ks (i + 1) → Belongs ks x i
  at_last_knot : {i : ℕ} → i + 2 ≡ length ks → x ≡ entry ks (i + 1) → Belongs ks x i

-- from the first knot to the last; by then 2 has been asked, so that there are both
abbrev pub WithinKnots : (ks : List ℤ) (x : ℤ) → Type 0
WithinKnots ks x = Between (entry ks 0) x (entry ks (length ks - 1))

-- "6 | position before the first or after the last knot | 0", beside the causes that a table has by itself
pub data HoldsAt (t : Table) (x : ℤ) : ℕ → ℕ → Type 0 where
  of_table : {c p : ℕ} → Holds t c p → HoldsAt t x c p
  position_outside : (WithinKnots t.knots x → ⊥) → HoldsAt t x 6 0

-- "evaluation: 1, 2, 3, 4, 5, 6", and 12 "asked first"
abbrev pub evaluation_order : List ℕ
evaluation_order = 12 ∷ 1 ∷ 2 ∷ 3 ∷ 4 ∷ 5 ∷ 6 ∷ []

-- What `locate` answers: the first cause of a refusal in this order, its place, and piece 0, which then says nothing; or 0 at place 0, and the position's
-- piece.
pub record Located (t : Table) (x : ℤ) (number place i : ℕ) : Type 0 where
  pub refusal : Given (HoldsAt t x) evaluation_order number place
  pub piece : Answered (Belongs t.knots x) 0 number i
