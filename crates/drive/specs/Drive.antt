-- "The drive's float answer" of the exact rules, for a whole table. Whoever believes the promise of `float_answer` believes this file and what it cites: the
-- limits, the cubic, a table and its causes, which piece a position belongs to, the refusals, and what it is for a float to be a whole number.
use Rattle.std.specs.Prelude.{◌≡◌, List, [], ◌∷◌, false, ℕ, ◌+◌, ℤ, pos, ◌-ℤ◌, Float, Result, Ok, Err}
use Rattle.std.specs.Float.{fin, binary64}
use Rattle.floats.specs.Promise.{Exactly}
use Rattle.cubic.specs.Value.{numerator, denominator}
use Rattle.rules.specs.declared.Refused.{Refused}
use Rattle.rules.specs.Limits.{unit, TooLarge}
use Rattle.rules.specs.Refusals.{Given, Answered}
use Rattle.table.specs.Table.{Table, entry, step}
use Rattle.position.specs.Position.{Belongs, HoldsAt}
use Rattle.drive.specs.declared.Answer.{Answer}
use Rattle.drive.specs.declared.Answer.TheVariants.{Dwell, Move}

-- What the drive is told: "a dwell that carries its level", or "a move: one record of three 64-bit floats".
pub data Telling : Type 0 where
  dwell : (level : Float) → Telling
  move : (left numerator denominator : Float) → Telling

-- What each case of the enum says in the exact rules' words, and its values.
abbrev pub told_of : Answer → Telling
told_of (Dwell level) = dwell level
told_of (Move m) = move m.left m.numerator m.denominator

-- "A refused float answer is a dwell at level 0", which is +0: not negative, and 0·2^0. It is 0 exactly (`plus_zero` of
-- `Exactly.antt` in `floats`), and no other 64-bit float is (`one_float` there).
abbrev pub resting : Telling
resting = dwell (fin false 0 (pos 0))

-- what an answer tells, refused or not
abbrev pub telling : Result Answer Refused → Telling
telling (Ok a) = told_of a
telling (Err r) = resting

-- "A flat piece answers a dwell that carries its level as a 64-bit float. Any other answers a move: one record of three 64-bit floats, the left value, the
-- numerator above and 256·h³. All three are exact whole numbers, with the numerator worked out in floats." So at the place t of a piece of width h, rise z and
-- slopes m, n in 1/U, where U stands for 256: the numerator is that of the value there, and a flat piece, which is one without a rise that 5 has not refused, has its left value for its level.
-- That floats are used on the way is no part of the answer, which they leave exact.
pub data ToldIn (U left h z m n t : ℤ) : Telling → Type 0 where
  dwells : {x : Float} → z ≡ pos 0 → Exactly binary64 left x → ToldIn U left h z m n t (dwell x)
  moves : {x y w : Float} → (z ≡ pos 0 → ⊥) → Exactly binary64 left x → Exactly binary64 (numerator U h z m n t) y → Exactly binary64 (denominator U h) w → ToldIn U left h z m n t (move x y w)

-- what is told at the position x, on the piece that it belongs to
abbrev pub ToldOn : Table → ℕ → ℤ → Telling → Type 0
ToldOn tab i x =
    ToldIn (unit tab.s) (entry tab.values i) (step tab.knots i) (step tab.values i) (entry tab.slopes i) (entry tab.slopes (i + 1)) (x -ℤ entry tab.knots i)

pub record ToldAt (tab : Table) (x : ℤ) (a : Telling) : Type 0 where
  pub piece : ℕ
  pub belongs : Belongs tab.knots x piece
  pub is : ToldOn tab piece x a

-- "8 | piece too large for the exact float answer | its piece", beside the causes that evaluation has
pub data HoldsFor (tab : Table) (x : ℤ) : ℕ → ℕ → Type 0 where
  of_position : {c p : ℕ} → HoldsAt tab x c p → HoldsFor tab x c p
  too_large : {i : ℕ} → Belongs tab.knots x i → TooLarge (step tab.knots i) (step tab.values i) → HoldsFor tab x 8 i

-- "float answer: 1, 2, 3, 4, 5, 6, 8", and 12 "asked first"
abbrev pub float_order : List ℕ
float_order = 12 ∷ 1 ∷ 2 ∷ 3 ∷ 4 ∷ 5 ∷ 6 ∷ 8 ∷ []

-- What `float_answer` answers: the first cause of a refusal in this order, its place, and a dwell at level 0, which then says nothing; or 0 at place 0, and
-- what the drive is told at the position.
pub record Driving (tab : Table) (x : ℤ) (number place : ℕ) (a : Telling) : Type 0 where
  pub refusal : Given (HoldsFor tab x) float_order number place
  pub answer : Answered (ToldAt tab x) resting number a
