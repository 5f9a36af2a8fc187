-- The exact rules' definitions for a table, and when each cause of a refusal holds of it. Whoever believes a promise about tables believes this file.
use Rattle.std.specs.Prelude.{◌≡◌, List, [], ◌∷◌, ℕ, ◌+◌, ◌<◌, ℤ, pos, ◌-ℤ◌, length, get_or}
use Rattle.cubic.specs.Piece.{Monotone}
use Rattle.rules.specs.Limits.{unit, UnitWithin, CountWithin, WidthWithin, RiseWithin}

-- "A table is three lent lists [..]: knots [..], values [..] and slopes. Entry i of each belongs to point i." And "A table now carries a number s [..] and slopes are in units of 1/2^s."
pub record Table : Type 0 where
  pub s : ℕ
  pub knots : List ℤ
  pub values : List ℤ
  pub slopes : List ℤ

abbrev pub table : (s : ℕ) (knots values slopes : List ℤ) → Table
table s ks vs ss = record { s = s; knots = ks; values = vs; slopes = ss }

-- Entry i of a list. Where there is none it is 0, which no answer rests on: that the lists are equally long (1) and have two points or more (2) is asked
-- first, and then only pieces, points and slopes that are there are looked at.
abbrev pub entry : List ℤ → ℕ → ℤ
entry list i = get_or list i (pos 0)

-- "Piece i runs from point i to point i+1": its "width h = right knot − left knot" is a step of the knots, its "rise z = right value − left value"
-- one of the values.
abbrev pub step : List ℤ → ℕ → ℤ
step list i = entry list (i + 1) -ℤ entry list i

-- as many values and as many slopes as knots
pub record SameLengths (ks vs ss : List ℤ) : Type 0 where
  pub values : length vs ≡ length ks
  pub slopes : length ss ≡ length ks

module _ (t : Table) where
  -- How many points there are, where the lists are equally long; else the number of knots. The causes behind 1 look at that as well, but no answer rests on it: 1 holds
  -- then, and stands before them in every order.
  abbrev pub point_count : ℕ
  point_count = length t.knots

  -- piece i is monotone with the slopes at its two ends
  abbrev pub MonotoneAt : ℕ → Type 0
  MonotoneAt i = Monotone (unit t.s) (step t.knots i) (step t.values i) (entry t.slopes i) (entry t.slopes (i + 1))

  -- Causes 1 to 5 of "Refusal numbers", and "A larger s is refusal 12, place 0": the one with this number holds at this place. 3, 4 and 5 hold at each faulty piece; `Given` takes the first.
  -- `i + 1 < point_count` says that there is a piece i, and `X → ⊥` that X is not so.
  pub data Holds : ℕ → ℕ → Type 0 where
    no_such_unit : (UnitWithin t.s → ⊥) → Holds 12 0
    lengths_differ : (SameLengths t.knots t.values t.slopes → ⊥) → Holds 1 0
    too_few_or_many : (CountWithin point_count → ⊥) → Holds 2 0
    width_outside : {i : ℕ} → i + 1 < point_count → (WidthWithin (step t.knots i) → ⊥) → Holds 3 i
    rise_outside : {i : ℕ} → i + 1 < point_count → (RiseWithin (step t.values i) → ⊥) → Holds 4 i
    not_monotone : {i : ℕ} → i + 1 < point_count → (MonotoneAt i → ⊥) → Holds 5 i

-- "build: 1, 2, 3, 4"; "table check: 1, 2, 3, 4, 5"; and 12 "asked first". Every order begins with what is asked of no piece.
abbrev pub outline_order : List ℕ
outline_order = 12 ∷ 1 ∷ 2 ∷ []

abbrev pub build_order : List ℕ
build_order = 12 ∷ 1 ∷ 2 ∷ 3 ∷ 4 ∷ []

abbrev pub check_order : List ℕ
check_order = 12 ∷ 1 ∷ 2 ∷ 3 ∷ 4 ∷ 5 ∷ []
