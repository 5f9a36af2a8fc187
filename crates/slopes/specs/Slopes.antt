-- "Slopes that are built" of the exact rules, for a whole table. Whoever believes the promise of `build` believes this file, the rules for one point
-- that it cites, and the refusals.
use Rattle.std.specs.Prelude.{◌≡◌, cond, List, [], ◌∷◌, ℕ, zero, suc, ◌+◌, ◌-◌, eqb, ltb, ℤ, length}
use Rattle.cubic.specs.Slopes.{end_slope, secant_slope, inner_slope}
use Rattle.rules.specs.Limits.{unit}
use Rattle.rules.specs.Refusals.{Given, afterwards}
use Rattle.table.specs.Table.{Table, step, Holds, build_order}

-- in 1/U of a value per count
module _ (U : ℤ) (ks vs : List ℤ) where
  -- the end rule for piece i, whose neighbour is piece j, and the rule for the point between piece i and piece j
  abbrev pub end_at : (i j : ℕ) → ℤ
  end_at i j = end_slope U (step ks i) (step vs i) (step ks j) (step vs j)

  abbrev pub inner_at : (i j : ℕ) → ℤ
  inner_at i j = inner_slope U (step ks i) (step vs i) (step ks j) (step vs j)

  -- "With three or more points use PCHIM's end rule: for the end piece h1, z1 and its neighbour h2, z2 [..]. Two points keep the secant." "An inner point has pieces h1, z1 on its
  -- left and h2, z2 on its right."
  -- Point 0 takes the end rule of piece 0, beside piece 1, a point with another after it the rule between pieces i − 1 and i, and the last point the end rule of piece i − 1, beside
  -- piece i − 2. Nothing rests on what it says of a point that isn't there.
  abbrev pub built_slope : ℕ → ℤ
  built_slope i =
      cond (ltb 2 (length ks)) (cond (eqb i 0) (end_at 0 1) (cond (ltb (i + 1) (length ks)) (inner_at (i - 1) i) (end_at (i - 1) (i - 2))))
      (secant_slope U (step ks 0) (step vs 0))

-- the list of the n entries f 0, f 1, .. f (n − 1)
abbrev pub tab : ℕ → (ℕ → ℤ) → List ℤ
tab zero f = []
tab (suc n) f = f 0 ∷ tab n (λ i. f (suc i))

-- the slope at every point
abbrev pub built_slopes : (U : ℤ) (ks vs : List ℤ) → List ℤ
built_slopes U ks vs = tab (length ks) (built_slope U ks vs)

-- What `build` answers, and the slopes that it leaves, of a table as it is at the call: the first cause of a refusal in the order 12, 1, 2, 3, 4 and the slopes as they were, or none and
-- those built in the table's unit.
pub record Built (t : Table) (after : List ℤ) (number place : ℕ) : Type 0 where
  pub refusal : Given (Holds t) build_order number place
  pub slopes : after ≡ afterwards number t.slopes (built_slopes (unit t.s) t.knots t.values)
