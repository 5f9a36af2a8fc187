-- Laws of `run_end`: where a run can end, and one for each way in which a search that walks a run goes on or stops.
use Rattle.std.specs.Prelude.{ℕ, ◌+◌, ◌≤◌, ◌<◌, ◌≡◌, refl, Bool, true, false, List, [], ◌∷◌, length, drop, get_or}
use Rattle.std.proofs.Common.{arith, add-one, length-drop, drop_of_length-le}
use Rattle.std.proofs.Math.Seq.{drop-cons}
use Rattle.words.specs.Words.{front, run_end}

-- a test has held or not
pub by_test : {X : Type 0} (t : Bool) → (t ≡ true → X) → (t ≡ false → X) → X
by_test true held failed = held refl
by_test false held failed = failed refl

-- the front of a list is no longer than the list
pub front_within : (test : ℕ → Bool) (xs : List ℕ) → front test xs ≤ length xs
unfolding front
front_within test [] = omega arith
front_within test (b ∷ bs) =
    by_test (test b)
    (λ (p : test b ≡ true). rw p (omega (arith, front_within test bs)))
    (λ (p : test b ≡ false). rw p (omega arith))

module _ (test : ℕ → Bool) (line : List ℕ) (i : ℕ) where
  -- a run that starts in the line ends in it
  pub run_within : i ≤ length line → run_end test line i ≤ length line
  run_within h = omega (arith, front_within test (drop i line), length-drop i line)

  -- past the end nothing is left to walk
  pub run_out : length line ≤ i → run_end test line i ≡ i
  unfolding front
  run_out h = rw (drop_of_length-le line h) (omega arith)

  -- a byte that does not pass ends the run
  pub run_stop : i < length line → test (get_or line i 0) ≡ false → run_end test line i ≡ i
  unfolding front
  run_stop h e = rw (drop-cons line i 0 h, e) (omega arith)

  -- a byte that passes leaves the run to end where it ends from the next position
  pub run_on : i < length line → test (get_or line i 0) ≡ true → run_end test line i ≡ run_end test line (i + 1)
  unfolding front
  run_on h e = rw (add-one, drop-cons line i 0 h, e) (omega arith)
