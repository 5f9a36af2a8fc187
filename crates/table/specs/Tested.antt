-- Points in figures are within the limits by a test that computes.
use Rattle.std.specs.Prelude.{◌≡◌, Bool, true, ◌&&◌, List, [], ◌∷◌, ℕ, zero, suc, ◌+◌, ◌<◌, T, ℤ, pos, negsuc, ◌-ℤ◌, length}
use Rattle.std.proofs.Common.{subst, arith}
use Rattle.std.specs.Int.Signed.{le_z, le_z_yes}
use Rattle.std.proofs.Math.Facts.{and_yes}
use Rattle.integers.specs.Promise.{Between}
use Rattle.rules.specs.Limits.{CountWithin}
use Rattle.table.specs.Table.{entry, step}
use Rattle.table.specs.Accepted.{PointsWithin}

-- the steps of a list lie between two numbers
module _ (l h : ℤ) where
  abbrev steps_within : List ℤ → Bool
  steps_within [] = true
  steps_within (x ∷ []) = true
  steps_within (x ∷ y ∷ more) = (le_z l (y -ℤ x) && le_z (y -ℤ x) h) && steps_within (y ∷ more)

  each_step : (list : List ℤ) → T (steps_within list) → (i : ℕ) → i + 1 < length list → Between l (step list i) h
  each_step [] t i m = absurd (omega (arith, m))
  each_step (x ∷ []) t i m = absurd (omega (arith, m))
  each_step (x ∷ y ∷ more) t zero m =
      let b = and_yes (le_z l (y -ℤ x)) (le_z (y -ℤ x) h) (and_yes (le_z l (y -ℤ x) && le_z (y -ℤ x) h) (steps_within (y ∷ more)) t).0 in
      record { low = le_z_yes b.0; high = le_z_yes b.1 }
  each_step (x ∷ y ∷ more) t (suc i) m =
      subst (λ (j : ℕ). Between l (entry (x ∷ y ∷ more) j -ℤ entry (y ∷ more) i) h) {x = suc (i + 1)} {y = suc i + 1} (omega arith)
      (each_step (y ∷ more) (and_yes (le_z l (y -ℤ x) && le_z (y -ℤ x) h) (steps_within (y ∷ more)) t).1 i (omega (arith, m)))

pub points_by_test : (ks vs : List ℤ) → length vs ≡ length ks → CountWithin (length ks) → T (steps_within (pos 1) (pos 1024) ks && steps_within (negsuc 1048575) (pos 1048576) vs) → PointsWithin ks vs
points_by_test ks vs e count t =
    let b = and_yes (steps_within (pos 1) (pos 1024) ks) (steps_within (negsuc 1048575) (pos 1048576) vs) t in
    record { lengths = e; count = count; widths = each_step _ _ ks b.0; rises = λ i m. each_step _ _ vs b.1 i (omega (arith, e, m)) }
