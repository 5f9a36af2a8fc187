-- The coefficients of a piece's cubic, "a·t·h² + (3Z − 2a − b)·t²·h + (a + b − 2Z)·t³". Here Z = U·z, a = m·h and b = n·h, with U the slope unit.
use Rattle.std.specs.Prelude.{◌≡◌, refl, ℤ, pos, ◌+ℤ◌, ◌-ℤ◌, ◌*ℤ◌}
use Rattle.std.proofs.Common.{◌∙◌, SFits, to_z, of_z, to_z-of_z}
use Rattle.std.specs.Int.{w32}
use Rattle.integers.specs.Arguments.{same₄}
use Rattle.cubic.specs.Value.{numerator}
use Rattle.cubic.specs.Horner.{by_horner}
use Rattle.cubic.proofs.Horner.{horner}

pub record UnitsOf (U h z m n Z a b : ℤ) : Type 0 where
  pub rise_is : Z ≡ U *ℤ z
  pub a_is : a ≡ m *ℤ h
  pub b_is : b ≡ n *ℤ h

pub record Coefficients (U h z m n first second third : ℤ) : Type 0 where
  pub first_is : first ≡ m *ℤ h
  pub second_is : second ≡ pos 3 *ℤ (U *ℤ z) -ℤ pos 2 *ℤ (m *ℤ h) -ℤ n *ℤ h
  pub third_is : third ≡ m *ℤ h +ℤ n *ℤ h -ℤ pos 2 *ℤ (U *ℤ z)

-- said of Z, a and b they are said of the piece
pub of_units : {U h z m n Z a b first second third : ℤ} → UnitsOf U h z m n Z a b → first ≡ a → second ≡ pos 3 *ℤ Z -ℤ pos 2 *ℤ a -ℤ b → third ≡ a +ℤ b -ℤ pos 2 *ℤ Z → Coefficients U h z m n first second third
of_units {first = first} {second} {third} u e f g =
    record {
      first_is = e ∙ u.a_is;
      second_is = same₄ (λ (Z a b _ : ℤ). second ≡ pos 3 *ℤ Z -ℤ pos 2 *ℤ a -ℤ b) {u = pos 0} u.rise_is u.a_is u.b_is refl f;
      third_is = same₄ (λ (Z a b _ : ℤ). third ≡ a +ℤ b -ℤ pos 2 *ℤ Z) {u = pos 0} u.rise_is u.a_is u.b_is refl g;
    }

-- of a piece as it is handed on
pub as_handed : {U h z m n h' z' first second third : ℤ} → h' ≡ h → z' ≡ z → SFits w32 m → SFits w32 n → Coefficients U h' z' (to_z w32 (of_z w32 m)) (to_z w32 (of_z w32 n)) first second third → Coefficients U h z m n first second third
as_handed {U} {first = first} {second} {third} e f m n = same₄ (λ (h z m n : ℤ). Coefficients U h z m n first second third) e f (to_z-of_z m) (to_z-of_z n)

-- Horner's steps over them give the cubic
pub by_coefficients : {U h z m n first second third : ℤ} → Coefficients U h z m n first second third → (t : ℤ) → by_horner first second third t h ≡ numerator U h z m n t
by_coefficients {U} {h} {z} {m} {n} {first} {second} {third} c t =
    same₄ (λ (f s r _ : ℤ). by_horner first second third t h ≡ by_horner f s r t h) {u = t} c.first_is c.second_is c.third_is refl refl
    ∙ horner (U *ℤ z) (m *ℤ h) (n *ℤ h) t h
