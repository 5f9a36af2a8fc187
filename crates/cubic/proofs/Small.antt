-- The coefficients of a monotone piece's cubic are small, whichever way it goes.
use Rattle.std.specs.Prelude.{◌≡◌, refl, [], ◌∷◌, ℕ, ◌*◌, ℤ, pos, neg_ℤ, ◌+ℤ◌, ◌-ℤ◌, ◌*ℤ◌}
use Rattle.std.proofs.Common.{sym, subst, zero-le}
use Rattle.integers.specs.Ring.{ring, quote}
use Rattle.integers.specs.Signs.{by_sign}
use Rattle.integers.specs.Within.{Within, within_minus, minus_within}
use Rattle.integers.specs.Arguments.{same₄}
use Rattle.cubic.specs.Piece.{Monotone}
use Rattle.cubic.specs.Never.{SmallCoefficients}
use Rattle.cubic.proofs.Never.{small_coefficients}
use Rattle.cubic.proofs.Monotone.{level_numbers}

-- upside down they are as small
over : {M : ℕ} {Z a b : ℤ} → SmallCoefficients M (neg_ℤ Z) (neg_ℤ a) (neg_ℤ b) → SmallCoefficients M Z a b
over {M} {Z} {a} {b} s =
    record {
      third = minus_within _ (subst (Within (6 * M)) (thirds Z a b) s.third);
      second = minus_within _ (subst (Within (9 * M)) (seconds Z a b) s.second);
      start = minus_within a s.start;
      end = minus_within b s.end;
    }
  where
    thirds : (Z a b : ℤ) → neg_ℤ a +ℤ neg_ℤ b -ℤ pos 2 *ℤ neg_ℤ Z ≡ neg_ℤ (a +ℤ b -ℤ pos 2 *ℤ Z)
    thirds Z a b = ring (Z ∷ a ∷ b ∷ []) (search quote depth 30 fits 9000) tt

    seconds : (Z a b : ℤ) → pos 3 *ℤ neg_ℤ Z -ℤ pos 2 *ℤ neg_ℤ a -ℤ neg_ℤ b ≡ neg_ℤ (pos 3 *ℤ Z -ℤ pos 2 *ℤ a -ℤ b)
    seconds Z a b = ring (Z ∷ a ∷ b ∷ []) (search quote depth 30 fits 9000) tt

pub monotone_small : {M : ℕ} {U h z m n : ℤ} → Monotone U h z m n → Within M (U *ℤ z) → SmallCoefficients M (U *ℤ z) (m *ℤ h) (n *ℤ h)
monotone_small {M} {U} {h} {z} {m} {n} o w =
    by_sign z (λ p. small_coefficients (o.rising p) w) (λ p. over (small_coefficients (o.falling p) (within_minus (U *ℤ z) w)))
    (λ e. let l = level_numbers o e in same₄ (λ (Z a b _ : ℤ). SmallCoefficients M Z a b) {u = pos 0} {u' = pos 0} (sym l.0) (sym l.1.0) (sym l.1.1) refl none)
  where
    none : SmallCoefficients M (pos 0) (pos 0) (pos 0)
    none = record { third = record { size = zero-le }; second = record { size = zero-le }; start = record { size = zero-le }; end = record { size = zero-le } }
