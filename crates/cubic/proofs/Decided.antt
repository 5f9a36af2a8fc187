-- Whether a piece is monotone can always be told, by the short test.
use Rattle.std.specs.Prelude.{◌⊎◌, ℤ, pos, neg_ℤ, ◌*ℤ◌, ◌≤ℤ◌, ◌<ℤ◌}
use Rattle.std.proofs.Common.{⊎_elim}
use Rattle.integers.specs.Order.{≤ℤ_or-<ℤ}
use Rattle.integers.specs.Signs.{by_sign}
use Rattle.integers.specs.Decided.{alike_or_not, both_or_not, ≤ℤ_or_not, ≡ℤ_or_not}
use Rattle.cubic.specs.Piece.{NeverAgainst, Monotone}
use Rattle.cubic.specs.Slope.{over}
use Rattle.cubic.proofs.Never.{start_not_against, end_not_against}
use Rattle.cubic.specs.Test.{line, oval}
use Rattle.cubic.proofs.Test.{short_accepts, in_oval}
use Rattle.cubic.proofs.Monotone.{monotone_rising, monotone_falling, monotone_level}

never_against_or_not : (Z a b : ℤ) → NeverAgainst Z a b ⊎ (NeverAgainst Z a b → ⊥)
never_against_or_not Z a b = ⊎_elim under above (≤ℤ_or-<ℤ (over Z a b) (pos 0))
  where
    starts : ((pos 0 ≤ℤ a) × (pos 0 ≤ℤ b)) ⊎ ((pos 0 ≤ℤ a) × (pos 0 ≤ℤ b) → ⊥)
    starts = both_or_not (≤ℤ_or_not (pos 0) a) (≤ℤ_or_not (pos 0) b)

    under : over Z a b ≤ℤ pos 0 → NeverAgainst Z a b ⊎ (NeverAgainst Z a b → ⊥)
    under s = alike_or_not (λ w. short_accepts (line w.0 w.1 s)) (λ f. (start_not_against f, end_not_against f)) starts

    above : pos 0 <ℤ over Z a b → NeverAgainst Z a b ⊎ (NeverAgainst Z a b → ⊥)
    above s =
        alike_or_not (λ w. short_accepts (oval w.0.0 w.0.1 s (record { inside = w.1 }))) (λ f. ((start_not_against f, end_not_against f), (in_oval f s).inside))
        (both_or_not starts (≤ℤ_or_not _ _))

pub monotone_or_not : (U h z m n : ℤ) → Monotone U h z m n ⊎ (Monotone U h z m n → ⊥)
monotone_or_not U h z m n =
    by_sign z (λ p. alike_or_not (monotone_rising p) (λ o. o.rising p) (never_against_or_not (U *ℤ z) (m *ℤ h) (n *ℤ h)))
    (λ p. alike_or_not (monotone_falling p) (λ o. o.falling p) (never_against_or_not (neg_ℤ (U *ℤ z)) (neg_ℤ (m *ℤ h)) (neg_ℤ (n *ℤ h))))
    (λ e. alike_or_not (λ w. monotone_level e w.0 w.1) (λ o. o.level e) (both_or_not (≡ℤ_or_not (m *ℤ h) (pos 0)) (≡ℤ_or_not (n *ℤ h) (pos 0))))
