-- The exact rules' definitions for one piece, as they are written there. Whoever believes a promise about pieces believes this file. As on paper, products go
-- before sums, and x − y − z is (x − y) − z.
use Rattle.std.specs.Prelude.{◌≡◌, ℕ, ◌≤◌, ℤ, pos, neg_ℤ, ◌+ℤ◌, ◌-ℤ◌, ◌*ℤ◌, ◌≤ℤ◌, ◌<ℤ◌}

-- "a·q² + 2·(3Z − 2a − b)·k·q + 3·(a + b − 2Z)·k²": the cubic's slope at the fraction k/q of the width h, times
-- U·h·q², where U is the slope unit: slopes are in units of 1/U of a value per count.
abbrev pub slope_at : (Z a b k q : ℤ) → ℤ
slope_at Z a b k q =
    a *ℤ (q *ℤ q) +ℤ pos 2 *ℤ (pos 3 *ℤ Z -ℤ pos 2 *ℤ a -ℤ b) *ℤ (k *ℤ q) +ℤ pos 3 *ℤ (a +ℤ b -ℤ pos 2 *ℤ Z) *ℤ (k *ℤ k)

-- "at every fraction k/q of the width, with whole q ≥ 1 and k from 0 to q, [it] is not negative"
pub record NeverAgainst (Z a b : ℤ) : Type 0 where
  pub at : (k q : ℕ) → 1 ≤ q → k ≤ q → pos 0 ≤ℤ slope_at Z a b (pos k) (pos q)

-- "For z > 0: [so]. For z < 0: the same for −Z, −a, −b. For z = 0: a = b = 0." Here Z = U·z, a = m·h and b = n·h, with U the slope unit.
pub record Monotone (U h z m n : ℤ) : Type 0 where
  pub rising : pos 0 <ℤ z → NeverAgainst (U *ℤ z) (m *ℤ h) (n *ℤ h)
  pub falling : z <ℤ pos 0 → NeverAgainst (neg_ℤ (U *ℤ z)) (neg_ℤ (m *ℤ h)) (neg_ℤ (n *ℤ h))
  pub level : z ≡ pos 0 → (m *ℤ h ≡ pos 0) × (n *ℤ h ≡ pos 0)

-- "a·t·h² + (3Z − 2a − b)·t²·h + (a + b − 2Z)·t³": the cubic's rise up to the fraction t/h of the width, times U·h³. For a value h is the width and t the counts
-- from the left knot.
abbrev pub rise_at : (Z a b t h : ℤ) → ℤ
rise_at Z a b t h =
    a *ℤ t *ℤ (h *ℤ h) +ℤ (pos 3 *ℤ Z -ℤ pos 2 *ℤ a -ℤ b) *ℤ (t *ℤ t) *ℤ h +ℤ (a +ℤ b -ℤ pos 2 *ℤ Z) *ℤ (t *ℤ t *ℤ t)
