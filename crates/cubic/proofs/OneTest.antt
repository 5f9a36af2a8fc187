-- One test decides a rise, a fall and a piece without a rise alike, with no case of its own for any of them: that of the piece turned so that it does not fall, and
-- there a square with its sign in place of the line and the ellipse.
use Rattle.std.specs.Prelude.{◌≡◌, refl, [], ◌∷◌, ◌↔◌, ℤ, pos, neg_ℤ, ◌+ℤ◌, ◌*ℤ◌, ◌≤ℤ◌, ◌<ℤ◌}
use Rattle.std.proofs.Common.{sym, ◌∙◌, ap, subst, subst₂, ⊎_elim}
use Rattle.std.specs.Int.Signed.{le_z_yes}
use Rattle.integers.specs.Promise.{with_sign}
use Rattle.integers.specs.Ring.{ring, quote}
use Rattle.integers.specs.Order.{at_most, signs, ≤ℤ_or-<ℤ, <ℤ→≤ℤ, 0≤_product}
use Rattle.integers.specs.Signs.{sign_up, sign_down, by_sign}
use Rattle.integers.specs.Arguments.{same₄}
use Rattle.cubic.specs.Piece.{NeverAgainst, Monotone}
use Rattle.cubic.specs.Slope.{over}
use Rattle.cubic.proofs.Never.{start_not_against, end_not_against, level_throughout}
use Rattle.cubic.specs.Test.{line, oval}
use Rattle.cubic.proofs.Test.{short_accepts, in_oval}
use Rattle.cubic.proofs.Monotone.{monotone_rising, monotone_falling, monotone_level}
use Rattle.cubic.specs.OneTest.{SquareWithin}

-- ---- what a and b have over 3Z, squared with its sign, is at most a·b: below the line always, and above it in the ellipse

pub square_accepts : {Z a b : ℤ} → pos 0 ≤ℤ a → pos 0 ≤ℤ b → SquareWithin (over Z a b) a b → NeverAgainst Z a b
square_accepts {Z} {a} {b} a₀ b₀ s =
    ⊎_elim (λ l. short_accepts (line a₀ b₀ l)) (λ l. short_accepts (oval a₀ b₀ l (record { inside = above l }))) (≤ℤ_or-<ℤ (over Z a b) (pos 0))
  where
    above : pos 0 <ℤ over Z a b → (over Z a b *ℤ over Z a b) ≤ℤ (a *ℤ b)
    above l = subst (λ (x : ℤ). (over Z a b *ℤ x) ≤ℤ (a *ℤ b)) (sign_up (over Z a b) (over Z a b) (<ℤ→≤ℤ l)) s.within

pub square_complete : {Z a b : ℤ} → NeverAgainst Z a b → SquareWithin (over Z a b) a b
square_complete {Z} {a} {b} f = record { within = by_sign (over Z a b) above (below (over Z a b)) (level (over Z a b)) }
  where
    above : pos 0 <ℤ over Z a b → (over Z a b *ℤ with_sign (over Z a b) (over Z a b)) ≤ℤ (a *ℤ b)
    above l = subst (λ (x : ℤ). (over Z a b *ℤ x) ≤ℤ (a *ℤ b)) (sym (sign_up (over Z a b) (over Z a b) (<ℤ→≤ℤ l))) (in_oval f l).inside

    minus_square : (o a b : ℤ) → pos 0 ≤ℤ a → pos 0 ≤ℤ b → (o *ℤ neg_ℤ o) ≤ℤ (a *ℤ b)
    minus_square o a b a₀ b₀ = at_most (a *ℤ b +ℤ o *ℤ o) (ring (o ∷ a ∷ b ∷ []) (search quote depth 30 fits 9000) tt) (search signs)

    below : (o : ℤ) → o <ℤ pos 0 → (o *ℤ with_sign o o) ≤ℤ (a *ℤ b)
    below o l = subst (λ (x : ℤ). (o *ℤ x) ≤ℤ (a *ℤ b)) (sym (sign_down o o l)) (minus_square o a b (start_not_against f) (end_not_against f))

    level : (o : ℤ) → o ≡ pos 0 → (o *ℤ with_sign o o) ≤ℤ (a *ℤ b)
    level o e = subst (λ (x : ℤ). (x *ℤ with_sign x x) ≤ℤ (a *ℤ b)) (sym e) (0≤_product (start_not_against f) (end_not_against f))

-- ---- the piece turned: width and rise with the other sign where it falls

module _ (U h z m n : ℤ) where
  abbrev pub Turned : Type 0
  Turned = NeverAgainst (U *ℤ with_sign z z) (m *ℤ with_sign z h) (n *ℤ with_sign z h)

  -- its Z, a and b are then these
  turned_as : {Z a b : ℤ} → U *ℤ with_sign z z ≡ Z → m *ℤ with_sign z h ≡ a → n *ℤ with_sign z h ≡ b → Turned ↔ NeverAgainst Z a b
  turned_as e f g =
      (same₄ (λ (Z a b _ : ℤ). NeverAgainst Z a b) {u = pos 0} e f g refl, same₄ (λ (Z a b _ : ℤ). NeverAgainst Z a b) {u = pos 0} (sym e) (sym f) (sym g) refl)

  upright : pos 0 ≤ℤ z → Turned ↔ NeverAgainst (U *ℤ z) (m *ℤ h) (n *ℤ h)
  upright p = turned_as (ap (λ (x : ℤ). U *ℤ x) (sign_up z z p)) (ap (λ (x : ℤ). m *ℤ x) (sign_up z h p)) (ap (λ (x : ℤ). n *ℤ x) (sign_up z h p))

  over_turned : z <ℤ pos 0 → Turned ↔ NeverAgainst (neg_ℤ (U *ℤ z)) (neg_ℤ (m *ℤ h)) (neg_ℤ (n *ℤ h))
  over_turned p = turned_as (turn U z) (turn m h) (turn n h)
    where
      minus : (x y : ℤ) → x *ℤ neg_ℤ y ≡ neg_ℤ (x *ℤ y)
      minus x y = ring (x ∷ y ∷ []) (search quote depth 30 fits 9000) tt

      turn : (x y : ℤ) → x *ℤ with_sign z y ≡ neg_ℤ (x *ℤ y)
      turn x y = ap (λ (v : ℤ). x *ℤ v) (sign_down z y p) ∙ minus x y

  -- without a rise Z is 0
  level_turned : z ≡ pos 0 → Turned ↔ NeverAgainst (pos 0) (m *ℤ h) (n *ℤ h)
  level_turned e =
      turned_as (ap (λ (x : ℤ). U *ℤ with_sign x x) e ∙ none U) (ap (λ (x : ℤ). m *ℤ with_sign x h) e) (ap (λ (x : ℤ). n *ℤ with_sign x h) e)
    where
      none : (x : ℤ) → x *ℤ pos 0 ≡ pos 0
      none x = ring (x ∷ []) (search quote depth 30 fits 9000) tt

  pub turned_accepts : Turned → Monotone U h z m n
  turned_accepts f =
      by_sign z (λ p. monotone_rising p ((upright (<ℤ→≤ℤ p)).0 f)) (λ p. monotone_falling p ((over_turned p).0 f))
      (λ e. let l = level_throughout ((level_turned e).0 f) in monotone_level e l.0 l.1)

  pub turned_complete : Monotone U h z m n → Turned
  turned_complete o =
      by_sign z (λ p. (upright (<ℤ→≤ℤ p)).1 (o.rising p)) (λ p. (over_turned p).1 (o.falling p)) (λ e. (level_turned e).1 (level_accepted (o.level e)))
    where
      level_accepted : {a b : ℤ} → (a ≡ pos 0) × (b ≡ pos 0) → NeverAgainst (pos 0) a b
      level_accepted e = subst₂ (NeverAgainst (pos 0)) (sym e.0) (sym e.1) (short_accepts (line (le_z_yes tt) (le_z_yes tt) (le_z_yes tt)))
