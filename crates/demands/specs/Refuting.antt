-- How a wrong answer is refuted: its cause does not hold there, or one that is asked before it does, or what is right is another number.
use Rattle.std.specs.Prelude.{◌≡◌, refl, Bool, true, false, not, ◌&&◌, cond, List, [], ◌∷◌, ◌⊎◌, ℕ, suc, ◌+◌, ◌<◌, T, leb, ltb, eqb, ℤ, pos, negsuc, ◌*ℤ◌, ◌≤ℤ◌, length}
use Rattle.std.proofs.Common.{sym, subst, inl, inr, ⊎_elim, arith, T_not, ltb→lt, eqb→eq, lit<, lit≤}
use Rattle.std.proofs.Math.Dec.{eqb_refl}
use Rattle.std.specs.Int.Signed.{le_z, lt_z, le_z_yes, lt_z_yes}
use Rattle.integers.specs.Promise.{Between}
use Rattle.cubic.specs.Piece.{slope_at, Monotone}
use Rattle.cubic.specs.Slope.{over}
use Rattle.cubic.specs.Test.{line, oval}
use Rattle.cubic.proofs.Test.{short_accepts}
use Rattle.cubic.proofs.Monotone.{monotone_rising}
use Rattle.rules.specs.Limits.{UnitWithin, WidthWithin, RiseWithin}
use Rattle.rules.specs.Refusals.{Given, done, refused, passed, Answered, nothing}
use Rattle.table.specs.declared.changed.Change.{Change}
use Rattle.table.specs.Table.{Table, point_count, entry, step, MonotoneAt, Holds, no_such_unit, width_outside, rise_outside, not_monotone}
use Rattle.table.specs.WouldBe.{changed_by, HoldsAfter, of_points, no_such_point}
use Rattle.position.specs.Position.{Belongs, inside, WithinKnots, HoldsAt, of_table, position_outside}

pub within : {l x h : ℤ} → T (le_z l x) → T (le_z x h) → Between l x h
within s t = record { low = le_z_yes s; high = le_z_yes t }

above : {x y : ℤ} → T (not (le_z x y)) → x ≤ℤ y → ⊥
above {x} {y} t l = T_not (le_z x y) t l.le

-- ---- a refusal

-- the order asks c, and n not before it; 0, which is no cause, comes behind them all
abbrev asks_before : (c n : ℕ) → List ℕ → Bool
asks_before c n [] = false
asks_before c n (d ∷ order) = cond (eqb d n) false (cond (eqb d c) true (asks_before c n order))

module _ {H : ℕ → ℕ → Type 0} where
  -- c holds at q, and is asked before the cause that is given, or where none is
  pub overlooked : {n p : ℕ} {order : List ℕ} → Given H order n p → (c q : ℕ) → H c q → T (asks_before c n order) → ⊥
  overlooked done c q h t = t
  overlooked (refused {c = d} k e) c q h t = first (eqb (suc d) (suc d)) _ (eqb_refl (suc d)) t
    where
      first : (b x : Bool) → T b → T (cond b false x) → ⊥
      first true x s t = t
      first false x s t = s
  overlooked {n} (passed {c = d} f g) c q h t =
      ⊎_elim (λ u. f q (subst (λ (x : ℕ). H x q) (sym (eqb→eq d c u)) h)) (λ u. overlooked g c q h u) (next (eqb d n) (eqb d c) _ t)
    where
      next : (a b x : Bool) → T (cond a false (cond b true x)) → T b ⊎ T x
      next true b x t = absurd t
      next false true x t = inl tt
      next false false x t = inr t

  -- the cause that is given holds there
  pub so_it_holds : {c p : ℕ} {order : List ℕ} → Given H order (suc c) p → H (suc c) p
  so_it_holds (refused h e) = h
  so_it_holds (passed f g) = so_it_holds g

-- causes that hold of figures: a unit above 8, a width below 1, a rise above its limit, a slope against a rise at the fraction k/q of the width
pub above_8 : {s : ℕ} → T (ltb 8 s) → UnitWithin s → ⊥
above_8 {s} l u = omega (arith, ltb→lt 8 s l, u.high)

pub no_unit : {t : Table} → T (ltb 8 t.s) → Holds t 12 0
no_unit l = no_such_unit (above_8 l)

pub too_narrow : {t : Table} {i : ℕ} → T (ltb (i + 1) (point_count t)) → T (not (le_z (pos 1) (step t.knots i))) → Holds t 3 i
too_narrow l f = width_outside (lit< l) (λ w. above f w.low)

pub too_high : {t : Table} {i : ℕ} → T (ltb (i + 1) (point_count t)) → T (not (le_z (step t.values i) (pos 1048576))) → Holds t 4 i
too_high l f = rise_outside (lit< l) (λ w. above f w.high)

pub against_its_rise : {U h z m n : ℤ} (k q : ℕ) → T (lt_z (pos 0) z) → T (leb 1 q) → T (leb k q) → T (not (le_z (pos 0) (slope_at (U *ℤ z) (m *ℤ h) (n *ℤ h) (pos k) (pos q)))) → Monotone U h z m n → ⊥
against_its_rise k q z₀ q₁ k₁ f o = above f ((o.rising (lt_z_yes z₀)).at k q (lit≤ q₁) (lit≤ k₁))

-- a rise that is monotone, as its slopes lie below the line or in the ellipse
pub below_the_line : {U h z m n : ℤ} → T (lt_z (pos 0) z) → T (le_z (pos 0) (m *ℤ h)) → T (le_z (pos 0) (n *ℤ h)) → T (le_z (over (U *ℤ z) (m *ℤ h) (n *ℤ h)) (pos 0)) → Monotone U h z m n
below_the_line z₀ a₀ b₀ l = monotone_rising (lt_z_yes z₀) (short_accepts (line (le_z_yes a₀) (le_z_yes b₀) (le_z_yes l)))

pub in_the_ellipse : {U h z m n : ℤ} → T (lt_z (pos 0) z) → T (le_z (pos 0) (m *ℤ h)) → T (le_z (pos 0) (n *ℤ h)) → T (lt_z (pos 0) (over (U *ℤ z) (m *ℤ h) (n *ℤ h)))
    → T (le_z (over (U *ℤ z) (m *ℤ h) (n *ℤ h) *ℤ over (U *ℤ z) (m *ℤ h) (n *ℤ h)) (m *ℤ h *ℤ (n *ℤ h))) → Monotone U h z m n
in_the_ellipse z₀ a₀ b₀ l i = monotone_rising (lt_z_yes z₀) (short_accepts (oval (le_z_yes a₀) (le_z_yes b₀) (lt_z_yes l) (record { inside = le_z_yes i })))

-- a position in piece i, and not at the last knot
pub in_piece : {ks : List ℤ} {x : ℤ} (i : ℕ) → T (ltb (i + 1) (length ks)) → T (le_z (entry ks i) x) → T (lt_z x (entry ks (i + 1))) → Belongs ks x i
in_piece i l a b = inside (lit< l) (le_z_yes a) (lt_z_yes b)

-- causes that do not hold
pub no_bad_width : {t : Table} {i : ℕ} → WidthWithin (step t.knots i) → Holds t 3 i → ⊥
no_bad_width w (width_outside l f) = f w

pub no_bad_rise : {t : Table} {i : ℕ} → RiseWithin (step t.values i) → Holds t 4 i → ⊥
no_bad_rise r (rise_outside l f) = f r

pub no_bend : {t : Table} {i : ℕ} → MonotoneAt t i → Holds t 5 i → ⊥
no_bend m (not_monotone l f) = f m

pub no_bad_width_then : {c : Change} {t : Table} {i : ℕ} → WidthWithin (step (changed_by c t).knots i) → HoldsAfter c t 3 i → ⊥
no_bad_width_then w (of_points h) = no_bad_width w h

pub the_point_is_there : {c : Change} {t : Table} → c.point < point_count t → HoldsAfter c t 7 0 → ⊥
the_point_is_there l (of_points h) = elim h [ ]
the_point_is_there l (no_such_point f) = f l

pub no_bend_there : {t : Table} {x : ℤ} {i : ℕ} → MonotoneAt t i → HoldsAt t x 5 i → ⊥
no_bend_there m (of_table h) = no_bend m h

pub not_outside : {t : Table} {x : ℤ} → WithinKnots t.knots x → HoldsAt t x 6 0 → ⊥
not_outside b (of_table h) = elim h [ ]
not_outside b (position_outside f) = f b

-- what is answered where it is refused
pub answers_nothing : {A : Type 0} {Right : A → Type 0} {none a : A} {number : ℕ} → Answered Right none (suc number) a → a ≡ none
answers_nothing nothing = refl

-- ---- two results that differ, by a test

pub apart : {A : Type 0} (test : A → Bool) {x y : A} → x ≡ y → T (test x) → T (not (test y)) → ⊥
apart test {y = y} e s t = T_not (test y) t (subst (λ a. T (test a)) e s)

-- ---- numbers and lists that differ

abbrev same : ℤ → ℤ → Bool
same (pos m) (pos n) = eqb m n
same (pos m) (negsuc n) = false
same (negsuc m) (pos n) = false
same (negsuc m) (negsuc n) = eqb m n

same_refl : (x : ℤ) → T (same x x)
same_refl (pos n) = eqb_refl n
same_refl (negsuc n) = eqb_refl n

pub numbers_differ : {x y : ℤ} → T (not (same x y)) → x ≡ y → ⊥
numbers_differ {x} {y} t e = T_not (same x y) t (subst (λ (v : ℤ). T (same x v)) e (same_refl x))

abbrev all_same : List ℤ → List ℤ → Bool
all_same [] [] = true
all_same [] (y ∷ ys) = false
all_same (x ∷ xs) [] = false
all_same (x ∷ xs) (y ∷ ys) = same x y && all_same xs ys

all_same_refl : (xs : List ℤ) → T (all_same xs xs)
all_same_refl [] = tt
all_same_refl (x ∷ xs) = both (same x x) _ (same_refl x) (all_same_refl xs)
  where
    both : (a b : Bool) → T a → T b → T (a && b)
    both true b s t = t
    both false b s t = s

pub lists_differ : {xs ys : List ℤ} → T (not (all_same xs ys)) → xs ≡ ys → ⊥
lists_differ {xs} {ys} t e = T_not (all_same xs ys) t (subst (λ (l : List ℤ). T (all_same xs l)) e (all_same_refl xs))
