-- What keeps the promises gives the sixteen: each case is a result that meets the promise, and one result only does. `SixteenOurs.antt` has it of ours.
use Rattle.std.specs.Prelude.{◌≡◌, refl, List, ℕ, ◌≤◌, T, leb, ℤ, pos, neg_ℤ, ◌*ℤ◌, ◌≤ℤ◌, ◌<ℤ◌, length}
use Rattle.std.proofs.Common.{sym, ◌∙◌, ap, subst, lit<, lit≤}
use Rattle.std.specs.Int.Signed.{le_z, le_z_yes, lt_z_yes}
use Rattle.cubic.specs.Piece.{slope_at}
use Rattle.cubic.specs.Test.{Short, line, oval}
use Rattle.cubic.proofs.Test.{short_accepts}
use Rattle.cubic.proofs.Monotone.{monotone_rising, monotone_falling, monotone_level}
use Rattle.rules.specs.Limits.{unit, UnitWithin, CountWithin, WidthWithin, RiseWithin}
use Rattle.rules.specs.Refusals.{answered}
use Rattle.rules.specs.Order.{went_on}
use Rattle.table.specs.Table.{table}
use Rattle.table.specs.Accepted.{PointsWithin, points_accepted}
use Rattle.table.specs.Tested.{points_by_test}
use Rattle.piece.specs.Promise.{Finding, bends, ruling, leaning, Judged, monotone, bent}
use Rattle.piece.specs.Determined.{one_ruling}
use Rattle.slopes.specs.Slopes.{built_slopes, Built}
use Rattle.slopes.specs.Determined.{one_build}
use Rattle.slopes.specs.EveryPiece.{a_built_table_passes_the_table_check}
use Rattle.position.specs.Position.{Belongs, inside, WithinKnots}
use Rattle.position.specs.Refused.{as_checked, taken_inside}
use Rattle.curve.specs.Curve.{value_on, Evaluated}
use Rattle.curve.specs.Determined.{one_evaluation}
use Rattle.demands.specs.Demands.{judge, build, evaluate, Implementation}
use Rattle.demands.specs.Kept.{Keeps}
use Rattle.demands.proofs.BothMeet.{number_of, place_of, finding_of}
use Rattle.demands.specs.Refuting.{within}
use Rattle.demands.specs.Sixteen.{piece, slopes, value, sixteen, Gives, All, none, ◌&◌, TheSixteen}

-- ---- a piece that does not bend, by the test that decides the definition, and one that does, at a fraction where its slope is against its rise

pub eighth : UnitWithin 8
eighth = record { high = lit≤ tt }

module _ {h z m n : ℤ} where
  rises : pos 0 <ℤ z → WidthWithin h → RiseWithin z → Short (unit 8 *ℤ z) (m *ℤ h) (n *ℤ h) → Judged 8 h z m n (ruling 0 0 (leaning z))
  rises p w r s = monotone eighth w r (monotone_rising p (short_accepts s))

  falls : z <ℤ pos 0 → WidthWithin h → RiseWithin z → Short (neg_ℤ (unit 8 *ℤ z)) (neg_ℤ (m *ℤ h)) (neg_ℤ (n *ℤ h)) → Judged 8 h z m n (ruling 0 0 (leaning z))
  falls p w r s = monotone eighth w r (monotone_falling p (short_accepts s))

  -- at the fraction k/q
  against : pos 0 <ℤ z → WidthWithin h → RiseWithin z → (k q : ℕ) → 1 ≤ q → k ≤ q → (pos 0 ≤ℤ slope_at (unit 8 *ℤ z) (m *ℤ h) (n *ℤ h) (pos k) (pos q) → ⊥) → Judged 8 h z m n (ruling 0 0 bends)
  against p w r k q q₁ k₁ f = bent eighth w r (λ o. f ((o.rising p).at k q q₁ k₁))

one_is_not_none : pos 1 ≡ pos 0 → ⊥
one_is_not_none e = absurd (subst (λ (x : ℤ). T (le_z (pos 1) x)) e tt)

-- ---- points and their slopes, and a value in the first piece of a built table

pub count : {n : ℕ} → T (leb 2 n) → T (leb n 1024) → CountWithin n
count s t = record { low = lit≤ s; high = lit≤ t }

pub has_slopes : {s : ℕ} {knots values these before : List ℤ} → UnitWithin s → PointsWithin knots values → these ≡ built_slopes (unit s) knots values → length before ≡ length knots → Built (table s knots values before) these 0 0
has_slopes u p e l = record { refusal = points_accepted u p l; slopes = e }

pub has_value : {s : ℕ} {knots values before after : List ℤ} {x v : ℤ} → WithinKnots knots x → Belongs knots x 0 → v ≡ value_on (table s knots values (built_slopes (unit s) knots values)) 0 x → Built (table s knots values before) after 0 0
    → Evaluated (table s knots values after) x 0 0 v
has_value {s} {knots} {values} {x = x} w p e b =
    record {
      refusal = went_on refl (as_checked (a_built_table_passes_the_table_check b)) (taken_inside w);
      value = answered (record { piece = 0; belongs = p; is = e ∙ ap (λ (slopes : List ℤ). value_on (table s knots values slopes) 0 x) (sym b.slopes) });
    }

-- ---- so what keeps the promises gives them

module _ {I : Implementation} (k : Keeps I) where
  a_piece : {h z m n : ℤ} {finding : Finding} → Judged 8 h z m n (ruling 0 0 finding) → Gives I (piece h z m n finding)
  a_piece {h} {z} {m} {n} j = (k.allowed (judge 8 h z m n) _ j, λ o p. let e = one_ruling (k.promised (judge 8 h z m n) o p) j in (ap number_of e, ap place_of e, ap finding_of e))

  some_slopes : {knots values these : List ℤ} → PointsWithin knots values → these ≡ built_slopes (unit 8) knots values → Gives I (slopes knots values these)
  some_slopes {knots} {values} p e before l =
      (k.allowed (build (table 8 knots values before)) _ (has_slopes eighth p e l), λ o q. one_build (k.promised (build (table 8 knots values before)) o q) (has_slopes eighth p e l))

  a_value : {knots values : List ℤ} {x v : ℤ} → PointsWithin knots values → WithinKnots knots x → Belongs knots x 0 → v ≡ value_on (table 8 knots values (built_slopes (unit 8) knots values)) 0 x → Gives I (value knots values x v)
  a_value {knots} {values} {x} p w b e before l o q =
      let built = one_build (k.promised (build (table 8 knots values before)) o q) (has_slopes eighth p refl l) in
      let is = has_value {before = before} w b e (has_slopes eighth p built.2 l) in
      (k.allowed (evaluate (table 8 knots values o.lists) x) _ is, λ r s. one_evaluation (k.promised (evaluate (table 8 knots values o.lists) x) r s) is)

  pub the_sixteen_are_given : TheSixteen I
  the_sixteen_are_given = record { sixteen_of_them = refl; each_is_given = given }
    where
      given : All I sixteen
      given =
          a_piece (rises (lt_z_yes tt) (within tt tt) (within tt tt) (line (le_z_yes tt) (le_z_yes tt) (le_z_yes tt)))
          & a_piece (rises (lt_z_yes tt) (within tt tt) (within tt tt) (oval (le_z_yes tt) (le_z_yes tt) (lt_z_yes tt) (record { inside = le_z_yes tt })))
          & a_piece (against (lt_z_yes tt) (within tt tt) (within tt tt) 1 2 (lit≤ tt) (lit≤ tt) (λ s. s.le))
          & a_piece (rises (lt_z_yes tt) (within tt tt) (within tt tt) (oval (le_z_yes tt) (le_z_yes tt) (lt_z_yes tt) (record { inside = le_z_yes tt })))
          & a_piece (against (lt_z_yes tt) (within tt tt) (within tt tt) 2 3 (lit≤ tt) (lit≤ tt) (λ s. s.le))
          & a_piece (against (lt_z_yes tt) (within tt tt) (within tt tt) 1535 2301 (lit≤ tt) (lit≤ tt) (λ s. s.le))
          & a_piece (rises (lt_z_yes tt) (within tt tt) (within tt tt) (line (le_z_yes tt) (le_z_yes tt) (le_z_yes tt)))
          & a_piece (against (lt_z_yes tt) (within tt tt) (within tt tt) 770 771 (lit≤ tt) (lit≤ tt) (λ s. s.le))
          & a_piece (monotone eighth (within tt tt) (within tt tt) (monotone_level refl refl refl))
          & a_piece (bent eighth (within tt tt) (within tt tt) (λ o. one_is_not_none (o.level refl).0))
          & a_piece (falls (lt_z_yes tt) (within tt tt) (within tt tt) (oval (le_z_yes tt) (le_z_yes tt) (lt_z_yes tt) (record { inside = le_z_yes tt })))
          & a_piece (rises (lt_z_yes tt) (within tt tt) (within tt tt) (oval (le_z_yes tt) (le_z_yes tt) (lt_z_yes tt) (record { inside = le_z_yes tt })))
          & some_slopes (points_by_test _ _ refl (count tt tt) tt) refl
          & some_slopes (points_by_test _ _ refl (count tt tt) tt) refl
          & some_slopes (points_by_test _ _ refl (count tt tt) tt) refl
          & a_value (points_by_test _ _ refl (count tt tt) tt) (within tt tt) (inside {i = 0} (lit< tt) (le_z_yes tt) (lt_z_yes tt)) refl
          & none
