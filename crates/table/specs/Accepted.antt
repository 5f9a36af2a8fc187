-- What is known of points, and of a table, that no cause of a refusal holds of.
use Rattle.std.specs.Prelude.{◌≡◌, refl, List, [], ◌∷◌, ℕ, ◌+◌, ◌≤◌, ◌<◌, ℤ, length}
use Rattle.std.proofs.Common.{arith}
use Rattle.integers.specs.Decided.{stable, between_or_not}
use Rattle.cubic.proofs.Monotone.{monotone_stable}
use Rattle.rules.specs.Limits.{UnitWithin, CountWithin, WidthWithin, RiseWithin}
use Rattle.rules.specs.Found.{unit_or_not}
use Rattle.rules.specs.Refusals.{Given, done, passed}
use Rattle.rules.specs.Order.{clear, rest, front, behind}
use Rattle.table.specs.Table.{Table, table, step, point_count, SameLengths, MonotoneAt, Holds, no_such_unit, lengths_differ, too_few_or_many, width_outside, rise_outside, not_monotone, outline_order, build_order, check_order}

-- as many values as knots, in number, width and rise within the limits
pub record PointsWithin (ks vs : List ℤ) : Type 0 where
  pub lengths : length vs ≡ length ks
  pub count : CountWithin (length ks)
  pub widths : (i : ℕ) → i + 1 < length ks → WidthWithin (step ks i)
  pub rises : (i : ℕ) → i + 1 < length ks → RiseWithin (step vs i)

pub at_most : {m n : ℕ} → (m < n → ⊥) → n ≤ m
at_most f = omega arith

equal : {m n : ℕ} → ((m ≡ n → ⊥) → ⊥) → m ≡ n
equal {m} {n} f =
    let a = at_most (λ (l : m < n). f (λ (e : m ≡ n). omega arith)) in
    let b = at_most (λ (l : n < m). f (λ (e : m ≡ n). omega arith)) in omega arith

counted : {n : ℕ} → ((CountWithin n → ⊥) → ⊥) → CountWithin n
counted {n} f =
    record {
      low = at_most (λ (l : n < 2). f (λ (w : CountWithin n). omega (arith, w.low)));
      high = at_most (λ (l : 1024 < n). f (λ (w : CountWithin n). omega (arith, w.high)));
    }

-- what is known where 12, 1 and 2 have passed, whatever is asked behind them
module _ {t : Table} {n p : ℕ} {more : List ℕ} (e : n ≡ 0) (g : Given (Holds t) (12 ∷ 1 ∷ 2 ∷ more) n p) where
  pub unit_asked : UnitWithin t.s
  unit_asked = stable (unit_or_not t.s) (λ f. clear e g 0 (no_such_unit f))

  pub lengths_asked : SameLengths t.knots t.values t.slopes
  lengths_asked =
      record {
        values = equal (λ f. clear e (rest e g) 0 (lengths_differ (λ s. f s.values)));
        slopes = equal (λ f. clear e (rest e g) 0 (lengths_differ (λ s. f s.slopes)));
      }

  pub count_asked : CountWithin (point_count t)
  count_asked = counted (λ f. clear e (rest e (rest e g)) 0 (too_few_or_many f))

pub accepted_points : {t : Table} {n p : ℕ} → n ≡ 0 → Given (Holds t) build_order n p → PointsWithin t.knots t.values
accepted_points e g =
    let after-2 = behind outline_order e g in
    record {
      lengths = (lengths_asked e g).values;
      count = count_asked e g;
      widths = λ i l. stable (between_or_not _ _ _) (λ f. clear e after-2 i (width_outside l f));
      rises = λ i l. stable (between_or_not _ _ _) (λ f. clear e (rest e after-2) i (rise_outside l f));
    }

-- a table that passes the table check
pub record Accepted (t : Table) : Type 0 where
  pub unit : UnitWithin t.s
  pub limits : PointsWithin t.knots t.values
  pub slopes : length t.slopes ≡ length t.knots
  pub pieces : (i : ℕ) → i + 1 < length t.knots → MonotoneAt t i

pub accepted_table : {t : Table} {n p : ℕ} → n ≡ 0 → Given (Holds t) check_order n p → Accepted t
accepted_table e g =
    record {
      unit = unit_asked e g;
      limits = accepted_points refl (front build_order (5 ∷ []) e g);
      slopes = (lengths_asked e g).slopes;
      pieces = λ i l. monotone_stable (λ f. clear e (behind build_order e g) i (not_monotone l f));
    }

-- ---- and the other way round

pub unit_passes : {t : Table} → UnitWithin t.s → (q : ℕ) → Holds t 12 q → ⊥
unit_passes w _ (no_such_unit f) = f w

pub same_length_passes : {t : Table} → SameLengths t.knots t.values t.slopes → (q : ℕ) → Holds t 1 q → ⊥
same_length_passes s _ (lengths_differ f) = f s

pub count_passes : {t : Table} → CountWithin (point_count t) → (q : ℕ) → Holds t 2 q → ⊥
count_passes w _ (too_few_or_many f) = f w

pub steps_accepted : {s : ℕ} {ks vs ss : List ℤ} → ((i : ℕ) → i + 1 < length ks → WidthWithin (step ks i)) → ((i : ℕ) → i + 1 < length ks → RiseWithin (step vs i)) → Given (Holds (table s ks vs ss)) (3 ∷ 4 ∷ []) 0 0
steps_accepted {s} {ks} {vs} {ss} ws rs = passed widths (passed rises done)
  where
    widths : (q : ℕ) → Holds (table s ks vs ss) 3 q → ⊥
    widths q (width_outside l f) = f (ws q l)

    rises : (q : ℕ) → Holds (table s ks vs ss) 4 q → ⊥
    rises q (rise_outside l f) = f (rs q l)

pub points_accepted : {s : ℕ} {ks vs ss : List ℤ} → UnitWithin s → PointsWithin ks vs → length ss ≡ length ks → Given (Holds (table s ks vs ss)) build_order 0 0
points_accepted u p e =
    passed (unit_passes u)
    (passed (same_length_passes (record { values = p.lengths; slopes = e })) (passed (count_passes p.count) (steps_accepted p.widths p.rises)))
