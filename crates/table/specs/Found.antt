-- Every table has an answer to a build and to a table check, and every change of one has an answer: each cause can be searched for.
use Rattle.std.specs.Prelude.{◌≡◌, refl, [], ◌∷◌, ◌⊎◌, ℕ, ◌+◌, ◌-◌, ◌<◌, length}
use Rattle.std.proofs.Common.{⊎_elim, arith}
use Rattle.std.proofs.Math.Decide.{ℕ_discrete, dec_le, dec_lt}
use Rattle.integers.specs.Decided.{or_not, alike_or_not, both_or_not, fails_or_not, between_or_not}
use Rattle.cubic.proofs.Decided.{monotone_or_not}
use Rattle.rules.specs.Limits.{UnitWithin, CountWithin, WidthWithin, RiseWithin}
use Rattle.rules.specs.Found.{unit_or_not, Searched, searched_at_0, searched_below, SomeGiven, none, also, found, found_on, found_as}
use Rattle.table.specs.declared.changed.Change.{Change}
use Rattle.table.specs.Table.{Table, step, point_count, SameLengths, MonotoneAt, Holds, no_such_unit, lengths_differ, too_few_or_many, width_outside, rise_outside, not_monotone, outline_order, build_order, check_order}
use Rattle.table.specs.WouldBe.{changed_by, HoldsAfter, change_order}
use Rattle.table.specs.Accepted.{at_most}
use Rattle.table.specs.AfterChange.{as_outlined, as_stepped, refused_nowhere, taken_there}

module _ (t : Table) where
  -- 12, 1 and 2, at place 0
  unit_searched : Searched (Holds t 12)
  unit_searched = searched_at_0 only (alike_or_not no_such_unit outside (fails_or_not (unit_or_not t.s)))
    where
      only : (p : ℕ) → Holds t 12 p → p ≡ 0
      only p (no_such_unit f) = refl

      outside : Holds t 12 0 → UnitWithin t.s → ⊥
      outside (no_such_unit f) = f

  abbrev EquallyLong : Type 0
  EquallyLong = SameLengths t.knots t.values t.slopes

  same_lengths_or_not : EquallyLong ⊎ (EquallyLong → ⊥)
  same_lengths_or_not =
      alike_or_not (λ w. record { values = w.0; slopes = w.1 }) (λ s. (s.values, s.slopes))
      (both_or_not (or_not (ℕ_discrete (length t.values) (point_count t))) (or_not (ℕ_discrete (length t.slopes) (point_count t))))

  lengths_searched : Searched (Holds t 1)
  lengths_searched = searched_at_0 only (alike_or_not lengths_differ differ (fails_or_not same_lengths_or_not))
    where
      only : (p : ℕ) → Holds t 1 p → p ≡ 0
      only p (lengths_differ f) = refl

      differ : Holds t 1 0 → EquallyLong → ⊥
      differ (lengths_differ f) = f

  count_or_not : CountWithin (point_count t) ⊎ (CountWithin (point_count t) → ⊥)
  count_or_not =
      alike_or_not (λ w. record { low = w.0; high = w.1 }) (λ c. (c.low, c.high)) (both_or_not (or_not (dec_le 2 (point_count t))) (or_not (dec_le (point_count t) 1024)))

  count_searched : Searched (Holds t 2)
  count_searched = searched_at_0 only (alike_or_not too_few_or_many outside (fails_or_not count_or_not))
    where
      only : (p : ℕ) → Holds t 2 p → p ≡ 0
      only p (too_few_or_many f) = refl

      outside : Holds t 2 0 → CountWithin (point_count t) → ⊥
      outside (too_few_or_many f) = f

  -- 3, 4 and 5, at the pieces that are there
  module _ {c : ℕ} (Sound : ℕ → Type 0) where
    pieces_searched : ((i : ℕ) → Sound i ⊎ (Sound i → ⊥)) → ((i : ℕ) → i + 1 < point_count t → (Sound i → ⊥) → Holds t c i)
        → ((i : ℕ) → Holds t c i → (i + 1 < point_count t) × (Sound i → ⊥)) → Searched (Holds t c)
    pieces_searched tell faulty fault =
        searched_below (point_count t - 1) (λ i h. omega (arith, (fault i h).0))
        (λ i l. alike_or_not (faulty i (omega (arith, l))) (λ h. (fault i h).1) (fails_or_not (tell i)))

  widths_searched : Searched (Holds t 3)
  widths_searched = pieces_searched (λ i. WidthWithin (step t.knots i)) (λ i. between_or_not _ _ _) (λ i. width_outside) fault
    where
      fault : (i : ℕ) → Holds t 3 i → (i + 1 < point_count t) × (WidthWithin (step t.knots i) → ⊥)
      fault i (width_outside l f) = (l, f)

  rises_searched : Searched (Holds t 4)
  rises_searched = pieces_searched (λ i. RiseWithin (step t.values i)) (λ i. between_or_not _ _ _) (λ i. rise_outside) fault
    where
      fault : (i : ℕ) → Holds t 4 i → (i + 1 < point_count t) × (RiseWithin (step t.values i) → ⊥)
      fault i (rise_outside l f) = (l, f)

  bends_searched : Searched (Holds t 5)
  bends_searched = pieces_searched (MonotoneAt t) (λ i. monotone_or_not _ _ _ _ _) (λ i. not_monotone) fault
    where
      fault : (i : ℕ) → Holds t 5 i → (i + 1 < point_count t) × (MonotoneAt t i → ⊥)
      fault i (not_monotone l f) = (l, f)

  outlined : SomeGiven (Holds t) outline_order
  outlined = found (also unit_searched (also lengths_searched (also count_searched none)))

  stepped : SomeGiven (Holds t) (3 ∷ 4 ∷ [])
  stepped = found (also widths_searched (also rises_searched none))

  pub every_table_has_an_answer_to_a_build : SomeGiven (Holds t) build_order
  every_table_has_an_answer_to_a_build = found_on outlined (λ _. stepped)

  pub every_table_has_an_answer_to_a_check : SomeGiven (Holds t) check_order
  every_table_has_an_answer_to_a_check = found_on every_table_has_an_answer_to_a_build (λ _. found (also bends_searched none))

module _ (c : Change) (t : Table) where
  point_given : SomeGiven (HoldsAfter c t) (7 ∷ [])
  point_given =
      ⊎_elim (λ l. record { number = 0; place = 0; given = taken_there c t l }) (λ f. record { number = 7; place = 0; given = refused_nowhere c t (at_most f) })
      (or_not (dec_lt c.point (point_count t)))

  pub every_change_has_an_answer : SomeGiven (HoldsAfter c t) change_order
  every_change_has_an_answer = found_on (found_as (λ _ _. as_outlined c t) (outlined t)) (λ _. found_on point_given (λ _. found_as (λ _ _. as_stepped c t) (stepped (changed_by c t))))
