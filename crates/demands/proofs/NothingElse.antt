-- Whatever meets the demands, and what document 01 says beside them, answers as ours does: of each call the demands admit what is promised, and nothing else. So no wrong program meets
-- them, whatever it looks like, and who makes a sentence say less loses this proof.
use Rattle.std.specs.Prelude.{◌≡◌, refl, Bool, cond, ◌⊎◌, List, [], ◌∷◌, ℕ, zero, suc, ◌+◌, ◌<◌, ℤ, pos, ◌<ℤ◌, length, set}
use Rattle.std.proofs.Common.{sym, ◌∙◌, ap, ap₂, subst, subst₂, inl, inr, ⊎_elim, eq-or-lt_of_le, arith, length-set, ext_get_or, get_or-set_same, get_or-set_other}
use Rattle.integers.specs.Promise.{Decided, holds, fails}
use Rattle.integers.specs.Order.{<_or-≤}
use Rattle.rules.specs.Limits.{unit, UnitWithin}
use Rattle.rules.specs.Known.{unit_size, 0<_unit, 0<_width}
use Rattle.rules.specs.Refusals.{Given, Answered}
use Rattle.rules.specs.Order.{one_given, passes_at_0, kept, replaced, refused_answer, right_answer}
use Rattle.rules.specs.Found.{SomeGiven}
use Rattle.table.specs.declared.changed.Change.{Change}
use Rattle.table.specs.Table.{Table, entry, step}
use Rattle.table.specs.Accepted.{PointsWithin, unit_asked, accepted_points}
use Rattle.table.specs.WouldBe.{changed_by}
use Rattle.table.specs.AfterChange.{point_there, unit_then_and_before, equally_long, accepted_then}
use Rattle.table.specs.Found.{every_table_has_an_answer_to_a_build, every_table_has_an_answer_to_a_check, every_change_has_an_answer}
use Rattle.piece.specs.Promise.{Finding, rising, falling, flat, bends, Ruling, ruling, leaning, Judged, unit_refused, width_refused, rise_refused, monotone, bent}
use Rattle.piece.specs.Leaning.{is_rising, is_falling, is_flat}
use Rattle.piece.specs.Determined.{one_ruling}
use Rattle.piece.specs.Found.{every_piece_has_a_verdict}
use Rattle.slopes.specs.Slopes.{built_slope, built_slopes}
use Rattle.slopes.specs.Put.{tab_length, tab_entry}
use Rattle.position.specs.Found.{every_position_has_an_answer}
use Rattle.position.specs.Refused.{accepted_at}
use Rattle.drive.specs.Found.{every_float_answer_is_refused_or_not}
use Rattle.change.specs.Change.{Renews, renewed_slopes}
use Rattle.change.specs.Beside.{is_renewed_lem}
use Rattle.demands.specs.Demands.{Call, judge, points, build, check, locate, evaluate, float_answer, changed_points, point, Outcome, Implementation, CauseOf, order_of, Demand1, CalledByItsRise, it_rises, it_falls, it_is_flat, RightSlope, RightSlopes, Demand2, JustThis, Demand3, Document01}
use Rattle.demands.specs.ByOrder.{refused_exactly}
use Rattle.demands.specs.Cubic.{monotone_without, no_slope_against}
use Rattle.demands.specs.Kept.{Promised}
use Rattle.demands.proofs.BothMeet.{alone, finding_of, not_bends}
use Rattle.demands.proofs.Programs.{its_refusal}
use Rattle.demands.specs.Rules.{one_in_units, one_end, one_mean}
use Rattle.demands.specs.Shown.{right_slope}
use Rattle.demands.specs.Values.{the_exact_is_the_value}

-- ---- the number and the place

some_given : (call : Call) → SomeGiven (CauseOf call) (order_of call)
some_given (judge s h z m n) = by_a_ruling (every_piece_has_a_verdict s h z m n).judged
  where
    by_a_ruling : {a : Ruling} → Judged s h z m n a → SomeGiven (CauseOf (judge s h z m n)) (12 ∷ 3 ∷ 4 ∷ [])
    by_a_ruling {a = ruling number place finding} j = record { number = number; place = place; given = alone j }
some_given (points t) = every_table_has_an_answer_to_a_build t
some_given (build t) = every_table_has_an_answer_to_a_build t
some_given (check t) = every_table_has_an_answer_to_a_check t
some_given (locate t x) = every_position_has_an_answer t x
some_given (evaluate t x) = every_position_has_an_answer t x
some_given (float_answer t x) = every_float_answer_is_refused_or_not t x
some_given (changed_points c t) = every_change_has_an_answer c t
some_given (point made c t) = every_change_has_an_answer c t

module _ {I : Implementation} (d : Demand1 I) (call : Call) (o : Outcome call) (may : I.May call o) where
  pub its_given : Given (CauseOf call) (order_of call) o.number o.place
  its_given = let g = some_given call in known o.number refl g.number g.place g.given
    where
      known : (k : ℕ) → o.number ≡ k → (n p : ℕ) → Given (CauseOf call) (order_of call) n p → Given (CauseOf call) (order_of call) o.number o.place
      known zero e zero p g = subst₂ (Given (CauseOf call) (order_of call)) (sym e) (passes_at_0 refl g ∙ sym (d.done_at_place_0 may e)) g
      known (suc k) e zero p g = absurd (omega (arith, ((refused_exactly g (suc k) o.place (omega arith)).1 ((d.refused_exactly_then may (suc k) o.place (omega arith)).0 (e, refl))).0))
      known k e (suc n) p g = let same = its_refusal d call o may (omega arith) g in subst₂ (Given (CauseOf call) (order_of call)) (sym same.0) (sym same.1) g

-- ---- a verdict

-- a finding that cannot be any other is `bends`
no_other : (finding : Finding) → ((finding ≡ bends → ⊥) → ⊥) → finding ≡ bends
no_other rising f = absurd (f (not_bends tt))
no_other falling f = absurd (f (not_bends tt))
no_other flat f = absurd (f (not_bends tt))
no_other bends f = refl
no_other Finding.none f = absurd (f (not_bends tt))

module _ {I : Implementation} (d : Demand1 I) (e : Demand2 I) (f : Document01 I) {s : ℕ} {h z m n : ℤ} (o : Outcome (judge s h z m n)) (may : I.May (judge s h z m n) o) where
  abbrev its_ruling : Ruling
  its_ruling = ruling o.number o.place o.answer

  same_ruling : {number place : ℕ} {finding : Finding} → Judged s h z m n (ruling number place finding) → o.answer ≡ finding → ruling number place finding ≡ its_ruling
  same_ruling {number} {place} j a = let g = one_given (alone j) (its_given d (judge s h z m n) o may) in λ i. ruling (g.0 i) (g.1 i) (sym a i)

  refused_so : {number place : ℕ} {finding : Finding} → Judged s h z m n (ruling number place finding) → (number ≡ 0 → ⊥) → o.answer ≡ Finding.none
  refused_so j k = f.a_refused_call_answers_nothing may (λ e₀. k ((one_given (alone j) (its_given d (judge s h z m n) o may)).0 ∙ e₀))

  its_verdict : {a : Ruling} → Judged s h z m n a → Judged s h z m n its_ruling
  its_verdict (unit_refused k) = subst (Judged s h z m n) (same_ruling (unit_refused k) (refused_so (unit_refused k) (λ z. omega (arith, z)))) (unit_refused k)
  its_verdict (width_refused u k) = subst (Judged s h z m n) (same_ruling (width_refused u k) (refused_so (width_refused u k) (λ z. omega (arith, z)))) (width_refused u k)
  its_verdict (rise_refused u w k) = subst (Judged s h z m n) (same_ruling (rise_refused u w k) (refused_so (rise_refused u w k) (λ z. omega (arith, z)))) (rise_refused u w k)
  its_verdict (monotone u w r k) = subst (Judged s h z m n) (same_ruling (monotone u w r k) (leans (e.and_is_called_by_its_rise u w r may (no_slope_against k)))) (monotone u w r k)
    where
      leans : {finding : Finding} → CalledByItsRise z finding → finding ≡ leaning z
      leans (it_rises p) = ap finding_of (one_ruling (is_rising u w r p k) (monotone u w r k))
      leans (it_falls p) = ap finding_of (one_ruling (is_falling u w r p k) (monotone u w r k))
      leans (it_is_flat p) = ap finding_of (one_ruling (is_flat u w r p k) (monotone u w r k))
  its_verdict (bent u w r k) = subst (Judged s h z m n) (same_ruling (bent u w r k) (no_other o.answer (λ y. k (monotone_without ((e.a_piece_gets_a_yes_exactly_then u w r may).0 y))))) (bent u w r k)

-- ---- slopes that are built

module _ {U : ℤ} {ks vs : List ℤ} (u : pos 0 <ℤ U) (p : PointsWithin ks vs) where
  width : (i : ℕ) → i + 1 < length ks → pos 0 <ℤ step ks i
  width i l = 0<_width (p.widths i l)

  one_slope : (i : ℕ) {s r : ℤ} → i < length ks → RightSlope U ks vs i s → RightSlope U ks vs i r → s ≡ r
  one_slope i {s} {r} l a b = ⊎_elim two (three i l a b) (eq-or-lt_of_le p.count.low)
    where
      two : 2 ≡ length ks → s ≡ r
      two n = one_in_units (width 0 (omega arith)) (a.of_two (sym n)) (b.of_two (sym n))

      three : (i : ℕ) → i < length ks → RightSlope U ks vs i s → RightSlope U ks vs i r → 2 < length ks → s ≡ r
      three zero l a b n = one_end (width 0 (omega arith)) (width 1 (omega arith)) (a.first refl n) (b.first refl n)
      three (suc zero) l a b n = one_mean (width 0 (omega arith)) (width 1 (omega arith)) (a.inner 0 refl n) (b.inner 0 refl n)
      three (suc (suc j)) l a b n = ⊎_elim at_the_end between (eq-or-lt_of_le l)
        where
          at_the_end : suc (suc (suc j)) ≡ length ks → s ≡ r
          at_the_end e = one_end (width (j + 1) (omega arith)) (width j (omega arith)) (a.last j (omega arith) (omega arith)) (b.last j (omega arith) (omega arith))

          between : suc (suc (suc j)) < length ks → s ≡ r
          between m = one_mean (width (suc j) (omega arith)) (width (suc (suc j)) (omega arith)) (a.inner (suc j) (omega arith) (omega arith)) (b.inner (suc j) (omega arith) (omega arith))

  built_so : {slopes : List ℤ} → RightSlopes U ks vs slopes → slopes ≡ built_slopes U ks vs
  built_so {slopes} r =
      ext_get_or (pos 0) slopes (built_slopes U ks vs) (r.as_many ∙ sym (tab_length (length ks) (built_slope U ks vs)))
      (λ i l. one_slope i (in_knots i l) (r.each i (in_knots i l)) (right_slope u p i) ∙ sym (tab_entry (length ks) (built_slope U ks vs) i (in_knots i l)))
    where
      in_knots : (i : ℕ) → i < length slopes → i < length ks
      in_knots i l = omega (arith, l, r.as_many)

-- 0 or not
refused_or_not : (n : ℕ) → (n ≡ 0) ⊎ (n ≡ 0 → ⊥)
refused_or_not zero = inl refl
refused_or_not (suc n) = inr (λ e. omega (arith, e))

-- ---- what stands beside a refusal

module _ {A : Type 0} {Right : A → Type 0} {otherwise : A} {number : ℕ} {a : A} where
  answered_so : (number ≡ 0 → Right a) → ((number ≡ 0 → ⊥) → a ≡ otherwise) → Answered Right otherwise number a
  answered_so right none = ⊎_elim (λ e. right_answer e (right e)) (λ f. subst (Answered Right otherwise number) (sym (none f)) (refused_answer f)) (refused_or_not number)

-- ---- a change

-- a list with one entry changed
set_so : (k : ℕ) (x : ℤ) (before after : List ℤ) → length after ≡ length before → (k < length before) → entry after k ≡ x → ((i : ℕ) → (i ≡ k → ⊥) → entry after i ≡ entry before i) → after ≡ set before k x
set_so k x before after e l here others =
    ext_get_or (pos 0) after (set before k x) (e ∙ sym (length-set before k x)) (λ i m. ⊎_elim (at i) (λ f. others i f ∙ sym (get_or-set_other before k i x (pos 0) f)) (same_or_not i k))
  where
    at : (i : ℕ) → i ≡ k → entry after i ≡ entry (set before k x) i
    at i e = ap (entry after) e ∙ here ∙ sym (get_or-set_same before k x (pos 0) l) ∙ ap (entry (set before k x)) (sym e)

    same_or_not : (i j : ℕ) → (i ≡ j) ⊎ (i ≡ j → ⊥)
    same_or_not i j = ⊎_elim (λ l. inr (λ e. omega (arith, l, e))) (λ l. ⊎_elim (λ m. inr (λ e. omega (arith, m, e))) (λ m. inl (omega (arith, l, m))) (<_or-≤ j i)) (<_or-≤ i j)

module _ {c : Change} {t u : Table} {number place : ℕ} (e : number ≡ 0) (g : Given (CauseOf (point [] c t)) (order_of (point [] c t)) number place) (j : JustThis c t u) where
  there : c.point < length t.knots
  there = point_there c t e g

  knots_so : u.knots ≡ (changed_by c t).knots
  knots_so = set_so c.point c.knot t.knots u.knots j.as_many_knots there j.knot j.other_knots

  values_so : u.values ≡ (changed_by c t).values
  values_so = set_so c.point c.value t.values u.values j.as_many_values (omega (arith, there, (equally_long c t e g).values)) j.value j.other_values

  within : PointsWithin u.knots u.values
  within = subst₂ PointsWithin (sym knots_so) (sym values_so) (accepted_then c t e g)

  up : pos 0 <ℤ unit u.s
  up = 0<_unit (unit_size (subst UnitWithin (sym j.the_same_unit) (unit_then_and_before c t e g)))

  slopes_so : u.slopes ≡ renewed_slopes c t
  slopes_so = ext_get_or (pos 0) u.slopes (renewed_slopes c t) (j.as_many_slopes ∙ sym (tab_length (length t.slopes) _)) (λ i l. at i (in_slopes i l) (is_renewed_lem (length t.slopes) c.point i) ∙ sym (tab_entry (length t.slopes) _ i (in_slopes i l)))
    where
      in_slopes : (i : ℕ) → i < length u.slopes → i < length t.slopes
      in_slopes i l = omega (arith, l, j.as_many_slopes)

      in_knots : (i : ℕ) → i < length t.slopes → i < length t.knots
      in_knots i l = omega (arith, l, (equally_long c t e g).slopes)

      as_long : length t.slopes ≡ length t.knots
      as_long = (equally_long c t e g).slopes

      at : (i : ℕ) → i < length t.slopes → {b : Bool} → Decided (Renews (length t.slopes) c.point i) b
          → entry u.slopes i ≡ cond b (built_slope (unit t.s) (changed_by c t).knots (changed_by c t).values i) (entry t.slopes i)
      at i l (holds r) =
          one_slope up within i (omega (arith, in_knots i l, j.as_many_knots)) (j.the_renewed_slopes i (in_knots i l) (subst (λ (n : ℕ). Renews n c.point i) as_long r)) (right_slope up within i)
          ∙ ap₂ (λ (ks vs : List ℤ). built_slope (unit u.s) ks vs i) knots_so values_so
          ∙ ap (λ (s : ℕ). built_slope (unit s) (changed_by c t).knots (changed_by c t).values i) j.the_same_unit
      at i l (fails f) = j.other_slopes i (in_knots i l) (λ r. f (subst (λ (n : ℕ). Renews n c.point i) (sym as_long) r))

-- ======== NOTHING ELSE: what comes out of a call of an implementation that meets the demands is what ours promises

module _ {I : Implementation} (d : Demand1 I) (e : Demand2 I) (f : Demand3 I) (g : Document01 I) where
  pub nothing_else : (call : Call) (o : Outcome call) → I.May call o → Promised call o
  nothing_else (judge s h z m n) o may = its_verdict d e g o may (every_piece_has_a_verdict s h z m n).judged
  nothing_else (points t) o may = its_given d (points t) o may
  nothing_else (build t) o may =
      let r = its_given d (build t) o may in
      record {
        refusal = r;
        slopes = ⊎_elim (λ k. built_so (0<_unit (unit_size (unit_asked k r))) (accepted_points k r) (e.slopes_you_build may k) ∙ replaced _ _ k) (λ k. d.changes_no_list may k ∙ kept _ _ k) (refused_or_not o.number);
      }
  nothing_else (check t) o may = its_given d (check t) o may
  nothing_else (locate t x) o may = record { refusal = its_given d (locate t x) o may; piece = answered_so (g.the_piece_of_a_position may) (g.a_refused_call_answers_nothing may) }
  nothing_else (evaluate t x) o may =
      let r = its_given d (evaluate t x) o may in
      record { refusal = r; value = answered_so (λ k. the_exact_is_the_value (accepted_at k r).unit (accepted_at k r).limits (e.the_value_at_a_position may k)) (g.a_refused_call_answers_nothing may) }
  nothing_else (float_answer t x) o may = record { refusal = its_given d (float_answer t x) o may; answer = answered_so (g.what_the_drive_is_told may) (g.a_refused_call_answers_nothing may) }
  nothing_else (changed_points c t) o may = its_given d (changed_points c t) o may
  nothing_else (point made c t) o may =
      let r = its_given d (point made c t) o may in
      let just : (o.number ≡ 0) → JustThis c t o.lists = f.each_accepted_change_does_just_this may in
      let same : (o.number ≡ 0 → ⊥) → o.lists ≡ t = d.changes_no_list may in
      record {
        refusal = r;
        unit_kept = ⊎_elim (λ k. (just k).the_same_unit) (λ k. ap (λ (t : Table). t.s) (same k)) (refused_or_not o.number);
        knots = ⊎_elim (λ k. knots_so k r (just k) ∙ replaced _ _ k) (λ k. ap (λ (t : Table). t.knots) (same k) ∙ kept _ _ k) (refused_or_not o.number);
        values = ⊎_elim (λ k. values_so k r (just k) ∙ replaced _ _ k) (λ k. ap (λ (t : Table). t.values) (same k) ∙ kept _ _ k) (refused_or_not o.number);
        slopes = ⊎_elim (λ k. slopes_so k r (just k) ∙ replaced _ _ k) (λ k. ap (λ (t : Table). t.slopes) (same k) ∙ kept _ _ k) (refused_or_not o.number);
      }
