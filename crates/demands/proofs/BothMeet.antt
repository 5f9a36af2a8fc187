-- Ours meets the three demands: the Rattle functions, and those that C links. Both keep what the definitions of their promises say (`Kept.antt`), and whatever keeps that
-- meets the demands.
use Rattle.std.specs.Prelude.{Bool, true, false, ◌≡◌, refl, ◌↔◌, ◌⊎◌, List, [], ◌∷◌, ◌++◌, ℕ, ◌≤◌, T, ℤ, length}
use Rattle.std.proofs.Common.{sym, ◌∙◌, ap, subst, subst₂, inl, inr, ⊎_elim, arith, length-set}
use Rattle.cubic.proofs.Monotone.{monotone_stable}
use Rattle.rules.specs.Limits.{unit, UnitWithin, WidthWithin, RiseWithin}
use Rattle.rules.specs.Known.{unit_size, 0<_unit}
use Rattle.rules.specs.Refusals.{Given, done, refused, passed, Answered, answered}
use Rattle.integers.specs.Order.{<_or-≤}
use Rattle.rules.specs.Order.{one_given, went_on, passes_at_0, kept, answer_right}
use Rattle.integers.specs.Signs.{by_sign}
use Rattle.table.specs.declared.changed.Change.{Change}
use Rattle.table.specs.Table.{Table, table, entry, Holds, not_monotone, build_order, check_order}
use Rattle.table.specs.Accepted.{PointsWithin, unit_asked, accepted_points, accepted_table}
use Rattle.table.specs.Found.{every_table_has_an_answer_to_a_build, every_table_has_an_answer_to_a_check, every_change_has_an_answer}
use Rattle.table.specs.WouldBe.{changed_by}
use Rattle.table.specs.AfterChange.{as_changed, unit_then_and_before, accepted_then}
use Rattle.piece.specs.Found.{every_piece_has_a_verdict}
use Rattle.piece.specs.Promise.{Finding, rising, falling, flat, bends, Ruling, ruling, ruling_of, Judged, unit_refused, width_refused, rise_refused, monotone, bent}
use Rattle.piece.specs.Leaning.{is_rising, is_falling, is_flat}
use Rattle.piece.specs.Determined.{one_ruling}
use Rattle.slopes.specs.Slopes.{built_slope, Built}
use Rattle.slopes.specs.Found.{every_build_has_an_answer}
use Rattle.slopes.specs.Put.{tab_length, tab_entry}
use Rattle.slopes.specs.Determined.{one_build}
use Rattle.slopes.specs.EveryPiece.{a_built_table_passes_the_table_check}
use Rattle.position.specs.Found.{every_position_is_located}
use Rattle.position.specs.Refused.{accepted_at}
use Rattle.curve.specs.Found.{every_evaluation_has_an_answer}
use Rattle.drive.specs.Found.{every_float_answer_of_32_bit_values_tells}
use Rattle.curve.specs.Curve.{Evaluated}
use Rattle.change.specs.Found.{every_change_leaves_a_table}
use Rattle.change.specs.Change.{Changed}
use Rattle.change.specs.Chain as Chain
use Rattle.change.specs.WhatIsWritten.{the_point_holds_the_new_knot, the_point_holds_the_new_value, the_slopes_it_renews_are_as_built, no_other_knot_changes, no_other_value_changes, no_other_slope_changes}
use Rattle.change.specs.RefusedAsABuild.{made_only_then, made_then}
use Rattle.demands.specs.Demands.{Call, judge, points, build, check, locate, evaluate, float_answer, changed_points, point, Outcome, Implementation, order_of, HoldsAlone, no_such_unit, width_outside, rise_outside, CauseOf, NoneHolds, opposite_ends, LooksAt, its_points, a_build, a_check, a_piece, a_value, a_float_answer, its_changed_points, a_change, lent, MayComeIn, Demand1, CalledByItsRise, it_rises, it_falls, it_is_flat, NoSlopeAgainstItsRise, NoneAgainst, RightSlope, RightSlopes, ExactRounded, Demand2, ChainOf, none, next, JustThis, Demand3, nothing, Document01}
use Rattle.demands.specs.Ours.{ours, ours_in-C}
use Rattle.demands.specs.Kept.{Promised, Keeps, ours_keeps, ours_in-C_keeps}
use Rattle.demands.specs.ByOrder.{refused_exactly, none_given}
use Rattle.demands.specs.Refuting.{apart}
use Rattle.demands.specs.Cubic.{no_slope_against, monotone_without}
use Rattle.demands.specs.Shown.{by_a_build, by_a_check, by_an_evaluation, by_a_float_answer, right_slope}
use Rattle.demands.specs.Values.{the_value_is_exact}

-- ---- the parts of a ruling

abbrev pub number_of : Ruling → ℕ
number_of (ruling number place finding) = number

abbrev pub place_of : Ruling → ℕ
place_of (ruling number place finding) = place

abbrev pub finding_of : Ruling → Finding
finding_of (ruling number place finding) = finding

in_full : (a : Ruling) → a ≡ ruling (number_of a) (place_of a) (finding_of a)
in_full (ruling number place finding) = refl

-- ---- each call gives its refusal by one rule

pub unit_taken : {s : ℕ} {h z : ℤ} → UnitWithin s → (p : ℕ) → HoldsAlone s h z 12 p → ⊥
unit_taken u p (no_such_unit f) = f u

pub width_taken : {s : ℕ} {h z : ℤ} → WidthWithin h → (p : ℕ) → HoldsAlone s h z 3 p → ⊥
width_taken w p (width_outside f) = f w

pub rise_taken : {s : ℕ} {h z : ℤ} → RiseWithin z → (p : ℕ) → HoldsAlone s h z 4 p → ⊥
rise_taken r p (rise_outside f) = f r

pub alone : {s : ℕ} {h z m n : ℤ} {k p : ℕ} {finding : Finding} → Judged s h z m n (ruling k p finding) → Given (HoldsAlone s h z) (12 ∷ 3 ∷ 4 ∷ []) k p
alone (unit_refused f) = refused (no_such_unit f) (λ _ l _. absurd (omega (arith, l)))
alone (width_refused u f) = passed (unit_taken u) (refused (width_outside f) (λ _ l _. absurd (omega (arith, l))))
alone (rise_refused u w f) = passed (unit_taken u) (passed (width_taken w) (refused (rise_outside f) (λ _ l _. absurd (omega (arith, l)))))
alone (monotone u w r o) = passed (unit_taken u) (passed (width_taken w) (passed (rise_taken r) done))
alone (bent u w r f) = passed (unit_taken u) (passed (width_taken w) (passed (rise_taken r) done))

pub by_the_order : (call : Call) (o : Outcome call) → Promised call o → Given (CauseOf call) (order_of call) o.number o.place
by_the_order (judge s h z m n) o p = alone p
by_the_order (points t) o p = p
by_the_order (build t) o p = p.refusal
by_the_order (check t) o p = p
by_the_order (locate t x) o p = p.refusal
by_the_order (evaluate t x) o p = p.refusal
by_the_order (float_answer t x) o p = p.refusal
by_the_order (changed_points c t) o p = p
by_the_order (point made c t) o p = p.refusal

-- ---- 1

some_outcome : (call : Call) → MayComeIn call → (o : Outcome call) × Promised call o
some_outcome (judge s h z m n) c = let r = every_piece_has_a_verdict s h z m n in
    (record { number = number_of (ruling_of r.verdict); place = place_of (ruling_of r.verdict); answer = finding_of (ruling_of r.verdict); lists = tt }, subst (Judged s h z m n) (in_full (ruling_of r.verdict)) r.judged)
some_outcome (points t) c = let g = every_table_has_an_answer_to_a_build t in (record { number = g.number; place = g.place; answer = tt; lists = tt }, g.given)
some_outcome (build t) c = let b = every_build_has_an_answer t in (record { number = b.number; place = b.place; answer = tt; lists = b.after }, b.built)
some_outcome (check t) c = let g = every_table_has_an_answer_to_a_check t in (record { number = g.number; place = g.place; answer = tt; lists = tt }, g.given)
some_outcome (locate t x) c = let l = every_position_is_located t x in (record { number = l.number; place = l.place; answer = l.piece; lists = tt }, l.located)
some_outcome (evaluate t x) c = let e = every_evaluation_has_an_answer t x in (record { number = e.number; place = e.place; answer = e.value; lists = tt }, e.evaluated)
some_outcome (float_answer t x) c = let d = every_float_answer_of_32_bit_values_tells t x c in (record { number = d.number; place = d.place; answer = d.told; lists = tt }, d.driving)
some_outcome (changed_points c t) _ = let g = every_change_has_an_answer c t in (record { number = g.number; place = g.place; answer = tt; lists = tt }, g.given)
some_outcome (point made c t) _ = let u = every_change_leaves_a_table c t in (record { number = u.number; place = u.place; answer = tt; lists = u.after }, u.changed)

at_opposite_ends : {s : ℕ} {v w m n : ℤ} {call : Call} → UnitWithin s → LooksAt (opposite_ends s v w m n) call → Given (CauseOf call) (order_of call) 3 0
at_opposite_ends {v = v} {w} {m} {n} u its_points = by_a_build u v w m n
at_opposite_ends {v = v} {w} {m} {n} u a_build = by_a_build u v w m n
at_opposite_ends {v = v} {w} {m} {n} u a_check = by_a_check u v w m n
at_opposite_ends {v = v} {w} {m} {n} u (a_piece x) = by_an_evaluation u v w m n x
at_opposite_ends {v = v} {w} {m} {n} u (a_value x) = by_an_evaluation u v w m n x
at_opposite_ends {v = v} {w} {m} {n} u (a_float_answer x) = by_a_float_answer u v w m n x
at_opposite_ends {v = v} {w} {m} {n} u (its_changed_points {c} {before} l e) = as_changed c before l (subst (λ (t : Table). Given (Holds t) build_order 3 0) (sym e) (by_a_build u v w m n))
at_opposite_ends {v = v} {w} {m} {n} u (a_change {c = c} {before} l e) = as_changed c before l (subst (λ (t : Table). Given (Holds t) build_order 3 0) (sym e) (by_a_build u v w m n))

untouched : (call : Call) (o : Outcome call) → Promised call o → (o.number ≡ 0 → ⊥) → o.lists ≡ lent call
untouched (judge s h z m n) o p f = refl
untouched (points t) o p f = refl
untouched (build t) o p f = p.slopes ∙ sym (kept _ _ f)
untouched (check t) o p f = refl
untouched (locate t x) o p f = refl
untouched (evaluate t x) o p f = refl
untouched (float_answer t x) o p f = refl
untouched (changed_points c t) o p f = refl
untouched (point made c t) o p f =
    let knots = p.knots ∙ sym (kept _ _ f) in
    let values = p.values ∙ sym (kept _ _ f) in
    let slopes = p.slopes ∙ sym (kept _ _ f) in
    let s = p.unit_kept in
    λ i. record { s = s i; knots = knots i; values = values i; slopes = slopes i }

-- ---- 2

-- any finding but `bends`
abbrev pub straight : Finding → Bool
straight rising = true
straight falling = true
straight flat = true
straight bends = false
straight Finding.none = true

pub not_bends : {finding : Finding} → T (straight finding) → finding ≡ bends → ⊥
not_bends t e = apart straight e t tt

module _ {s : ℕ} {h z m n : ℤ} {number place : ℕ} {finding : Finding} (u : UnitWithin s) (w : WidthWithin h) (l : RiseWithin z) (j : Judged s h z m n (ruling number place finding)) where
  called_by_its_rise : NoSlopeAgainstItsRise (unit s) h z m n → CalledByItsRise z finding
  called_by_its_rise s =
      let o = monotone_without s in
      by_sign z (λ p. subst (CalledByItsRise z) (ap finding_of (one_ruling (is_rising u w l p o) j)) (it_rises p)) (λ p. subst (CalledByItsRise z) (ap finding_of (one_ruling (is_falling u w l p o) j)) (it_falls p))
      (λ e. subst (CalledByItsRise z) (ap finding_of (one_ruling (is_flat u w l e o) j)) (it_is_flat e))

  a_yes_exactly_then : (finding ≡ bends → ⊥) ↔ NoSlopeAgainstItsRise (unit s) h z m n
  a_yes_exactly_then = (
    λ y. no_slope_against (monotone_stable (λ f. y (ap finding_of (one_ruling j (bent u w l f))))),
    λ s e. no_bend (subst (CalledByItsRise z) e (called_by_its_rise s)),
  )
    where
      no_bend : CalledByItsRise z bends → ⊥
      no_bend c = elim c [ ]

a_table_by_its_promise : {t : Table} {number place : ℕ} → NoneHolds (Holds t) build_order → Given (Holds t) check_order number place → (number ≡ 0) ↔ NoneAgainst t
a_table_by_its_promise {t} limits g = (
  λ e i l. no_slope_against ((accepted_table e g).pieces i l),
  λ s. (one_given g (went_on refl (none_given limits) (passed (no_bend s) done))).0,
)
  where
    no_bend : NoneAgainst t → (i : ℕ) → Holds t 5 i → ⊥
    no_bend s i (not_monotone l f) = f (monotone_without (s i l))

module _ {t : Table} {after : List ℤ} {number place : ℕ} (e : number ≡ 0) (b : Built t after number place) where
  done_so : Built t after 0 place
  done_so = subst (λ (n : ℕ). Built t after n place) e b

  its_slopes_are_right : RightSlopes (unit t.s) t.knots t.values after
  its_slopes_are_right =
      record {
        as_many = ap length done_so.slopes ∙ tab_length (length t.knots) built;
        each = λ i l. subst (RightSlope (unit t.s) t.knots t.values i) (sym (ap (λ (list : List ℤ). entry list i) done_so.slopes ∙ tab_entry (length t.knots) built i l))
            (right_slope (0<_unit (unit_size (unit_asked refl done_so.refusal))) (accepted_points refl done_so.refusal) i);
      }
    where
      built : ℕ → ℤ
      built = built_slope (unit t.s) t.knots t.values

pub its_value_is_exact : {t : Table} {x v : ℤ} {number place : ℕ} → number ≡ 0 → Evaluated t x number place v → ExactRounded t x v
its_value_is_exact e p = the_value_is_exact (accepted_at e p.refusal).unit (accepted_at e p.refusal).limits (answer_right e p.value)

-- ---- 3

-- the limits of the points that an accepted change leaves
within_then : {c : Change} {before after : Table} {place : ℕ} → Changed c before after 0 place → PointsWithin after.knots after.values
within_then {c} {before} change = subst₂ PointsWithin (sym change.knots) (sym change.values) (accepted_then c before refl change.refusal)

unit_then : {c : Change} {before after : Table} {place : ℕ} → Changed c before after 0 place → UnitWithin after.s
unit_then {c} {before} change = subst UnitWithin (sym change.unit_kept) (unit_then_and_before c before refl change.refusal)

just_this : {c : Change} {before after : Table} {number place : ℕ} → number ≡ 0 → Changed c before after number place → JustThis c before after
just_this {c} {before} {after} {place = place} e p =
    let change = subst (λ (n : ℕ). Changed c before after n place) e p in
    record {
      knot = the_point_holds_the_new_knot change;
      value = the_point_holds_the_new_value change;
      the_renewed_slopes = λ i l near. subst (RightSlope (unit after.s) after.knots after.values i) (sym (the_slopes_it_renews_are_as_built change i l near)) (right_slope (0<_unit (unit_size (unit_then change))) (within_then change) i);
      other_knots = no_other_knot_changes change;
      other_values = no_other_value_changes change;
      other_slopes = no_other_slope_changes change;
      as_many_knots = ap length change.knots ∙ length-set before.knots c.point c.knot;
      as_many_values = ap length change.values ∙ length-set before.values c.point c.value;
      as_many_slopes = ap length change.slopes ∙ tab_length (length before.slopes) _;
      the_same_unit = change.unit_kept;
    }

refused_as_a_build : {c : Change} {before after : Table} {built : List ℤ} {number place m q : ℕ} → Changed c before after number place
    → Built (changed_by c before) built m q → (number ≡ 0 → ⊥) ↔ ((m ≡ 0 → ⊥) ⊎ (length before.knots ≤ c.point))
refused_as_a_build {c} {before} change afresh = (
  λ f. ⊎_elim (λ l. inl (λ e. f (made_then change afresh l e))) inr (<_or-≤ c.point (length before.knots)),
  λ r e. let made = made_only_then change afresh e in ⊎_elim (λ g. g made.1) (λ l. absurd (omega (arith, l, made.0))) r,
)

-- a chain of an implementation's changes is one of the changes that its promise allows
chained : {I : Implementation} → Keeps I → {made changes : List Change} {t u : Table} → ChainOf I made changes t u → Chain.Chain changes t u
chained k none = Chain.none
chained k (next {made} {c} {t = t} p more) = Chain.next (k.promised (point made c t) _ p) (chained k more)

-- ---- document 01

no_verdict : {s : ℕ} {h z m n : ℤ} {number place : ℕ} {finding : Finding} → Judged s h z m n (ruling number place finding) → (number ≡ 0 → ⊥) → finding ≡ Finding.none
no_verdict (unit_refused f) e = refl
no_verdict (width_refused u f) e = refl
no_verdict (rise_refused u w f) e = refl
no_verdict (monotone u w r o) e = absurd (e refl)
no_verdict (bent u w r f) e = absurd (e refl)

no_answer : {A : Type 0} {Right : A → Type 0} {otherwise a : A} {number : ℕ} → Answered Right otherwise number a → (number ≡ 0 → ⊥) → a ≡ otherwise
no_answer Answered.nothing e = refl
no_answer (answered r) e = absurd (e refl)

answers_nothing_where_refused : (call : Call) (o : Outcome call) → Promised call o → (o.number ≡ 0 → ⊥) → o.answer ≡ nothing call
answers_nothing_where_refused (judge s h z m n) o p f = no_verdict p f
answers_nothing_where_refused (points t) o p f = refl
answers_nothing_where_refused (build t) o p f = refl
answers_nothing_where_refused (check t) o p f = refl
answers_nothing_where_refused (locate t x) o p f = no_answer p.piece f
answers_nothing_where_refused (evaluate t x) o p f = no_answer p.value f
answers_nothing_where_refused (float_answer t x) o p f = no_answer p.answer f
answers_nothing_where_refused (changed_points c t) o p f = refl
answers_nothing_where_refused (point made c t) o p f = refl

-- ---- so whatever keeps the promises meets the demands

module _ {I : Implementation} (k : Keeps I) where
  pub demand_1 : Demand1 I
  demand_1 = record {
    any_may_come_in = λ call c. let o = some_outcome call c in (o.0, k.allowed call o.0 o.1);
    counts_at_opposite_ends_are_refused = λ {s} {v} {w} {m} {n} {call} u l p. one_given (by_the_order call _ (k.promised call _ p)) (at_opposite_ends u l);
    nobody_is_asked = k.free;
    refused_exactly_then = λ {call} p. refused_exactly (by_the_order call _ (k.promised call _ p));
    done_at_place_0 = λ {call} p e. passes_at_0 e (by_the_order call _ (k.promised call _ p));
    changes_no_list = λ {call} p. untouched call _ (k.promised call _ p);
  }

  pub demand_2 : Demand2 I
  demand_2 = record {
    a_piece_gets_a_yes_exactly_then = λ {s} {h} {z} {m} {n} u w l p. a_yes_exactly_then u w l (k.promised (judge s h z m n) _ p);
    and_is_called_by_its_rise = λ {s} {h} {z} {m} {n} u w l p. called_by_its_rise u w l (k.promised (judge s h z m n) _ p);
    so_does_a_table = λ {t} limits p. a_table_by_its_promise limits (k.promised (check t) _ p);
    slopes_you_build = λ {t} p e. its_slopes_are_right e (k.promised (build t) _ p);
    get_a_yes_always = λ {t} {o} p e q. (one_given (k.promised (check (table t.s t.knots t.values o.lists)) _ q) (a_built_table_passes_the_table_check (done_so e (k.promised (build t) _ p)))).0;
    the_value_at_a_position = λ {t} {x} p e. its_value_is_exact e (k.promised (evaluate t x) _ p);
  }

  pub demand_3 : Demand3 I
  demand_3 = record {
    the_slopes_equal_those_built_afresh = λ {t} {u = u} {again} b e chain l p.
        let same = one_build (k.promised (build (table u.s u.knots u.values again)) _ p) (Chain.the_slopes_equal_those_built_afresh (done_so e (k.promised (build t) _ b)) (chained k chain) l) in
        (same.0, same.2);
    each_accepted_change_does_just_this = λ {made} {c} {t} p e. just_this e (k.promised (point made c t) _ p);
    refused_exactly_as_a_build = λ {made} {c} {t} p b. refused_as_a_build (k.promised (point made c t) _ p) (k.promised (build (changed_by c t)) _ b);
  }

  pub document_01 : Document01 I
  document_01 = record {
    a_refused_call_answers_nothing = λ {call} p. answers_nothing_where_refused call _ (k.promised call _ p);
    the_piece_of_a_position = λ {t} {x} p e. answer_right e (k.promised (locate t x) _ p).piece;
    what_the_drive_is_told = λ {t} {x} p e. answer_right e (k.promised (float_answer t x) _ p).answer;
  }

-- ======== Ours does

pub met : Demand1 ours × Demand2 ours × Demand3 ours × Document01 ours
met = (demand_1 ours_keeps, demand_2 ours_keeps, demand_3 ours_keeps, document_01 ours_keeps)

pub met_in-C : Demand1 ours_in-C × Demand2 ours_in-C × Demand3 ours_in-C × Document01 ours_in-C
met_in-C = (demand_1 ours_in-C_keeps, demand_2 ours_in-C_keeps, demand_3 ours_in-C_keeps, document_01 ours_in-C_keeps)

-- ======== "any number of times": every list of changes has a chain, of any implementation that meets the first demand

pub every_list_of_changes_has_a_chain : {I : Implementation} → Demand1 I → (made changes : List Change) (t : Table) → (u : Table) × ChainOf I made changes t u
every_list_of_changes_has_a_chain d made [] t = (t, none)
every_list_of_changes_has_a_chain d made (c ∷ more) t =
    let o = d.any_may_come_in (point made c t) tt in
    let rest = every_list_of_changes_has_a_chain d (made ++ c ∷ []) more o.0.lists in
    (rest.0, next o.1 rest.1)
