-- What our functions promise, in the words of their definitions, for every call at once. Both our implementations keep just that: for each call the contract is that
-- promise, which asks nothing of the caller.
use Rattle.std.specs.Prelude.{false, ◌≡◌, refl, List, [], ◌∷◌, ℕ, zero, suc, ◌<◌, ℤ, pos, negsuc, Float, Result, Ok, Err}
use Rattle.std.proofs.Common.{sym, subst, subst₂, arith, lit≤}
use Rattle.std.specs.Float.{fin, binary64}
use Rattle.std.specs.Float.Ieee.{of_int}
use Rattle.floats.proofs.Exactly.{plus_zero, cast_exactly}
use Rattle.rules.specs.declared.Cause.TheVariants.{SlopeUnit, Width, Rise}
use Rattle.rules.specs.declared.Cause.TheVariants as causes
use Rattle.rules.specs.declared.Refused.{Refused}
use Rattle.rules.specs.Causes.{number, place, answer_or, at_place_0}
use Rattle.rules.specs.Numbered.{Causes, Says, said_by}
use Rattle.rules.specs.Refusals.{Given, Answered, nothing, answered}
use Rattle.table.specs.declared.changed.Change.{Change}
use Rattle.table.specs.Table.{Table, table, Holds, build_order, check_order}
use Rattle.table.specs.WouldBe.{HoldsAfter, change_order}
use Rattle.piece.specs.declared.Verdict.{Verdict}
use Rattle.piece.specs.declared.Verdict.TheVariants.{Rising, Falling, Flat, Bends}
use Rattle.piece.specs.Promise.{Finding, rising, falling, flat, bends, none, Ruling, ruling, ruling_of, Judged, unit_refused, width_refused, rise_refused, monotone, bent}
use Rattle.slopes.specs.Slopes.{Built}
use Rattle.position.specs.Position.{Located, evaluation_order}
use Rattle.curve.specs.Curve.{Evaluated}
use Rattle.drive.specs.declared.Answer.{Answer}
use Rattle.drive.specs.declared.Answer.TheVariants.{Dwell, Move}
use Rattle.drive.specs.Drive.{Telling, dwell, move, told_of, Driving}
use Rattle.drive.specs.Refused.{told_anyway}
use Rattle.exports.specs.declared.records.Refusal.{Refusal}
use Rattle.change.specs.Change.{Changed}
use Rattle.exports.specs.declared.answers.Told.{Told}
use Rattle.exports.specs.Cases.{verdict_number, JudgedAs, judged, DrivenAs, dwells, moves}
use Rattle.demands.specs.Demands.{Call, judge, points, build, check, locate, evaluate, float_answer, changed_points, point, Outcome, Implementation}
use Rattle.demands.specs.Said.{points_say, checks_say, builds_say, changed_points_say, changes_say, locates_say, evaluates_say, drives_say}
use Rattle.demands.specs.Ours.{ours, ours_in-C, ByFloatAnswerC, CrossedAs, a_dwell, a_move}

abbrev pub Promised : (call : Call) → Outcome call → Type 0
Promised (judge s h z m n) o = Judged s h z m n (ruling o.number o.place o.answer)
Promised (points t) o = Given (Holds t) build_order o.number o.place
Promised (build t) o = Built t o.lists o.number o.place
Promised (check t) o = Given (Holds t) check_order o.number o.place
Promised (locate t x) o = Located t x o.number o.place o.answer
Promised (evaluate t x) o = Evaluated t x o.number o.place o.answer
Promised (float_answer t x) o = Driving t x o.number o.place o.answer
Promised (changed_points c t) o = Given (HoldsAfter c t) change_order o.number o.place
Promised (point made c t) o = Changed c t o.lists o.number o.place

pub record Keeps (I : Implementation) : Type 0 where
  pub promised : (call : Call) (o : Outcome call) → I.May call o → Promised call o
  pub allowed : (call : Call) (o : Outcome call) → Promised call o → I.May call o
  pub free : (call : Call) → I.Asks call

-- what holds of each kind of call holds of every one
each_call : (P : Call → Type 0) → ((s : ℕ) (h z m n : ℤ) → P (judge s h z m n)) → ((t : Table) → P (points t)) → ((t : Table) → P (build t)) → ((t : Table) → P (check t)) → ((t : Table) (x : ℤ) → P (locate t x)) → ((t : Table) (x : ℤ) → P (evaluate t x)) → ((t : Table) (x : ℤ) → P (float_answer t x)) → ((c : Change) (t : Table) → P (changed_points c t)) → ((made : List Change) (c : Change) (t : Table) → P (point made c t)) → (call : Call) → P call
each_call O J P B C L E F D Q (judge s h z m n) = J s h z m n
each_call O J P B C L E F D Q (points t) = P t
each_call O J P B C L E F D Q (build t) = B t
each_call O J P B C L E F D Q (check t) = C t
each_call O J P B C L E F D Q (locate t x) = L t x
each_call O J P B C L E F D Q (evaluate t x) = E t x
each_call O J P B C L E F D Q (float_answer t x) = F t x
each_call O J P B C L E F D Q (changed_points c t) = D c t
each_call O J P B C L E F D Q (point made c t) = Q made c t

-- a ruling is what some answer says
verdict_of : {s : ℕ} {h z m n : ℤ} {a : Ruling} → Judged s h z m n a → (r : Result Verdict Refused) × (ruling_of r ≡ a)
verdict_of (unit_refused f) = (Err (at_place_0 SlopeUnit), refl)
verdict_of (width_refused u f) = (Err (at_place_0 Width), refl)
verdict_of (rise_refused u w f) = (Err (at_place_0 Rise), refl)
verdict_of {z = pos zero} (monotone u w r o) = (Ok Flat, refl)
verdict_of {z = pos (suc z)} (monotone u w r o) = (Ok Rising, refl)
verdict_of {z = negsuc z} (monotone u w r o) = (Ok Falling, refl)
verdict_of (bent u w r f) = (Ok Bends, refl)

-- what a change leaves is promised of the lists, and its unit beside them
with_its_unit : {c : Change} {t u : Table} {number place : ℕ} → u.s ≡ t.s → Changed c t (table t.s u.knots u.values u.slopes) number place → Changed c t u number place
with_its_unit e p = record { refusal = p.refusal; unit_kept = e; knots = p.knots; values = p.values; slopes = p.slopes }

without_it : {c : Change} {t u : Table} {number place : ℕ} → Changed c t u number place → Changed c t (table t.s u.knots u.values u.slopes) number place
without_it p = record { refusal = p.refusal; unit_kept = refl; knots = p.knots; values = p.values; slopes = p.slopes }

-- the causes of each order
every_cause : Causes (12 ∷ 1 ∷ 2 ∷ 3 ∷ 4 ∷ 5 ∷ 6 ∷ 8 ∷ [])
every_cause =
    ((SlopeUnit, refl), ((causes.Lengths, refl), ((causes.Count, refl), ((Width, refl), ((Rise, refl), ((causes.Bend, refl), ((causes.Position, refl), ((causes.Size, refl), tt))))))))

of_a_build : Causes build_order
of_a_build = (every_cause.0, (every_cause.1.0, (every_cause.1.1.0, (every_cause.1.1.1.0, (every_cause.1.1.1.1.0, tt)))))

of_a_check : Causes check_order
of_a_check = (every_cause.0, (every_cause.1.0, (every_cause.1.1.0, (every_cause.1.1.1.0, (every_cause.1.1.1.1.0, (every_cause.1.1.1.1.1.0, tt))))))

of_an_evaluation : Causes evaluation_order
of_an_evaluation =
    (every_cause.0, (every_cause.1.0, (every_cause.1.1.0, (every_cause.1.1.1.0, (every_cause.1.1.1.1.0, (every_cause.1.1.1.1.1.0, (every_cause.1.1.1.1.1.1.0, tt)))))))

of_a_change : Causes change_order
of_a_change = (every_cause.0, (every_cause.1.0, (every_cause.1.1.0, ((causes.Point, refl), (every_cause.1.1.1.0, (every_cause.1.1.1.1.0, tt))))))

-- a refused call's answer is what stands for none
refused_none : {A : Type 0} {Right : A → Type 0} {none a : A} {n : ℕ} → 0 < n → Answered Right none n a → none ≡ a
refused_none l nothing = refl
refused_none l (answered r) = absurd (omega (arith, l))

-- what a definition says of a number, a place and an answer, it says of a result that says them
as_said : {A : Type 0} {none : A} {r : Result A Refused} {n p : ℕ} {a : A} (P : ℕ → ℕ → A → Type 0) → Says none r n p a → P n p a → P (number r) (place r) (answer_or none r)
as_said {A} {none} {r} {n} {p} {a} P s q =
    subst (λ (b : A). P (number r) (place r) b) (sym s.answer_is) (subst₂ (λ (k o : ℕ). P k o a) (sym s.number_is) (sym s.place_is) q)

abbrev +0 : Answer
+0 = Dwell (fin false 0 (pos 0))

-- what the drive is told, as a case of the enum: a dwell at 0 where it is refused
case_given : {t : Table} {x : ℤ} {n p : ℕ} {a : Telling} → Driving t x n p a → (b : Answer) × (told_of b ≡ a) × (0 < n → +0 ≡ b)
case_given {n = n} {a = dwell level} d = (Dwell level, refl, λ l. at_rest (refused_none l d.answer))
  where
    at_rest : dwell (fin false 0 (pos 0)) ≡ dwell level → +0 ≡ Dwell level
    at_rest e = cc
case_given {a = move from above below} d = (Move (record { left = from; numerator = above; denominator = below }), refl, λ l. absurd (apart (refused_none l d.answer)))
  where
    apart : dwell (fin false 0 (pos 0)) ≡ move from above below → ⊥
    apart e = cc

pub ours_keeps : Keeps ours
ours_keeps = record { promised = promised; allowed = allowed; free = each_call ours.Asks (λ s h z m n. tt) (λ t. tt) (λ t. tt) (λ t. tt) (λ t x. tt) (λ t x. tt) (λ t x. tt) (λ c t. tt) (λ made c t. tt) }
  where
    promised : (call : Call) (o : Outcome call) → ours.May call o → Promised call o
    promised (judge s h z m n) o p = subst (Judged s h z m n) p.says p.promised
    promised (points t) o p = points_say p
    promised (build t) o p = builds_say p
    promised (check t) o p = checks_say p
    promised (locate t x) o p = locates_say p
    promised (evaluate t x) o p = evaluates_say p
    promised (float_answer t x) o p = subst (Driving t x o.number o.place) p.says (drives_say p.promised)
    promised (changed_points c t) o p = changed_points_say p
    promised (point made c t) o p = with_its_unit p.the_unit (changes_say o.lists p.promised)

    allowed : (call : Call) (o : Outcome call) → Promised call o → ours.May call o
    allowed (judge s h z m n) o p = let r = verdict_of p in record { verdict = r.0; says = r.1; promised = subst (Judged s h z m n) (sym r.1) p }
    allowed (points t) o p = let r = said_by o.number o.place tt of_a_build p (λ _. refl) in (r.0, r.1, as_said (λ (n p : ℕ) _. Given (Holds t) build_order n p) r.1 p)
    allowed (build t) o p = let r = said_by o.number o.place tt of_a_build p.refusal (λ _. refl) in (r.0, r.1, as_said (λ (n p : ℕ) _. Built t o.lists n p) r.1 p)
    allowed (check t) o p = let r = said_by o.number o.place tt of_a_check p (λ _. refl) in (r.0, r.1, as_said (λ (n p : ℕ) _. Given (Holds t) check_order n p) r.1 p)
    allowed (locate t x) o p = let r = said_by o.number o.place o.answer of_an_evaluation p.refusal (λ (l : 0 < o.number). refused_none l p.piece) in (r.0, r.1, as_said (Located t x) r.1 p)
    allowed (evaluate t x) o p = let r = said_by o.number o.place o.answer of_an_evaluation p.refusal (λ (l : 0 < o.number). refused_none l p.value) in (r.0, r.1, as_said (Evaluated t x) r.1 p)
    allowed (float_answer t x) o p =
        let b = case_given p in
        let r = said_by o.number o.place b.0 every_cause p.refusal b.2 in
        record {
          told = b.0;
          says = b.1;
          promised = (r.0, r.1, subst (Driving t x (number r.0) (place r.0)) (sym (told_anyway r.0)) (as_said (λ (n p : ℕ) (a : Answer). Driving t x n p (told_of a)) r.1 (subst (Driving t x o.number o.place) (sym b.1) p)));
        }
    allowed (changed_points c t) o p = let r = said_by o.number o.place tt of_a_change p (λ _. refl) in (r.0, r.1, as_said (λ (n p : ℕ) _. Given (HoldsAfter c t) change_order n p) r.1 p)
    allowed (point made c t) o p =
        let q = without_it p in
        let r = said_by o.number o.place tt of_a_change q.refusal (λ _. refl) in
        record { promised = (r.0, r.1, as_said (λ (n p : ℕ) _. Changed c t (table t.s o.lists.knots o.lists.values o.lists.slopes) n p) r.1 q); the_unit = p.unit_kept }

-- ---- in C a verdict crosses as its number, and what the drive is told as a record

abbrev named : ℕ → Finding
named zero = none
named (suc zero) = rising
named (suc (suc zero)) = falling
named (suc (suc (suc zero))) = flat
named (suc (suc (suc (suc n)))) = bends

there_and_back : (w : Finding) → named (verdict_number w) ≡ w
there_and_back rising = refl
there_and_back falling = refl
there_and_back flat = refl
there_and_back bends = refl
there_and_back none = refl

by_number : {s : ℕ} {h z m n : ℤ} {k p v : ℕ} → JudgedAs s h z m n k p v → Judged s h z m n (ruling k p (named v))
by_number {s} {h} {z} {m} {n} {k} {p} (judged {w} j) = subst (λ (w : Finding). Judged s h z m n (ruling k p w)) (sym (there_and_back w)) j

module _ {t : Table} {x : ℤ} {k p : ℕ} where
  as_dwell : {kind : ℕ} {left above below : Float} → kind ≡ 0 → DrivenAs t x k p kind left above below → Driving t x k p (dwell left)
  as_dwell e (dwells d nought one) = d
  as_dwell e (moves d) = absurd (omega (arith, e))

  as_move : {kind : ℕ} {left above below : Float} → kind ≡ 1 → DrivenAs t x k p kind left above below → Driving t x k p (move left above below)
  as_move e (dwells d nought one) = absurd (omega (arith, e))
  as_move e (moves d) = d

crossed : {t : Table} {x : ℤ} {a : Telling} {r : Told} → CrossedAs a r → DrivenAs t x r.refusal.number r.refusal.place r.kind r.left r.numerator r.denominator → Driving t x r.refusal.number r.refusal.place a
crossed (a_dwell e) d = as_dwell e d
crossed (a_move e) d = as_move e d

crossing : {t : Table} {x : ℤ} {k p : ℕ} (a : Telling) → Driving t x k p a → ByFloatAnswerC t x (record { number = k; place = p; answer = a; lists = tt })
crossing {k = k} {p} (dwell level) d =
    record {
      told = record { refusal = record { number = k; place = p }; kind = 0; left = level; numerator = fin false 0 (pos 0); denominator = of_int binary64 (pos 1) };
      refused_by = refl;
      says = a_dwell refl;
      promised = dwells d (plus_zero binary64) (cast_exactly binary64 (pos 1) (record { size = lit≤ tt }));
    }
crossing {k = k} {p} (move from above below) d =
    record { told = record { refusal = record { number = k; place = p }; kind = 1; left = from; numerator = above; denominator = below }; refused_by = refl; says = a_move refl; promised = moves d }

pub ours_in-C_keeps : Keeps ours_in-C
ours_in-C_keeps = record { promised = promised; allowed = allowed; free = each_call ours_in-C.Asks (λ s h z m n. tt) (λ t. tt) (λ t. tt) (λ t. tt) (λ t x. tt) (λ t x. tt) (λ t x. tt) (λ c t. tt) (λ made c t. tt) }
  where
    promised : (call : Call) (o : Outcome call) → ours_in-C.May call o → Promised call o
    promised (judge s h z m n) o p = subst (λ (w : Finding). Judged s h z m n (ruling o.number o.place w)) (there_and_back o.answer) (by_number p)
    promised (points t) o p = p
    promised (build t) o p = p
    promised (check t) o p = p
    promised (locate t x) o p = p
    promised (evaluate t x) o p = p
    promised (float_answer t x) o p = subst (λ (r : Refusal). Driving t x r.number r.place o.answer) p.refused_by (crossed p.says p.promised)
    promised (changed_points c t) o p = p
    promised (point made c t) o p = with_its_unit p.the_unit p.promised

    allowed : (call : Call) (o : Outcome call) → Promised call o → ours_in-C.May call o
    allowed (judge s h z m n) o p = judged p
    allowed (points t) o p = p
    allowed (build t) o p = p
    allowed (check t) o p = p
    allowed (locate t x) o p = p
    allowed (evaluate t x) o p = p
    allowed (float_answer t x) o p = crossing o.answer p
    allowed (changed_points c t) o p = p
    allowed (point made c t) o p = record { promised = without_it p; the_unit = p.unit_kept }
