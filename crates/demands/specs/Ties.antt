-- "Every public answer is determined for every input, refusals too, together with each lent list after the call. Show that no two different results can satisfy a
-- promise": of every public function, by its own contract. `Tied` says that it asks nothing of its caller, and that two results which meet what it ensures are the same. A
-- result is what is returned and, where a list is lent to be changed, what it holds when the call returns. The functions with a `requires` are `TiedWhere` it is met.
use Rattle.std.specs.Prelude.{◌≡◌, refl, List, ℕ, ℤ, pos, false, Option, Some, Result, Ok, Err}
use Rattle.std.proofs.Common.{sym, ◌∙◌, ap, subst}
use Rattle.std.specs.Borrow.{Bor, MutBor}
use Rattle.std.specs.Float.{fin}
use Rattle.rules.specs.declared.limits.SlopeUnit.{SlopeUnit}
use Rattle.rules.specs.declared.limits.Extent.{Extent}
use Rattle.integers.specs.Decided.{one_decision}
use Rattle.integers.specs.Nearest.{one_rounded}
use Rattle.words.specs.Determined.{one_count, one_buffer}
use Rattle.lines.specs.Determined.{one_taken, one_line}
use Rattle.lists.specs.Determined.{one_set, one_list}
use Rattle.rules.specs.declared.Refused.{Refused}
use Rattle.rules.specs.Causes.{number, place, answer_or}
use Rattle.rules.specs.Numbered.{never_0, one_answer}
use Rattle.rules.specs.Refusals.{Given}
use Rattle.rules.specs.Order.{one_given}
use Rattle.piece.specs.declared.Cubic.{Cubic}
use Rattle.piece.specs.Cubic.{Coefficients}
use Rattle.piece.specs.Determined.{one_verdict}
use Rattle.table.specs.Table.{Table}
use Rattle.table.specs.Accepted.{PointsWithin}
use Rattle.slopes.specs.Determined.{one_build}
use Rattle.position.specs.declared.Spot.{Spot}
use Rattle.position.specs.declared.inside.Inside.{Inside}
use Rattle.position.specs.Inside.{FoundAt}
use Rattle.position.specs.Refused.{accepted_at}
use Rattle.position.specs.Pieces.{one_piece}
use Rattle.position.specs.Spot.{SpotOn, SoughtIn, outside, on}
use Rattle.position.specs.Determined.{one_place}
use Rattle.curve.specs.Determined.{one_evaluation}
use Rattle.drive.specs.declared.Answer.{Answer}
use Rattle.exports.specs.declared.records.Refusal.{Refusal}
use Rattle.drive.specs.declared.Answer.TheVariants.{Dwell}
use Rattle.drive.specs.Drive.{telling, Driving}
use Rattle.drive.specs.Refused.{told_anyway}
use Rattle.drive.specs.Determined.{one_driving, one_case}
use Rattle.change.specs.Determined.{one_change}
use Rattle.exports.specs.Determined.{one_judgement, one_told, one_span, one_read, one_read32}
use Rattle.integers.proofs.difference.Reads as integers-difference
use Rattle.integers.proofs.between.Reads as integers-between
use Rattle.integers.proofs.floor_div.Reads as integers-floor_div
use Rattle.integers.proofs.nearest_div.Reads as integers-nearest_div
use Rattle.words.proofs.find.Reads as words-find
use Rattle.words.proofs.content.Reads as words-content
use Rattle.words.proofs.next_word.Reads as words-next_word
use Rattle.words.proofs.count.Reads as words-count
use Rattle.words.proofs.part.Reads as words-part
use Rattle.words.proofs.append.Reads as words-append
use Rattle.decimals.proofs.whole.Reads as decimals-whole
use Rattle.decimals.proofs.whole32.Reads as decimals-whole32
use Rattle.decimals.proofs.append_natural.Reads as decimals-append_natural
use Rattle.decimals.proofs.append_whole.Reads as decimals-append_whole
use Rattle.decimals.proofs.append_whole32.Reads as decimals-append_whole32
use Rattle.answers.proofs.filling.SignedFromU64.from.Reads as answers-SignedFromU64-from
use Rattle.answers.proofs.filling.SignedFromI64.from.Reads as answers-SignedFromI64-from
use Rattle.answers.proofs.filling.SignedFromI32.from.Reads as answers-SignedFromI32-from
use Rattle.answers.proofs.fill.Reads as answers-fill
use Rattle.answers.proofs.entry.Reads as answers-entry
use Rattle.lines.proofs.take.Reads as lines-take
use Rattle.lists.proofs.set.Reads as lists-set
use Rattle.lists.proofs.append_row.Reads as lists-append_row
use Rattle.commands.proofs.parse.Reads as commands-parse
use Rattle.replies.proofs.append_reply.Reads as replies-append_reply
use Rattle.rules.proofs.Cause.number.Reads as rules-Cause-number
use Rattle.rules.proofs.Refused.by.Reads as rules-Refused-by
use Rattle.rules.proofs.limits.Extent.mirrored.Reads as rules-Extent-mirrored
use Rattle.rules.proofs.unit_within.Reads as rules-unit_within
use Rattle.rules.proofs.unit.Reads as rules-unit
use Rattle.rules.proofs.count_within.Reads as rules-count_within
use Rattle.rules.proofs.width_within.Reads as rules-width_within
use Rattle.rules.proofs.rise_within.Reads as rules-rise_within
use Rattle.piece.proofs.judge.Reads as piece-judge
use Rattle.piece.proofs.is_monotone.Reads as piece-is_monotone
use Rattle.piece.proofs.coefficients.Reads as piece-coefficients
use Rattle.table.proofs.points.Reads as table-points
use Rattle.table.proofs.check.Reads as table-check
use Rattle.table.proofs.changed_points.Reads as table-changed_points
use Rattle.table.proofs.step.Reads as table-step
use Rattle.table.proofs.good.GoodPoints.piece.Reads as table-GoodPoints-piece
use Rattle.slopes.proofs.build.Reads as slopes-build
use Rattle.slopes.proofs.renew.Reads as slopes-renew
use Rattle.position.proofs.locate.Reads as position-locate
use Rattle.position.proofs.find.Reads as position-find
use Rattle.position.proofs.inside.Inside.extent.Reads as position-Inside-extent
use Rattle.position.proofs.seek.Reads as position-seek
use Rattle.curve.proofs.evaluate.Reads as curve-evaluate
use Rattle.drive.proofs.float_answer.Reads as drive-float_answer
use Rattle.change.proofs.point.Reads as change-point
use Rattle.exports.proofs.negwafir_difference.Reads as exports-negwafir_difference
use Rattle.exports.proofs.negwafir_between.Reads as exports-negwafir_between
use Rattle.exports.proofs.negwafir_floor_div.Reads as exports-negwafir_floor_div
use Rattle.exports.proofs.negwafir_nearest_div.Reads as exports-negwafir_nearest_div
use Rattle.exports.proofs.negwafir_find.Reads as exports-negwafir_find
use Rattle.exports.proofs.negwafir_content.Reads as exports-negwafir_content
use Rattle.exports.proofs.negwafir_next_word.Reads as exports-negwafir_next_word
use Rattle.exports.proofs.negwafir_count_words.Reads as exports-negwafir_count_words
use Rattle.exports.proofs.negwafir_part.Reads as exports-negwafir_part
use Rattle.exports.proofs.negwafir_append.Reads as exports-negwafir_append
use Rattle.exports.proofs.negwafir_whole.Reads as exports-negwafir_whole
use Rattle.exports.proofs.negwafir_whole32.Reads as exports-negwafir_whole32
use Rattle.exports.proofs.negwafir_append_natural.Reads as exports-negwafir_append_natural
use Rattle.exports.proofs.negwafir_append_whole.Reads as exports-negwafir_append_whole
use Rattle.exports.proofs.negwafir_append_whole32.Reads as exports-negwafir_append_whole32
use Rattle.exports.proofs.negwafir_unit_within.Reads as exports-negwafir_unit_within
use Rattle.exports.proofs.negwafir_count_within.Reads as exports-negwafir_count_within
use Rattle.exports.proofs.negwafir_width_within.Reads as exports-negwafir_width_within
use Rattle.exports.proofs.negwafir_rise_within.Reads as exports-negwafir_rise_within
use Rattle.exports.proofs.negwafir_judge.Reads as exports-negwafir_judge
use Rattle.exports.proofs.negwafir_points.Reads as exports-negwafir_points
use Rattle.exports.proofs.negwafir_check.Reads as exports-negwafir_check
use Rattle.exports.proofs.negwafir_changed_points.Reads as exports-negwafir_changed_points
use Rattle.exports.proofs.negwafir_build.Reads as exports-negwafir_build
use Rattle.exports.proofs.negwafir_locate.Reads as exports-negwafir_locate
use Rattle.exports.proofs.negwafir_evaluate.Reads as exports-negwafir_evaluate
use Rattle.exports.proofs.negwafir_float_answer.Reads as exports-negwafir_float_answer
use Rattle.exports.proofs.negwafir_change_point.Reads as exports-negwafir_change_point

-- `Pre` and `Post` take the lifetimes of the lent lists and the arguments at the call, and `Post` what is returned and the arguments when the call returns. `seen` is what
-- of these two is the result.
abbrev pub Tied : {L W : Type 0} {A R S : L → Type 0} → ((κs : L) → A κs → Type 0) → ((κs : L) → A κs → R κs → S κs → Type 0) → ((κs : L) → R κs → S κs → W) → Type 0
Tied {L} {W} {A} {R} {S} Pre Post seen =
    ((κs : L) (a : A κs) → Pre κs a) × ((κs : L) (a : A κs) (r s : R κs) (x y : S κs) → Post κs a r x → Post κs a s y → seen κs r x ≡ seen κs s y)

abbrev pub TiedWhere : {L W : Type 0} {A R S : L → Type 0} → ((κs : L) → A κs → Type 0) → ((κs : L) → A κs → R κs → S κs → Type 0) → ((κs : L) → R κs → S κs → W) → Type 0
TiedWhere {L} {W} {A} {R} {S} Pre Post seen = (κs : L) (a : A κs) (r s : R κs) (x y : S κs) → Pre κs a → Post κs a r x → Post κs a s y → seen κs r x ≡ seen κs s y

-- what is returned; what a returned part of a list holds; and what is returned with the first list, or, of three lists behind a number, with the third or all three
abbrev pub result : {L R S : Type 0} → L → R → S → R
result κs r x = r

abbrev pub contents : {L X S : Type 0} → L → Bor X → S → X
contents κs r x = r.now

abbrev pub with_first : {L R X S : Type 0} → L → R → MutBor X × S → R × X
with_first κs r x = (r, x.0.now)

abbrev pub with_third : {L R N X Y Z S : Type 0} → L → R → N × (Bor X × (Bor Y × (MutBor Z × S))) → R × Z
with_third κs r x = (r, x.1.1.1.0.now)

abbrev pub with_three : {L R N X Y Z S : Type 0} → L → R → N × (MutBor X × (MutBor Y × (MutBor Z × S))) → R × (X × (Y × Z))
with_three κs r x = (r, (x.1.0.now, (x.1.1.0.now, x.1.1.1.0.now)))

-- of a slope unit its size, which is all that it has beside the proof that it is one; and what is left of slopes that stand behind a unit and good points
abbrev pub its_size : {L S : Type 0} → L → SlopeUnit → S → ℤ
its_size κs r x = r.size

-- so of an extent its width and its rise; and of a place that is found the size of its unit and the spot, or the refusal
abbrev pub its_numbers : {L S : Type 0} → L → Extent → S → ℤ × ℤ
its_numbers κs r x = (r.h, r.z)

abbrev pub place_or_refusal : Result Inside Refused → Result (ℤ × Spot) Refused
place_or_refusal (Ok at) = Ok (at.unit.size, at.spot)
place_or_refusal (Err r) = Err r

abbrev pub found : {L S : Type 0} → L → Result Inside Refused → S → Result (ℤ × Spot) Refused
found κs r x = place_or_refusal r

abbrev pub with_slopes : {L R N X Z S : Type 0} → L → R → N × (X × (MutBor Z × S)) → R × Z
with_slopes κs r x = (r, x.1.1.0.now)

abbrev resting_answer : Answer
resting_answer = Dwell (fin false 0 (pos 0))

-- what stands for a place where there is none
abbrev no_place : ℤ × Spot
no_place = (pos 0, record { piece = 0; left = pos 0; h = pos 0; z = pos 0; m = pos 0; n = pos 0; t = pos 0 })

-- ---- records, field by field

one_refusal : {H : ℕ → ℕ → Type 0} {order : List ℕ} {r s : Refusal} → Given H order r.number r.place → Given H order s.number s.place → r ≡ s
one_refusal p q = let e = one_given p q in λ i. record { number = e.0 i; place = e.1 i }

one_result : {H : ℕ → ℕ → Type 0} {order : List ℕ} {r s : Result Unit Refused} → Given H order (number r) (place r) → Given H order (number s) (place s) → r ≡ s
one_result {r = r} {s} p q = let e = one_given p q in one_answer tt r s e.0 e.1 refl

one_cubic : {U h z m n : ℤ} {r s : Cubic} → Coefficients U h z m n r.first r.second r.third → Coefficients U h z m n s.first s.second s.third → r ≡ s
one_cubic p q =
    let first = p.first_is ∙ sym q.first_is in
    let second = p.second_is ∙ sym q.second_is in
    let third = p.third_is ∙ sym q.third_is in
    λ i. record { first = first i; second = second i; third = third i }

one_spot : {ks vs ss : List ℤ} {x : ℤ} {r s : Spot} → r.piece ≡ s.piece → SpotOn ks vs ss r.piece x r.left r.h r.z r.m r.n r.t → SpotOn ks vs ss s.piece x s.left s.h s.z s.m s.n s.t → r ≡ s
one_spot {ks} {vs} {ss} {x} {r} {s} piece f q =
    let p = subst (λ (i : ℕ). SpotOn ks vs ss i x r.left r.h r.z r.m r.n r.t) piece f in
    let left = p.left_is ∙ sym q.left_is in
    let h = p.h_is ∙ sym q.h_is in
    let z = p.z_is ∙ sym q.z_is in
    let m = p.m_is ∙ sym q.m_is in
    let n = p.n_is ∙ sym q.n_is in
    let t = p.t_is ∙ sym q.t_is in
    λ i. record { piece = piece i; left = left i; h = h i; z = z i; m = m i; n = n i; t = t i }

one_sought : {ks vs ss : List ℤ} {x : ℤ} {r s : Option Spot} → PointsWithin ks vs → SoughtIn ks vs ss x r → SoughtIn ks vs ss x s → r ≡ s
one_sought a (outside f) (outside g) = refl
one_sought a (outside f) (on w p) = absurd (f w)
one_sought a (on w p) (outside f) = absurd (f w)
one_sought a (on w p) (on v q) = ap Some (one_spot (one_piece a p.belongs q.belongs) p q)

one_found : {t : Table} {x : ℤ} (r s : Result Inside Refused) → FoundAt t x r → FoundAt t x s → place_or_refusal r ≡ place_or_refusal s
one_found (Ok a) (Ok b) p q =
    let size = p.inside.unit_is ∙ sym q.inside.unit_is in
    let spot = one_spot (one_piece (accepted_at refl p.refusal).limits p.inside.spot.belongs q.inside.spot.belongs) p.inside.spot q.inside.spot in
    ap Ok (λ i. (size i, spot i))
one_found (Ok a) (Err s) p q = absurd (never_0 s.cause (sym (one_given p.refusal q.refusal).0))
one_found (Err r) (Ok b) p q = absurd (never_0 r.cause (one_given p.refusal q.refusal).0)
one_found (Err r) (Err s) p q = let e = one_given p.refusal q.refusal in one_answer no_place (Err r) (Err s) e.0 e.1 refl

one_driven : {t : Table} {x : ℤ} (r s : Result Answer Refused) → Driving t x (number r) (place r) (telling r) → Driving t x (number s) (place s) (telling s) → r ≡ s
one_driven r s p q =
    let e = one_driving p q in
    one_answer resting_answer r s e.0 e.1 (one_case (answer_or resting_answer r) (answer_or resting_answer s) (sym (told_anyway r) ∙ e.2 ∙ told_anyway s))

-- ---- integers

pub integers-difference_tied : Tied integers-difference.Pre integers-difference.Post result
integers-difference_tied = (λ κs a. tt, λ κs a r s x y p q. p ∙ sym q)

pub integers-between_tied : Tied integers-between.Pre integers-between.Post result
integers-between_tied = (λ κs a. tt, λ κs a r s x y p q. one_decision p q)

pub integers-floor_div_tied : Tied integers-floor_div.Pre integers-floor_div.Post result
integers-floor_div_tied = (λ κs a. tt, λ κs a r s x y p q. p.is ∙ sym q.is)

pub integers-nearest_div_tied : Tied integers-nearest_div.Pre integers-nearest_div.Post result
integers-nearest_div_tied = (λ κs a. tt, λ κs a r s x y p q. one_rounded p q)

-- ---- words

pub words-find_tied : Tied words-find.Pre words-find.Post result
words-find_tied = (λ κs a. tt, λ κs a r s x y p q. p ∙ sym q)

pub words-content_tied : Tied words-content.Pre words-content.Post contents
words-content_tied = (λ κs a. tt, λ κs a r s x y p q. p ∙ sym q)

pub words-next_word_tied : Tied words-next_word.Pre words-next_word.Post result
words-next_word_tied = (λ κs a. tt, λ κs a r s x y p q. p ∙ sym q)

pub words-count_tied : Tied words-count.Pre words-count.Post result
words-count_tied = (λ κs a. tt, λ κs a r s x y p q. p ∙ sym q)

pub words-part_tied : Tied words-part.Pre words-part.Post contents
words-part_tied = (λ κs a. tt, λ κs a r s x y p q. p ∙ sym q)

pub words-append_tied : Tied words-append.Pre words-append.Post with_first
words-append_tied = (λ κs a. tt, λ κs a r s x y p q. λ i. (one_count p q i, one_buffer p q i))

-- ---- decimals

pub decimals-whole_tied : Tied decimals-whole.Pre decimals-whole.Post result
decimals-whole_tied = (λ κs a. tt, λ κs a r s x y p q. p ∙ sym q)

pub decimals-whole32_tied : Tied decimals-whole32.Pre decimals-whole32.Post result
decimals-whole32_tied = (λ κs a. tt, λ κs a r s x y p q. p ∙ sym q)

pub decimals-append_natural_tied : Tied decimals-append_natural.Pre decimals-append_natural.Post with_first
decimals-append_natural_tied = (λ κs a. tt, λ κs a r s x y p q. λ i. (one_count p q i, one_buffer p q i))

pub decimals-append_whole_tied : Tied decimals-append_whole.Pre decimals-append_whole.Post with_first
decimals-append_whole_tied = (λ κs a. tt, λ κs a r s x y p q. λ i. (one_count p q i, one_buffer p q i))

pub decimals-append_whole32_tied : Tied decimals-append_whole32.Pre decimals-append_whole32.Post with_first
decimals-append_whole32_tied = (λ κs a. tt, λ κs a r s x y p q. λ i. (one_count p q i, one_buffer p q i))

-- ---- answers

pub answers-SignedFromU64-from_tied : Tied answers-SignedFromU64-from.Pre answers-SignedFromU64-from.Post result
answers-SignedFromU64-from_tied = (λ κs a. tt, λ κs a r s x y p q. p ∙ sym q)

pub answers-SignedFromI64-from_tied : Tied answers-SignedFromI64-from.Pre answers-SignedFromI64-from.Post result
answers-SignedFromI64-from_tied = (λ κs a. tt, λ κs a r s x y p q. p ∙ sym q)

pub answers-SignedFromI32-from_tied : Tied answers-SignedFromI32-from.Pre answers-SignedFromI32-from.Post result
answers-SignedFromI32-from_tied = (λ κs a. tt, λ κs a r s x y p q. p ∙ sym q)

pub answers-fill_tied : Tied answers-fill.Pre answers-fill.Post with_first
answers-fill_tied = (λ κs a. tt, λ κs a r s x y p q. λ i. (one_count p q i, one_buffer p q i))

pub answers-entry_tied : Tied answers-entry.Pre answers-entry.Post contents
answers-entry_tied = (λ κs a. tt, λ κs a r s x y p q. p ∙ sym q)

-- ---- lines, lists

pub lines-take_tied : Tied lines-take.Pre lines-take.Post with_first
lines-take_tied = (λ κs a. tt, λ κs a r s x y p q. λ i. (one_taken {r = r} {s = s} p q i, one_line {r = r} {s = s} p q i))

pub lists-set_tied : Tied lists-set.Pre lists-set.Post with_first
lists-set_tied = (λ κs a. tt, λ κs a r s x y p q. λ i. (one_set p q i, one_list p q i))

pub lists-append_row_tied : Tied lists-append_row.Pre lists-append_row.Post with_first
lists-append_row_tied = (λ κs a. tt, λ κs a r s x y p q. λ i. (one_count p q i, one_buffer p q i))

-- ---- commands

pub commands-parse_tied : Tied commands-parse.Pre commands-parse.Post result
commands-parse_tied = (λ κs a. tt, λ κs a r s x y p q. p ∙ sym q)

-- ---- replies

pub replies-append_reply_tied : Tied replies-append_reply.Pre replies-append_reply.Post with_first
replies-append_reply_tied = (λ κs a. tt, λ κs a r s x y p q. λ i. (one_count p q i, one_buffer p q i))

-- ---- rules

pub rules-Cause-number_tied : Tied rules-Cause-number.Pre rules-Cause-number.Post result
rules-Cause-number_tied = (λ κs a. tt, λ κs a r s x y p q. p ∙ sym q)

pub rules-Refused-by_tied : Tied rules-Refused-by.Pre rules-Refused-by.Post result
rules-Refused-by_tied = (λ κs a. tt, λ κs a r s x y p q. p ∙ sym q)

pub rules-Extent-mirrored_tied : Tied rules-Extent-mirrored.Pre rules-Extent-mirrored.Post its_numbers
rules-Extent-mirrored_tied = (λ κs a. tt, λ κs a r s x y p q. λ i. ((p.0 ∙ sym q.0) i, (p.1 ∙ sym q.1) i))

pub rules-unit_within_tied : Tied rules-unit_within.Pre rules-unit_within.Post result
rules-unit_within_tied = (λ κs a. tt, λ κs a r s x y p q. one_decision p q)

pub rules-unit_tied : TiedWhere rules-unit.Pre rules-unit.Post its_size
rules-unit_tied = λ κs a r s x y o p q. p ∙ sym q

pub rules-count_within_tied : Tied rules-count_within.Pre rules-count_within.Post result
rules-count_within_tied = (λ κs a. tt, λ κs a r s x y p q. one_decision p q)

pub rules-width_within_tied : Tied rules-width_within.Pre rules-width_within.Post result
rules-width_within_tied = (λ κs a. tt, λ κs a r s x y p q. one_decision p q)

pub rules-rise_within_tied : Tied rules-rise_within.Pre rules-rise_within.Post result
rules-rise_within_tied = (λ κs a. tt, λ κs a r s x y p q. one_decision p q)

-- ---- piece

pub piece-judge_tied : Tied piece-judge.Pre piece-judge.Post result
piece-judge_tied = (λ κs a. tt, λ κs a r s x y p q. one_verdict r s p q)

pub piece-is_monotone_tied : Tied piece-is_monotone.Pre piece-is_monotone.Post result
piece-is_monotone_tied = (λ κs a. tt, λ κs a r s x y p q. one_decision p q)

pub piece-coefficients_tied : Tied piece-coefficients.Pre piece-coefficients.Post result
piece-coefficients_tied = (λ κs a. tt, λ κs a r s x y p q. one_cubic p q)

-- ---- table

pub table-points_tied : Tied table-points.Pre table-points.Post result
table-points_tied = (λ κs a. tt, λ κs a r s x y p q. one_result p q)

pub table-check_tied : Tied table-check.Pre table-check.Post result
table-check_tied = (λ κs a. tt, λ κs a r s x y p q. one_result p q)

pub table-changed_points_tied : Tied table-changed_points.Pre table-changed_points.Post result
table-changed_points_tied = (λ κs a. tt, λ κs a r s x y p q. one_result p q)

pub table-step_tied : TiedWhere table-step.Pre table-step.Post result
table-step_tied = λ κs a r s x y o p q. p ∙ sym q

pub table-GoodPoints-piece_tied : TiedWhere table-GoodPoints-piece.Pre table-GoodPoints-piece.Post its_numbers
table-GoodPoints-piece_tied = λ κs a r s x y o p q. λ i. ((p.0 ∙ sym q.0) i, (p.1 ∙ sym q.1) i)

-- ---- slopes

pub slopes-build_tied : Tied slopes-build.Pre slopes-build.Post with_third
slopes-build_tied = (λ κs a. tt, λ κs a r s x y p q. let e = one_build p q in λ i. (one_answer tt r s e.0 e.1 refl i, e.2 i))

pub slopes-renew_tied : TiedWhere slopes-renew.Pre slopes-renew.Post with_slopes
slopes-renew_tied = λ κs a r s x y o p q. λ i. (tt, (p ∙ sym q) i)

-- ---- position

pub position-locate_tied : Tied position-locate.Pre position-locate.Post result
position-locate_tied = (λ κs a. tt, λ κs a r s x y p q. let e = one_place p q in one_answer 0 r s e.0 e.1 e.2)

pub position-find_tied : Tied position-find.Pre position-find.Post found
position-find_tied = (λ κs a. tt, λ κs a r s x y p q. one_found r s p q)

pub position-Inside-extent_tied : Tied position-Inside-extent.Pre position-Inside-extent.Post its_numbers
position-Inside-extent_tied = (λ κs a. tt, λ κs a r s x y p q. λ i. ((p.0 ∙ sym q.0) i, (p.1 ∙ sym q.1) i))

pub position-seek_tied : TiedWhere position-seek.Pre position-seek.Post result
position-seek_tied = λ κs a r s x y o p q. one_sought a.0.within p q

-- ---- curve

pub curve-evaluate_tied : Tied curve-evaluate.Pre curve-evaluate.Post result
curve-evaluate_tied = (λ κs a. tt, λ κs a r s x y p q. let e = one_evaluation p q in one_answer (pos 0) r s e.0 e.1 e.2)

-- ---- drive

pub drive-float_answer_tied : Tied drive-float_answer.Pre drive-float_answer.Post result
drive-float_answer_tied = (λ κs a. tt, λ κs a r s x y p q. one_driven r s p q)

-- ---- change

pub change-point_tied : Tied change-point.Pre change-point.Post with_three
change-point_tied = (λ κs a. tt, λ κs a r s x y p q. let e = one_change p q in λ i. (one_answer tt r s e.0 e.1 refl i, ((e.2 i).knots, ((e.2 i).values, (e.2 i).slopes))))

-- ---- exports

pub exports-negwafir_difference_tied : Tied exports-negwafir_difference.Pre exports-negwafir_difference.Post result
exports-negwafir_difference_tied = (λ κs a. tt, λ κs a r s x y p q. p ∙ sym q)

pub exports-negwafir_between_tied : Tied exports-negwafir_between.Pre exports-negwafir_between.Post result
exports-negwafir_between_tied = (λ κs a. tt, λ κs a r s x y p q. one_decision p q)

pub exports-negwafir_floor_div_tied : Tied exports-negwafir_floor_div.Pre exports-negwafir_floor_div.Post result
exports-negwafir_floor_div_tied = (λ κs a. tt, λ κs a r s x y p q. p.is ∙ sym q.is)

pub exports-negwafir_nearest_div_tied : Tied exports-negwafir_nearest_div.Pre exports-negwafir_nearest_div.Post result
exports-negwafir_nearest_div_tied = (λ κs a. tt, λ κs a r s x y p q. one_rounded p q)

pub exports-negwafir_find_tied : Tied exports-negwafir_find.Pre exports-negwafir_find.Post result
exports-negwafir_find_tied = (λ κs a. tt, λ κs a r s x y p q. p ∙ sym q)

pub exports-negwafir_content_tied : Tied exports-negwafir_content.Pre exports-negwafir_content.Post result
exports-negwafir_content_tied = (λ κs a. tt, λ κs a r s x y p q. p ∙ sym q)

pub exports-negwafir_next_word_tied : Tied exports-negwafir_next_word.Pre exports-negwafir_next_word.Post result
exports-negwafir_next_word_tied = (λ κs a. tt, λ κs a r s x y p q. one_span p q)

pub exports-negwafir_count_words_tied : Tied exports-negwafir_count_words.Pre exports-negwafir_count_words.Post result
exports-negwafir_count_words_tied = (λ κs a. tt, λ κs a r s x y p q. p ∙ sym q)

pub exports-negwafir_part_tied : Tied exports-negwafir_part.Pre exports-negwafir_part.Post result
exports-negwafir_part_tied = (λ κs a. tt, λ κs a r s x y p q. p ∙ sym q)

pub exports-negwafir_append_tied : Tied exports-negwafir_append.Pre exports-negwafir_append.Post with_first
exports-negwafir_append_tied = (λ κs a. tt, λ κs a r s x y p q. λ i. (one_count p q i, one_buffer p q i))

pub exports-negwafir_whole_tied : Tied exports-negwafir_whole.Pre exports-negwafir_whole.Post result
exports-negwafir_whole_tied = (λ κs a. tt, λ κs a r s x y p q. one_read p q)

pub exports-negwafir_whole32_tied : Tied exports-negwafir_whole32.Pre exports-negwafir_whole32.Post result
exports-negwafir_whole32_tied = (λ κs a. tt, λ κs a r s x y p q. one_read32 p q)

pub exports-negwafir_append_natural_tied : Tied exports-negwafir_append_natural.Pre exports-negwafir_append_natural.Post with_first
exports-negwafir_append_natural_tied = (λ κs a. tt, λ κs a r s x y p q. λ i. (one_count p q i, one_buffer p q i))

pub exports-negwafir_append_whole_tied : Tied exports-negwafir_append_whole.Pre exports-negwafir_append_whole.Post with_first
exports-negwafir_append_whole_tied = (λ κs a. tt, λ κs a r s x y p q. λ i. (one_count p q i, one_buffer p q i))

pub exports-negwafir_append_whole32_tied : Tied exports-negwafir_append_whole32.Pre exports-negwafir_append_whole32.Post with_first
exports-negwafir_append_whole32_tied = (λ κs a. tt, λ κs a r s x y p q. λ i. (one_count p q i, one_buffer p q i))

pub exports-negwafir_unit_within_tied : Tied exports-negwafir_unit_within.Pre exports-negwafir_unit_within.Post result
exports-negwafir_unit_within_tied = (λ κs a. tt, λ κs a r s x y p q. one_decision p q)

pub exports-negwafir_count_within_tied : Tied exports-negwafir_count_within.Pre exports-negwafir_count_within.Post result
exports-negwafir_count_within_tied = (λ κs a. tt, λ κs a r s x y p q. one_decision p q)

pub exports-negwafir_width_within_tied : Tied exports-negwafir_width_within.Pre exports-negwafir_width_within.Post result
exports-negwafir_width_within_tied = (λ κs a. tt, λ κs a r s x y p q. one_decision p q)

pub exports-negwafir_rise_within_tied : Tied exports-negwafir_rise_within.Pre exports-negwafir_rise_within.Post result
exports-negwafir_rise_within_tied = (λ κs a. tt, λ κs a r s x y p q. one_decision p q)

pub exports-negwafir_judge_tied : Tied exports-negwafir_judge.Pre exports-negwafir_judge.Post result
exports-negwafir_judge_tied = (λ κs a. tt, λ κs a r s x y p q. one_judgement p q)

pub exports-negwafir_points_tied : Tied exports-negwafir_points.Pre exports-negwafir_points.Post result
exports-negwafir_points_tied = (λ κs a. tt, λ κs a r s x y p q. one_refusal p q)

pub exports-negwafir_check_tied : Tied exports-negwafir_check.Pre exports-negwafir_check.Post result
exports-negwafir_check_tied = (λ κs a. tt, λ κs a r s x y p q. one_refusal p q)

pub exports-negwafir_changed_points_tied : Tied exports-negwafir_changed_points.Pre exports-negwafir_changed_points.Post result
exports-negwafir_changed_points_tied = (λ κs a. tt, λ κs a r s x y p q. one_refusal p q)

pub exports-negwafir_build_tied : Tied exports-negwafir_build.Pre exports-negwafir_build.Post with_third
exports-negwafir_build_tied = (λ κs a. tt, λ κs a r s x y p q. let e = one_build p q in λ i. (record { number = e.0 i; place = e.1 i }, e.2 i))

pub exports-negwafir_locate_tied : Tied exports-negwafir_locate.Pre exports-negwafir_locate.Post result
exports-negwafir_locate_tied = (λ κs a. tt, λ κs a r s x y p q. let e = one_place p q in λ i. record { refusal = record { number = e.0 i; place = e.1 i }; piece = e.2 i })

pub exports-negwafir_evaluate_tied : Tied exports-negwafir_evaluate.Pre exports-negwafir_evaluate.Post result
exports-negwafir_evaluate_tied = (λ κs a. tt, λ κs a r s x y p q. let e = one_evaluation p q in λ i. record { refusal = record { number = e.0 i; place = e.1 i }; value = e.2 i })

pub exports-negwafir_float_answer_tied : Tied exports-negwafir_float_answer.Pre exports-negwafir_float_answer.Post result
exports-negwafir_float_answer_tied = (λ κs a. tt, λ κs a r s x y p q. one_told p q)

pub exports-negwafir_change_point_tied : Tied exports-negwafir_change_point.Pre exports-negwafir_change_point.Post with_three
exports-negwafir_change_point_tied = (λ κs a. tt, λ κs a r s x y p q. let e = one_change p q in λ i. (record { number = e.0 i; place = e.1 i }, ((e.2 i).knots, ((e.2 i).values, (e.2 i).slopes))))
