-- The promise of `float_answer` fixes the number, the place and the answer, to the last bit of each float: no two results meet it.
use Rattle.std.specs.Prelude.{◌≡◌, refl, ℕ, ℤ}
use Rattle.std.proofs.Common.{sym, ◌∙◌, ap, subst}
use Rattle.floats.proofs.Exactly.{one_float}
use Rattle.rules.specs.Order.{one_given, one_answered}
use Rattle.table.specs.Table.{Table}
use Rattle.table.specs.Accepted.{Accepted}
use Rattle.position.specs.Pieces.{one_piece}
use Rattle.drive.specs.Drive.{Telling, dwell, move, told_of, ToldIn, dwells, moves, ToldOn, ToldAt, Driving}
use Rattle.drive.specs.Refused.{accepted_for}
use Rattle.drive.specs.declared.Answer.{Answer}
use Rattle.drive.specs.declared.Answer.TheVariants.{Dwell, Move}

one_told_in : {U left h z m n t : ℤ} {a b : Telling} → ToldIn U left h z m n t a → ToldIn U left h z m n t b → a ≡ b
one_told_in (dwells e x) (dwells f y) = ap dwell (one_float x y)
one_told_in (dwells e x) (moves g p q r) = absurd (g e)
one_told_in (moves g p q r) (dwells e x) = absurd (g e)
one_told_in (moves g p q r) (moves h u v w) = λ i. move (one_float p u i) (one_float q v i) (one_float r w i)

one_told_at : {t : Table} {x : ℤ} {a b : Telling} → Accepted t → ToldAt t x a → ToldAt t x b → a ≡ b
one_told_at {t} {x} {a} {b} c f g = one_told_in (subst (λ (i : ℕ). ToldOn t i x a) (one_piece c.limits f.belongs g.belongs) f.is) g.is

pub one_driving : {t : Table} {x : ℤ} {a b : Telling} {m n p q : ℕ} → Driving t x m p a → Driving t x n q b → (m ≡ n) × (p ≡ q) × (a ≡ b)
one_driving f g =
    let e = one_given f.refusal g.refusal in
    (e.0, e.1, one_answered e.0 (λ z. one_told_at (accepted_for z g.refusal)) f.answer g.answer)

-- what is told, back as a case of the enum
abbrev case_of : Telling → Answer
case_of (dwell level) = Dwell level
case_of (move from above below) = Move (record { left = from; numerator = above; denominator = below })

there_and_back : (r : Answer) → case_of (told_of r) ≡ r
there_and_back (Dwell level) = refl
there_and_back (Move m) = refl

-- so that two answers of the enum that say the same are the same
pub one_case : (r s : Answer) → told_of r ≡ told_of s → r ≡ s
one_case r s e = sym (there_and_back r) ∙ ap case_of e ∙ there_and_back s
