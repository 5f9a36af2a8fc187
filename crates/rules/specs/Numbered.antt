-- A cause is known by its number, and an answer by its number, its place and what it has beside them.
use Rattle.std.specs.Prelude.{◌≡◌, refl, cond, List, [], ◌∷◌, ℕ, zero, suc, ◌<◌, eqb, Result, Ok, Err}
use Rattle.std.proofs.Common.{sym, ◌∙◌, ap, arith}
use Rattle.rules.specs.declared.Cause.{Cause}
use Rattle.rules.specs.declared.Cause.TheVariants.{SlopeUnit, Lengths, Count, Point, Width, Rise, Bend, Position, Size}
use Rattle.rules.specs.declared.Refused.{Refused}
use Rattle.rules.specs.Refusals.{Given, done, refused, passed}
use Rattle.rules.specs.Order.{passes_at_0}
use Rattle.rules.specs.Causes.{number_of, number, place, answer_or}

-- the cause with a number; that of any other is not asked for
abbrev pub cause_numbered : ℕ → Cause
cause_numbered n =
    cond (eqb n 1) Lengths
    (cond (eqb n 2) Count
    (cond (eqb n 3) Width
    (cond (eqb n 4) Rise (cond (eqb n 5) Bend (cond (eqb n 6) Position (cond (eqb n 7) Point (cond (eqb n 8) Size SlopeUnit)))))))

pub numbered : (c : Cause) → cause_numbered (number_of c) ≡ c
numbered SlopeUnit = refl
numbered Lengths = refl
numbered Count = refl
numbered Point = refl
numbered Width = refl
numbered Rise = refl
numbered Bend = refl
numbered Position = refl
numbered Size = refl

pub never_0 : (c : Cause) → number_of c ≡ 0 → ⊥
never_0 SlopeUnit e = omega (arith, e)
never_0 Lengths e = omega (arith, e)
never_0 Count e = omega (arith, e)
never_0 Point e = omega (arith, e)
never_0 Width e = omega (arith, e)
never_0 Rise e = omega (arith, e)
never_0 Bend e = omega (arith, e)
never_0 Position e = omega (arith, e)
never_0 Size e = omega (arith, e)

-- two refusals that have one number and one place
one_refused : (r s : Refused) → number_of r.cause ≡ number_of s.cause → r.place ≡ s.place → r ≡ s
one_refused r s e f =
    let cause : r.cause ≡ s.cause = sym (numbered r.cause) ∙ ap cause_numbered e ∙ numbered s.cause in
    λ i. record { cause = cause i; place = f i }

-- two answers that say the same are the same
pub one_answer : {A : Type 0} (none : A) (r s : Result A Refused) → number r ≡ number s → place r ≡ place s → answer_or none r ≡ answer_or none s → r ≡ s
one_answer none (Ok a) (Ok b) e f g = ap Ok g
one_answer none (Ok a) (Err s) e f g = absurd (never_0 s.cause (sym e))
one_answer none (Err r) (Ok b) e f g = absurd (never_0 r.cause e)
one_answer none (Err r) (Err s) e f g = ap Err (one_refused r s e f)

-- ---- from a number back to an answer

-- each number of an order is that of a cause
abbrev pub Causes : List ℕ → Type 0
Causes [] = Unit {0}
Causes (n ∷ order) = ((c : Cause) × (number_of c ≡ n)) × Causes order

pub cause_given : {H : ℕ → ℕ → Type 0} {order : List ℕ} {n p : ℕ} → Causes order → 0 < n → Given H order n p → (c : Cause) × (number_of c ≡ n)
cause_given k l done = absurd (omega (arith, l))
cause_given k l (refused h e) = k.0
cause_given k l (passed f g) = cause_given k.1 l g

-- an answer that says this number, this place and this beside them
pub record Says {A : Type 0} (none : A) (r : Result A Refused) (n p : ℕ) (a : A) : Type 0 where
  pub number_is : number r ≡ n
  pub place_is : place r ≡ p
  pub answer_is : answer_or none r ≡ a

pub said_by : {A : Type 0} {none : A} {H : ℕ → ℕ → Type 0} {order : List ℕ} (n p : ℕ) (a : A) → Causes order → Given H order n p → (0 < n → none ≡ a) → (r : Result A Refused) × Says none r n p a
said_by zero p a k g f = (Ok a, record { number_is = refl; place_is = sym (passes_at_0 refl g); answer_is = refl })
said_by (suc n) p a k g f =
    let c = cause_given k (omega arith) g in (Err (record { cause = c.0; place = p }), record { number_is = c.1; place_is = refl; answer_is = f (omega arith) })
