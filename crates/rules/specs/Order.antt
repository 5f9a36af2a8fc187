-- Laws of the order of refusals: one number and place only, how the answers to parts of an order make the answer to the whole, and what is
-- left in a list or answered.
use Rattle.std.specs.Prelude.{◌≡◌, refl, Bool, true, false, not, ◌&&◌, List, [], ◌∷◌, ◌++◌, ℕ, zero, suc, ◌<◌, T, eqb, ℤ}
use Rattle.std.proofs.Common.{sym, ap, subst, arith}
use Rattle.std.proofs.Math.Dec.{eqb_refl}
use Rattle.std.proofs.Math.Facts.{and_yes}
use Rattle.rules.specs.Refusals.{Given, done, refused, passed, afterwards, Answered, nothing, answered}

pub neither_less : {p q : ℕ} → (p < q → ⊥) → (q < p → ⊥) → p ≡ q
neither_less u v = omega arith

module _ {H : ℕ → ℕ → Type 0} where
  -- two answers to one question are the same
  pub one_given : {order : List ℕ} {m n p q : ℕ} → Given H order m p → Given H order n q → (m ≡ n) × (p ≡ q)
  one_given done done = (refl, refl)
  one_given (refused h e) (refused k f) = (refl, neither_less (λ l. f _ l h) (λ l. e _ l k))
  one_given (refused h e) (passed f g) = absurd (f _ h)
  one_given (passed f g) (refused h e) = absurd (f _ h)
  one_given (passed f g) (passed k l) = one_given g l

  -- a cause whose number is only known not to be 0
  pub refused_by : {c p : ℕ} {order : List ℕ} → 0 < c → H c p → ((q : ℕ) → q < p → H c q → ⊥) → Given H (c ∷ order) c p
  refused_by {c = zero} l = absurd (omega (arith, l))
  refused_by {c = suc c} l = refused

  -- what refuses is not asked what comes after it
  pub stopped : {order : List ℕ} (more : List ℕ) {n p : ℕ} → (n ≡ 0 → ⊥) → Given H order n p → Given H (order ++ more) n p
  stopped more f done = absurd (f refl)
  stopped more f (refused h e) = refused h e
  stopped more f (passed g h) = passed g (stopped more f h)

  -- what passes is
  pub went_on : {order more : List ℕ} {m n p q : ℕ} → m ≡ 0 → Given H order m q → Given H more n p → Given H (order ++ more) n p
  went_on e done g = g
  went_on e (refused h f) g = absurd (omega (arith, e))
  went_on e (passed f h) g = passed f (went_on e h g)

  -- what passes has place 0
  pub passes_at_0 : {order : List ℕ} {n p : ℕ} → n ≡ 0 → Given H order n p → p ≡ 0
  passes_at_0 e done = refl
  passes_at_0 e (refused h f) = absurd (omega (arith, e))
  passes_at_0 e (passed f g) = passes_at_0 e g

  -- a pass says of each cause that it does not hold
  pub clear : {c : ℕ} {order : List ℕ} {n p : ℕ} → n ≡ 0 → Given H (c ∷ order) n p → (q : ℕ) → H c q → ⊥
  clear e (refused h f) = absurd (omega (arith, e))
  clear e (passed f g) = f

  pub rest : {c : ℕ} {order : List ℕ} {n p : ℕ} → n ≡ 0 → Given H (c ∷ order) n p → Given H order n p
  rest e (refused h f) = absurd (omega (arith, e))
  rest e (passed f g) = g

  -- a pass of a whole order is a pass of its front and of what stands behind
  pub front : (order more : List ℕ) {n p : ℕ} → n ≡ 0 → Given H (order ++ more) n p → Given H order 0 0
  front [] more e g = done
  front (c ∷ order) more e (refused h f) = absurd (omega (arith, e))
  front (c ∷ order) more e (passed f g) = passed f (front order more e g)

  pub behind : (order : List ℕ) {more : List ℕ} {n p : ℕ} → n ≡ 0 → Given H (order ++ more) n p → Given H more n p
  behind [] e g = g
  behind (c ∷ order) e g = behind order e (rest e g)

  -- a cause that does not hold might as well not be asked
  pub unasked : (order : List ℕ) (d : ℕ) (more : List ℕ) {n p : ℕ} → ((q : ℕ) → H d q → ⊥) → Given H (order ++ d ∷ more) n p → Given H (order ++ more) n p
  unasked [] d more f (refused h e) = absurd (f _ h)
  unasked [] d more f (passed e g) = g
  unasked (c ∷ order) d more f (refused h e) = refused h e
  unasked (c ∷ order) d more f (passed e g) = passed e (unasked order d more f g)

  pub asked_too : (order : List ℕ) (d : ℕ) (more : List ℕ) {n p : ℕ} → ((q : ℕ) → H d q → ⊥) → Given H (order ++ more) n p → Given H (order ++ d ∷ more) n p
  asked_too [] d more f g = passed f g
  asked_too (c ∷ order) d more f (refused h e) = refused h e
  asked_too (c ∷ order) d more f (passed e g) = passed e (asked_too order d more f g)

-- ---- an order is asked of its own causes alone

-- H and K say the same of the causes of an order
pub data Same (H K : ℕ → ℕ → Type 0) : List ℕ → Type 0 where
  none : Same H K []
  also : {c : ℕ} {order : List ℕ} → ((p : ℕ) → H c p → K c p) → ((p : ℕ) → K c p → H c p) → Same H K order → Same H K (c ∷ order)

-- so they do where K has H's causes and one more, d, that the order does not ask for
abbrev pub without : ℕ → List ℕ → Bool
without d [] = true
without d (c ∷ order) = not (eqb c d) && without d order

pub one_more_cause : {H K : ℕ → ℕ → Type 0} (d : ℕ) (order : List ℕ) → ((c p : ℕ) → H c p → K c p) → ((c p : ℕ) → (c ≡ d → ⊥) → K c p → H c p) → T (without d order) → Same H K order
one_more_cause d [] f g t = none
one_more_cause d (c ∷ order) f g t =
    let b = and_yes (not (eqb c d)) (without d order) t in
    also (f c) (λ p. g c p (λ e. not_both (eqb c d) (subst (λ (x : ℕ). T (eqb c x)) e (eqb_refl c)) b.0)) (one_more_cause d order f g b.1)
  where
    not_both : (b : Bool) → T b → T (not b) → ⊥
    not_both true t n = n
    not_both false t n = t

pub other_way : {H K : ℕ → ℕ → Type 0} {order : List ℕ} → Same H K order → Same K H order
other_way none = none
other_way (also f g s) = also g f (other_way s)

pub carried : {H K : ℕ → ℕ → Type 0} {order : List ℕ} {n p : ℕ} → Same H K order → Given H order n p → Given K order n p
carried s done = done
carried (also f g s) (refused h e) = refused (f _ h) (λ q l k. e q l (g q k))
carried (also f g s) (passed e h) = passed (λ q k. e q (g q k)) (carried s h)

-- ---- what a call leaves in a list

pub kept : {n : ℕ} (old new : List ℤ) → (n ≡ 0 → ⊥) → old ≡ afterwards n old new
kept {n = zero} old new f = absurd (f refl)
kept {n = suc n} old new f = refl

pub replaced : {n : ℕ} (old new : List ℤ) → n ≡ 0 → new ≡ afterwards n old new
replaced old new e = ap (λ (n : ℕ). afterwards n old new) (sym e)

-- ---- what a call answers beside its refusal

module _ {A : Type 0} {Right : A → Type 0} {none : A} where
  pub refused_answer : {n : ℕ} → (n ≡ 0 → ⊥) → Answered Right none n none
  refused_answer {n = zero} f = absurd (f refl)
  refused_answer {n = suc n} f = nothing

  pub right_answer : {n : ℕ} {a : A} → n ≡ 0 → Right a → Answered Right none n a
  right_answer {n = zero} e r = answered r
  right_answer {n = suc n} e r = absurd (omega (arith, e))

  pub answer_right : {n : ℕ} {a : A} → n ≡ 0 → Answered Right none n a → Right a
  answer_right e nothing = absurd (omega (arith, e))
  answer_right e (answered r) = r

  -- one only, where one only is right
  pub one_answered : {m n : ℕ} {a b : A} → m ≡ n → (n ≡ 0 → Right a → Right b → a ≡ b) → Answered Right none m a → Answered Right none n b → a ≡ b
  one_answered e f nothing nothing = refl
  one_answered e f nothing (answered s) = absurd (omega (arith, e))
  one_answered e f (answered r) nothing = absurd (omega (arith, e))
  one_answered e f (answered r) (answered s) = f refl r s
