-- An order of causes always gives a number and a place, where each cause can be searched for: no promise made of `Given` is empty.
use Rattle.std.specs.Prelude.{◌≡◌, refl, List, [], ◌∷◌, ◌++◌, ◌⊎◌, ℕ, zero, suc, ◌<◌}
use Rattle.std.proofs.Common.{subst, inl, inr, ⊎_elim, eq-or-lt_of_le, arith}
use Rattle.std.proofs.Math.Decide.{dec_le}
use Rattle.integers.specs.Decided.{or_not, alike_or_not}
use Rattle.rules.specs.Limits.{UnitWithin}
use Rattle.rules.specs.Refusals.{Given, done, refused, passed, Answered, nothing, answered}

-- ---- the first place at which something holds

-- it holds at a place and at none before it, or at no place
pub data Searched (P : ℕ → Type 0) : Type 0 where
  first : (p : ℕ) → P p → ((q : ℕ) → q < p → P q → ⊥) → Searched P
  nowhere : ((q : ℕ) → P q → ⊥) → Searched P

-- what holds below a bound only, and can be told at each place there, is found by asking at one place after another
pub searched_below : {P : ℕ → Type 0} (bound : ℕ) → ((p : ℕ) → P p → p < bound) → ((p : ℕ) → p < bound → P p ⊎ (P p → ⊥)) → Searched P
searched_below {P} bound below tell = ⊎_elim (λ s. s) (λ f. nowhere (λ q h. f q (below q h) h)) (up_to bound (λ _ l. l))
  where
    up_to : (n : ℕ) → ((p : ℕ) → p < n → p < bound) → Searched P ⊎ ((q : ℕ) → q < n → P q → ⊥)
    up_to zero b = inr (λ q l. absurd (omega (arith, l)))
    up_to (suc n) b = ⊎_elim inl here (up_to n (λ p (l : p < n). b p (omega arith)))
      where
        here : ((q : ℕ) → q < n → P q → ⊥) → Searched P ⊎ ((q : ℕ) → q < suc n → P q → ⊥)
        here none =
            ⊎_elim (λ h. inl (first n h none)) (λ f. inr (λ q l h. ⊎_elim (λ e. f (subst P {x = q} {y = n} (omega (arith, e)) h)) (λ m. none q (omega (arith, m)) h) (eq-or-lt_of_le l)))
            (tell n (b n (omega arith)))

-- and so is what can hold at place 0 only
pub searched_at_0 : {P : ℕ → Type 0} → ((p : ℕ) → P p → p ≡ 0) → P 0 ⊎ (P 0 → ⊥) → Searched P
searched_at_0 {P} only tell =
    ⊎_elim (λ h. first 0 h (λ q l _. absurd (omega (arith, l)))) (λ f. nowhere (λ q h. f (subst P (only q h) h))) tell

-- a slope unit is one of the nine, or not
pub unit_or_not : (s : ℕ) → UnitWithin s ⊎ (UnitWithin s → ⊥)
unit_or_not s = alike_or_not (λ l. record { high = l }) (λ w. w.high) (or_not (dec_le s 8))

-- ---- the answer of an order

module _ (H : ℕ → ℕ → Type 0) where
  -- a number and a place that it gives
  pub record SomeGiven (order : List ℕ) : Type 0 where
    pub number : ℕ
    pub place : ℕ
    pub given : Given H order number place

  -- each cause of it, with a number above 0, has been searched for
  pub data EachSearched : List ℕ → Type 0 where
    none : EachSearched []
    also : {c : ℕ} {order : List ℕ} → Searched (H (suc c)) → EachSearched order → EachSearched (suc c ∷ order)

module _ {H : ℕ → ℕ → Type 0} where
  pub found : {order : List ℕ} → EachSearched H order → SomeGiven H order
  found none = record { number = 0; place = 0; given = done }
  found (also (first p h e) s) = record { number = _; place = p; given = refused h e }
  found (also (nowhere f) s) = let g = found s in record { number = g.number; place = g.place; given = passed f g.given }

  -- an order that goes on where this one passes
  pub found_on : {order more : List ℕ} → SomeGiven H order → (Given H order 0 0 → SomeGiven H more) → SomeGiven H (order ++ more)
  found_on s f = on s.given f
    where
      on : {order more : List ℕ} {n p : ℕ} → Given H order n p → (Given H order 0 0 → SomeGiven H more) → SomeGiven H (order ++ more)
      on done f = f done
      on (refused h e) f = record { number = _; place = _; given = refused h e }
      on (passed e g) f = let s = on g (λ k. f (passed e k)) in record { number = s.number; place = s.place; given = passed e s.given }

-- of other causes that give the same
pub found_as : {H K : ℕ → ℕ → Type 0} {order : List ℕ} → ((n p : ℕ) → Given H order n p → Given K order n p) → SomeGiven H order → SomeGiven K order
found_as f s = record { number = s.number; place = s.place; given = f _ _ s.given }

-- ---- what a call answers beside its refusal

pub record SomeAnswered {A : Type 0} (Right : A → Type 0) (otherwise : A) (number : ℕ) : Type 0 where
  pub answer : A
  pub right : Answered Right otherwise number answer

pub answered_beside : {A : Type 0} {Right : A → Type 0} {otherwise : A} (number : ℕ) → (number ≡ 0 → (a : A) × Right a) → SomeAnswered Right otherwise number
answered_beside zero f = let a = f refl in record { answer = a.0; right = answered a.1 }
answered_beside (suc number) f = record { answer = _; right = nothing }
