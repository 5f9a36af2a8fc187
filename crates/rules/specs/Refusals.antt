-- How the exact rules choose a refusal's number and place, and what a refused call leaves. Whoever believes a promise about refusals believes this file.
use Rattle.std.specs.Prelude.{ℕ, zero, suc, ◌<◌, List, [], ◌∷◌, ℤ}

-- "The number given is the first cause that holds in this order", and its place is the first at which it does; "0 | none, done | 0".
-- `Holds c p` says that the cause with the number c holds at the place p. `done`: no cause is left to ask. `refused`: the first cause of the order holds at p and at
-- no place before it. `passed`: it holds nowhere, and the rest of the order decides.
pub data Given (Holds : ℕ → ℕ → Type 0) : List ℕ → ℕ → ℕ → Type 0 where
  done : Given Holds [] 0 0
  refused : {c p : ℕ} {order : List ℕ} → Holds (suc c) p → ((q : ℕ) → q < p → Holds (suc c) q → ⊥) → Given Holds (suc c ∷ order) (suc c) p
  passed : {c n p : ℕ} {order : List ℕ} → ((q : ℕ) → Holds c q → ⊥) → Given Holds order n p → Given Holds (c ∷ order) n p

-- "A refused call writes to no list": what a list holds after a call that answers this number and writes `new` over `old` if it is done.
abbrev pub afterwards : ℕ → (old new : List ℤ) → List ℤ
afterwards zero old new = new
afterwards (suc number) old new = old

-- "and its value, if it has one, is 0": what a call answers beside its refusal, where `Right` says which answers are right and `none` is the 0.
pub data Answered {A : Type 0} (Right : A → Type 0) (none : A) : ℕ → A → Type 0 where
  nothing : {number : ℕ} → Answered Right none (suc number) none
  answered : {a : A} → Right a → Answered Right none 0 a
