-- Laws of a template that is filled in byte by byte, and of a buffer into which a part of what is to be appended has been put.
use Rattle.std.specs.Prelude.{ℕ, ◌+◌, ◌≤◌, ◌<◌, ◌≡◌, refl, true, false, cond, List, [], ◌∷◌, ◌++◌, eqb, length, drop, get_or}
use Rattle.std.proofs.Common.{◌∙◌, arith, add-one, ne_eqb, drop-cons, drop_of_length-le, drop-drop}
use Rattle.std.proofs.Math.Path.{subst⁻¹}
use Rattle.words.specs.Lines.{Appended}
use Rattle.words.specs.Joining.{both}
use Rattle.words.specs.Runs.{by_test}
use Rattle.answers.specs.declared.filling.Signed.{Signed}
use Rattle.answers.specs.Filling.{signed_text, in_place, left_behind, filled}

empty : (numbers : List Signed) → length numbers ≡ 0 → numbers ≡ []
empty [] e = refl
empty (number ∷ numbers) e = absurd (omega arith)

module _ (template text : List ℕ) (numbers : List Signed) (i : ℕ) where
  -- byte i and what follows it
  pub filled_next : i < length template
      → filled (drop i template) text numbers ≡ in_place (get_or template i 0) text numbers ++ filled (drop (i + 1) template) text (left_behind (get_or template i 0) numbers)
  unfolding filled
  filled_next h = rw (add-one, drop-cons template i 0 h)

  module _ (h : i < length template) where
    pub with_number : {number : Signed} {others : List Signed} → get_or template i 0 ≡ 35 → numbers ≡ number ∷ others
        → filled (drop i template) text numbers ≡ signed_text number ++ filled (drop (i + 1) template) text others
    with_number e n = filled_next h ∙ rw (e, n) refl

    pub with_none : get_or template i 0 ≡ 35 → length numbers ≡ 0 → filled (drop i template) text numbers ≡ filled (drop (i + 1) template) text numbers
    with_none e n = filled_next h ∙ rw (e, empty numbers n) refl

    pub with_text : get_or template i 0 ≡ 36 → filled (drop i template) text numbers ≡ text ++ filled (drop (i + 1) template) text numbers
    with_text e = filled_next h ∙ rw e refl

    pub with_itself : (get_or template i 0 ≡ 35 → ⊥) → (get_or template i 0 ≡ 36 → ⊥)
        → filled (drop i template) text numbers ≡ (get_or template i 0 ∷ []) ++ filled (drop (i + 1) template) text numbers
    with_itself e f = filled_next h ∙ rw (ne_eqb (get_or template i 0) 35 e, ne_eqb (get_or template i 0) 36 f) refl

  -- past the end nothing follows
  pub filled_out : length template ≤ i → filled (drop i template) text numbers ≡ []
  unfolding filled
  filled_out h = rw (drop_of_length-le template h)

-- the same by a count of the numbers that have been passed
module _ (template text : List ℕ) (numbers : List Signed) (i k : ℕ) where
  byte : ℕ
  byte = get_or template i 0

  -- the numbers left behind a byte, where k of them have been passed before it
  left_so : left_behind byte (drop k numbers) ≡ drop (cond (eqb byte 35) (k + 1) k) numbers
  left_so =
      by_test (eqb byte 35)
      (λ (t : eqb byte 35 ≡ true). rw t (drop-drop 1 k numbers))
      (λ (t : eqb byte 35 ≡ false). rw t)

  -- byte i and what follows it
  pub filled_on : (next : ℕ) → i < length template → next ≡ cond (eqb (get_or template i 0) 35) (k + 1) k
      → filled (drop i template) text (drop k numbers) ≡ in_place (get_or template i 0) text (drop k numbers) ++ filled (drop (i + 1) template) text (drop next numbers)
  unfolding byte
  filled_on next h e = rw (e, ← left_so) (filled_next template text (drop k numbers) i h)

-- a first part of `all` has been put, and `rest` is left: whatever appends the rest to the buffer as it is appends all to the buffer as it was
pub record Begun (before : List ℕ) (held : ℕ) (all rest after : List ℕ) (r : ℕ) : Type 0 where
  pub ended : {last : List ℕ} {s : ℕ} → Appended after r rest last s → Appended before held all last s

pub go_on : {before all rest after : List ℕ} {held r : ℕ} → Begun before held all rest after r
    → {more others next : List ℕ} {s : ℕ} → rest ≡ more ++ others → Appended after r more next s → Begun before held all others next s
go_on {rest = rest} {after = after} {r = r} b {more} {others} e p =
    record { ended = λ {last} {s = t} q. b.ended (subst⁻¹ (λ (l : List ℕ). Appended after r l last t) e (both p q)) }

pub go_past : {before all rest others after : List ℕ} {held r : ℕ} → Begun before held all rest after r → rest ≡ others → Begun before held all others after r
go_past b e = rw e at b
