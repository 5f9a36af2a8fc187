-- Laws of a choice by name: what is chosen stands at the name's place among the names; and of the test whether two words are the same.
use Rattle.std.specs.Prelude.{ℕ, zero, suc, ◌≤◌, ◌≡◌, refl, Bool, true, false, cond, List, [], ◌∷◌, length, get_or}
use Rattle.std.proofs.Common.{sym, ap, ◌∙◌, arith}
use Rattle.std.proofs.Math.ListN.{get_or-eq_default}
use Rattle.std.proofs.lemmas.Bool.Decides.{same_from_decides}
use Rattle.std.proofs.lemmas.Slice.Eq.{bytes_eq-Decides}
use Rattle.words.specs.Runs.{by_test}
use Rattle.commands.specs.Commands.{same, chosen}

-- the place of the first name that the word is, or the end of the names
unfoldable pub place_of : List ℕ → List (List ℕ) → ℕ
place_of word [] = 0
place_of word (name ∷ names) = cond (same word name) 0 (suc (place_of word names))

abbrev pub names_of : {A : Type 0} → List (List ℕ × A) → List (List ℕ)
names_of [] = []
names_of (entry ∷ entries) = entry.0 ∷ names_of entries

abbrev pub commands_of : {A : Type 0} → List (List ℕ × A) → List A
commands_of [] = []
commands_of (entry ∷ entries) = entry.1 ∷ commands_of entries

-- what is chosen stands at the name's place
by_place : {A : Type 0} (entries : List (List ℕ × A)) (otherwise : A) (word : List ℕ)
    → get_or (commands_of entries) (place_of word (names_of entries)) otherwise ≡ chosen entries otherwise word
unfolding place_of
by_place [] otherwise word = refl
by_place (entry ∷ entries) otherwise word =
    by_test (same word entry.0)
    (λ (t : same word entry.0 ≡ true). rw t)
    (λ (t : same word entry.0 ≡ false). rw t (by_place entries otherwise word))

-- n is none of the first k numbers, as a match on these leaves it, and so is not below k
abbrev pub NoneOf : ℕ → ℕ → Type 0
NoneOf zero n = Unit
NoneOf (suc k) n = NoneOf k n × (n ≡ k → ⊥)

not_below : (k n : ℕ) → NoneOf k n → k ≤ n
not_below zero n h = omega arith
not_below (suc k) n h = let least = not_below k n h.0 in let other = h.1 in omega arith

module _ {A : Type 0} (entries : List (List ℕ × A)) (otherwise : A) (word : List ℕ) {n : ℕ} (e : n ≡ place_of word (names_of entries)) where
  pub chosen_at : {command : A} → command ≡ get_or (commands_of entries) n otherwise → command ≡ chosen entries otherwise word
  chosen_at p = p ∙ ap (λ (k : ℕ). get_or (commands_of entries) k otherwise) e ∙ by_place entries otherwise word

  pub none_chosen : NoneOf (length (commands_of entries)) n → otherwise ≡ chosen entries otherwise word
  none_chosen h = chosen_at (sym (get_or-eq_default (commands_of entries) otherwise (not_below (length (commands_of entries)) n h)))

-- ---- two words, compared

pub same_itself : (word : List ℕ) → same word word ≡ true
same_itself word = (bytes_eq-Decides word word).1 refl

pub same_means : (word other : List ℕ) → same word other ≡ true → word ≡ other
same_means word other = (bytes_eq-Decides word other).0

-- a bool that is true exactly where two words are equal
pub compared : {word other : List ℕ} (r : Bool) → (r ≡ true → word ≡ other) → (word ≡ other → r ≡ true) → same word other ≡ r
compared {word} {other} r f g = same_from_decides (same word other) r (bytes_eq-Decides word other) (f, g)

-- ---- the walk along the names

module _ (word name : List ℕ) (names : List (List ℕ)) where
  pub place_here : same word name ≡ true → place_of word (name ∷ names) ≡ 0
  unfolding place_of
  place_here t = rw t

  pub place_on : same word name ≡ false → place_of word (name ∷ names) ≡ suc (place_of word names)
  unfolding place_of
  place_on t = rw t

pub no_place : (word : List ℕ) → place_of word [] ≡ 0
unfolding place_of
no_place word = refl
