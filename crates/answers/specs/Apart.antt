-- Texts that stand one after another in one row of bytes, taken apart at their LFs.
use Rattle.std.specs.Prelude.{◌≡◌, ℕ, zero, suc, ◌+◌, true, false, cond, List, [], ◌∷◌, take, drop, ◌==◌, nat_eq, slice_index_or, refl}
use Rattle.std.proofs.Common.{sym, ◌∙◌}
use Rattle.std.proofs.Math.Path.{ap}
use native.Mathlib.Omega.{arith}
use Rattle.words.specs.Words.{front}
use Rattle.words.specs.Lines.{other}
use Rattle.words.specs.Runs.{by_test}
use Rattle.answers.specs.Texts.{entry_of}
use Rattle.answers.specs.Passing.{none}

-- a byte put before the first text
abbrev onto : ℕ → List (List ℕ) → List (List ℕ)
onto b [] = (b ∷ []) ∷ []
onto b (text ∷ texts) = (b ∷ text) ∷ texts

-- the texts, each without its LF: one more than there are LFs
unfoldable pub texts_of : List ℕ → List (List ℕ)
texts_of [] = [] ∷ []
texts_of (b ∷ bs) = cond (b == 10) ([] ∷ texts_of bs) (onto b (texts_of bs))

onto_first : (b : ℕ) (texts : List (List ℕ)) → b ∷ slice_index_or texts 0 [] ≡ slice_index_or (onto b texts) 0 []
onto_first b [] = refl
onto_first b (text ∷ texts) = refl

onto_later : (b k : ℕ) (texts : List (List ℕ)) → slice_index_or texts (suc k) [] ≡ slice_index_or (onto b texts) (suc k) []
onto_later b k [] = refl
onto_later b k (text ∷ texts) = refl

module _ (bs : List ℕ) where
  entry_first : entry_of 0 bs ≡ take (front (other 10) bs) bs
  unfolding entry_of
  entry_first = let n = front (other 10) bs in let plain : 0 + n ≡ n = omega arith in ap (λ (m : ℕ). take m bs) plain

  entry_later : (k : ℕ) → entry_of (suc k) bs ≡ entry_of k (drop (suc (front (other 10) bs)) bs)
  unfolding entry_of
  entry_later k = let n = front (other 10) bs in let plain : 0 + n ≡ n = omega arith in ap (λ (m : ℕ). entry_of k (drop (suc m) bs)) plain

-- entry k is the k-th of them
pub entry_there : (k : ℕ) (bs : List ℕ) → entry_of k bs ≡ slice_index_or (texts_of bs) k []
unfolding front texts_of
entry_there zero [] = none 0
entry_there (suc k) [] = none (suc k)
entry_there zero (b ∷ bs) =
    entry_first (b ∷ bs)
    ∙ by_test (b == 10)
    (λ (t : nat_eq b 10 ≡ true). rw t)
    (λ (t : nat_eq b 10 ≡ false). rw t (ap (λ (text : List ℕ). b ∷ text) (sym (entry_first bs) ∙ entry_there zero bs) ∙ onto_first b (texts_of bs)))
entry_there (suc k) (b ∷ bs) =
    entry_later (b ∷ bs) k
    ∙ by_test (b == 10)
    (λ (t : nat_eq b 10 ≡ true). rw t (entry_there k bs))
    (λ (t : nat_eq b 10 ≡ false). rw t (sym (entry_later bs k) ∙ entry_there (suc k) bs ∙ onto_later b k (texts_of bs)))
