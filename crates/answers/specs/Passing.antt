-- Laws of texts that are passed one by one.
use Rattle.std.specs.Prelude.{ℕ, zero, suc, ◌+◌, ◌-◌, ◌≤◌, ◌<◌, ◌≡◌, refl, List, [], length, take, drop}
use Rattle.std.proofs.Common.{ap, ◌∙◌, arith, drop-drop, drop_of_length-le}
use Rattle.words.specs.Words.{front, part_of}
use Rattle.words.specs.Lines.{other, first_of}
use Rattle.answers.specs.Texts.{entry_of}

-- of no bytes every entry is empty
pub none : (k : ℕ) → entry_of k [] ≡ []
unfolding entry_of front
none zero = refl
none (suc k) = none k

module _ (texts : List ℕ) (start : ℕ) where
  -- the entry that starts there
  pub first : part_of texts start (first_of 10 texts start) ≡ entry_of 0 (drop start texts)
  unfolding entry_of
  first =
      let n = front (other 10) (drop start texts) in
      let as_many : start + n - start ≡ 0 + n = omega arith in
      ap (λ (m : ℕ). take m (drop start texts)) as_many

  -- one that comes later is counted from behind the LF
  pub later : (k i : ℕ) → i < k → entry_of (k - i) (drop start texts) ≡ entry_of (k - (i + 1)) (drop (first_of 10 texts start + 1) texts)
  unfolding entry_of
  later k i h =
      let n = front (other 10) (drop start texts) in
      let one_more : k - i ≡ suc (k - (i + 1)) = omega arith in
      let place : start + suc (0 + n) ≡ start + n + 1 = omega arith in
      ap (λ (m : ℕ). entry_of m (drop start texts)) one_more
      ∙ ap (entry_of (k - (i + 1))) (drop-drop (suc (0 + n)) start texts ∙ ap (λ (m : ℕ). drop m texts) place)

  -- and is empty where there is no LF
  pub no_later : (k i : ℕ) → i < k → length texts ≤ first_of 10 texts start → entry_of (k - i) (drop start texts) ≡ []
  no_later k i h out = later k i h ∙ ap (entry_of (k - (i + 1))) (drop_of_length-le texts (omega arith)) ∙ none (k - (i + 1))

-- what a walk over the texts asks
pub ruleset passing_laws = (first, later, no_later)
