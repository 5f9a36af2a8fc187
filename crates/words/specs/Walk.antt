-- Walking a line word by word gives its words: each step of `next_word` takes the first of the words that are left.
use Rattle.std.specs.Prelude.{ℕ, suc, ◌+◌, ◌-◌, ◌≤◌, ◌<◌, refl, Bool, true, false, not, length, take, drop, Option, Some, None}
use Rattle.std.proofs.Math.Path.{◌≡◌, ap}
use Rattle.std.proofs.Common.{sym, ◌∙◌, arith, ltb-true, ltb-false, length-drop, drop_of_length-le, drop-cons, drop-drop}
use Rattle.std.specs.Bool.{beq}
use mathlib.Core.List.{List, [], ◌∷◌, ◌++◌, append_assoc, append-nil}
use Rattle.std.proofs.Math.Nat.{add-sub_cancel_left}
use Rattle.std.proofs.Math.Dec.{ltb}
use Rattle.words.specs.declared.split.Word.{Word}
use Rattle.words.specs.Runs.{by_test, front_within}
use Rattle.words.specs.Words.{is_separator, alike, front, run_end, next_word, close, words_after, words_of, part_of}

-- ---- runs at the front of a list

module _ (test : ℕ → Bool) where
  passed : (b : ℕ) (bs : List ℕ) → test b ≡ true → front test (b ∷ bs) ≡ suc (front test bs)
  unfolding front
  passed b bs p = rw p

  ended : (b : ℕ) (bs : List ℕ) → test b ≡ false → front test (b ∷ bs) ≡ 0
  unfolding front
  ended b bs p = rw p

  -- the byte at which a run stops does not pass
  stopped : (xs : List ℕ) {b : ℕ} {bs : List ℕ} → drop (front test xs) xs ≡ b ∷ bs → test b ≡ false
  unfolding front
  stopped [] e = let z : ◌≡◌ {A = ℕ} 0 1 = cc in absurd (omega arith)
  stopped (x ∷ xs) {b} {bs} e =
      by_test (test x)
      (λ (p : test x ≡ true). stopped xs (rw p at e))
      (λ (p : test x ≡ false). cc (rw p at e))

-- ---- words

closes : (b : ℕ) (bs gs : List ℕ) → is_separator b ≡ true → words_after gs (b ∷ bs) ≡ close gs (words_of bs)
unfolding words_after
closes b bs gs p = rw p

grows : (b : ℕ) (bs gs : List ℕ) → is_separator b ≡ false → words_after gs (b ∷ bs) ≡ words_after (gs ++ (b ∷ [])) bs
unfolding words_after
grows b bs gs p = rw p

-- the two tests for one byte
as_separator : (t : Bool) → beq t true ≡ t
as_separator true = refl
as_separator false = refl

as_word : (t : Bool) → beq t false ≡ not t
as_word true = refl
as_word false = refl

-- separators in front change nothing
past_separators : (xs : List ℕ) → words_of xs ≡ words_of (drop (front (alike true) xs) xs)
unfolding front
past_separators [] = refl
past_separators (b ∷ bs) =
    by_test (is_separator b)
    (λ (p : is_separator b ≡ true). rw (passed (alike true) b bs (as_separator (is_separator b) ∙ p), closes b bs [] p) (past_separators bs))
    (λ (p : is_separator b ≡ false). rw (ended (alike true) b bs (as_separator (is_separator b) ∙ p)))

-- a word that was begun ends before the next separator, and the other words follow
begun : (g : ℕ) (gs xs : List ℕ)
    → words_after (g ∷ gs) xs ≡ ((g ∷ gs) ++ take (front (alike false) xs) xs) ∷ words_of (drop (front (alike false) xs) xs)
unfolding front words_after
begun g gs [] = simp append-nil
begun g gs (b ∷ bs) =
    by_test (is_separator b)
    (λ (p : is_separator b ≡ true).
    rw (ended (alike false) b bs (as_word (is_separator b) ∙ ap not p))
    (closes b bs (g ∷ gs) p ∙ ap (λ (w : List ℕ). (g ∷ w) ∷ words_of bs) (sym (append-nil gs))
    ∙ ap (λ (ws : List (List ℕ)). (g ∷ (gs ++ [])) ∷ ws) (sym (closes b bs [] p))))
    (λ (p : is_separator b ≡ false).
    rw (passed (alike false) b bs (as_word (is_separator b) ∙ ap not p))
    (grows b bs (g ∷ gs) p ∙ begun g (gs ++ (b ∷ [])) bs ∙ simp append_assoc))

-- a line that starts with a word: that word, and the words after it
starts : (xs : List ℕ) (b : ℕ) (bs : List ℕ) → xs ≡ b ∷ bs → is_separator b ≡ false
    → (words_of xs ≡ take (front (alike false) xs) xs ∷ words_of (drop (front (alike false) xs) xs)) × (0 < front (alike false) xs)
starts xs b bs e p = rw (e, passed (alike false) b bs (as_word (is_separator b) ∙ ap not p)) (grows b bs [] p ∙ begun b [] bs, omega arith)

-- ---- the walk

-- what `next_word` says of a word that it finds
pub record Found (line : List ℕ) (from s e : ℕ) : Type 0 where
  pub after : from ≤ s
  pub some : s < e
  pub within : e ≤ length line
  -- the word is the first of those from `from` on, and the others are those from its end on
  pub first : words_of (drop from line) ≡ part_of line s e ∷ words_of (drop e line)

module _ (line : List ℕ) (from : ℕ) where
  abbrev start : ℕ
  start = run_end (alike true) line from

  from_start : words_of (drop from line) ≡ words_of (drop start line)
  from_start = past_separators (drop from line) ∙ ap words_of (drop-drop (front (alike true) (drop from line)) from line)

  at_start : start < length line → Found line from start (run_end (alike false) line start)
  at_start h =
      let rest = drop start line in
      let n = front (alike false) rest in
      let cut = drop-cons line start 0 h in
      let plain = stopped (alike true) (drop from line) (drop-drop (front (alike true) (drop from line)) from line ∙ cut) in
      let word = starts rest _ _ cut (sym (as_separator _) ∙ plain) in
      record {
        after = omega arith;
        some = omega (arith, word.1);
        within = omega (arith, front_within (alike false) rest, length-drop start line);
        first = from_start ∙ word.0 ∙ ap (λ (k : ℕ). take k rest ∷ words_of (drop n rest)) (sym (add-sub_cancel_left start n))
            ∙ ap (λ (l : List ℕ). take (start + n - start) rest ∷ words_of l) (drop-drop n start line);
      }

  -- where it finds a word, that is the first
  pub a_word : (word : Word) → next_word line from ≡ Some word → Found line from word.start word.end
  a_word word p =
      by_test (ltb start (length line))
      (λ (t : ltb start (length line) ≡ true).
      let here : Word = record { start = start; end = run_end (alike false) line start } in
      let q : ◌≡◌ {A = Option Word} (Some here) (Some word) = rw t at p in
      let same : here ≡ word = cc in
      rw (← same) (at_start (ltb-true _ _ t)))
      (λ (t : ltb start (length line) ≡ false). let z : ◌≡◌ {A = ℕ} 0 1 = cc (rw t at p) in absurd (omega arith))

  -- where it finds none, there is none
  pub no_word : next_word line from ≡ None → words_of (drop from line) ≡ []
  unfolding words_after
  no_word p =
      by_test (ltb start (length line))
      (λ (t : ltb start (length line) ≡ true). let z : ◌≡◌ {A = ℕ} 0 1 = cc (rw t at p) in absurd (omega arith))
      (λ (t : ltb start (length line) ≡ false). from_start ∙ ap words_of (drop_of_length-le line (ltb-false _ _ t)))
