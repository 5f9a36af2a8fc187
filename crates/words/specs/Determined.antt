-- What is said of a buffer that bytes were appended to fixes the buffer and the answer. Every other promise here is an equation.
use Rattle.std.specs.Prelude.{ℕ, ◌≡◌, List, ◌++◌, drop}
use Rattle.std.proofs.Common.{sym, ◌∙◌, ap}
use Rattle.words.specs.Lines.{joined, Appended}

module _ {before more x y : List ℕ} {held r s : ℕ} (p : Appended before held more x r) (q : Appended before held more y s) where
  pub one_count : r ≡ s
  one_count = p.counted ∙ sym q.counted

  pub one_buffer : x ≡ y
  one_buffer = p.buffer ∙ ap (λ (n : ℕ). joined before held more ++ drop n before) one_count ∙ sym q.buffer
