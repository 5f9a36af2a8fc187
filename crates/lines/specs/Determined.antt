-- What is said of a piece of a line that is taken fixes all that is answered, and the buffer.
use Rattle.std.specs.Prelude.{ℕ, ◌≡◌, List}
use Rattle.std.proofs.Common.{sym, ◌∙◌}
use Rattle.words.specs.Determined.{one_count, one_buffer}
use Rattle.lines.specs.declared.Taken.{Taken}
use Rattle.lines.specs.Taking.{Taking}

module _ {before : List ℕ} {held : ℕ} {chunk : List ℕ} {from : ℕ} {x y : List ℕ} {r s : Taken}
    (p : Taking before held chunk from x r.held r.next r.whole) (q : Taking before held chunk from y s.held s.next s.whole) where
  pub one_taken : r ≡ s
  one_taken =
      let held = one_count p.gathered q.gathered in
      let next = p.following ∙ sym q.following in
      let whole = p.ended ∙ sym q.ended in
      λ i. record { held = held i; next = next i; whole = whole i }

  pub one_line : x ≡ y
  one_line = one_buffer p.gathered q.gathered
