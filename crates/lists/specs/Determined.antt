-- What is said of a list that is set fixes the list and the answer. Every other promise here is an equation, or one of `words`.
use Rattle.std.specs.Prelude.{ℕ, ◌≡◌, List, ◌++◌, ℤ, length, take, drop}
use Rattle.std.proofs.Common.{sym, ◌∙◌, ap}
use Rattle.lists.specs.Lists.{Setting}

module _ {list numbers x y : List ℤ} {r s : ℕ} (p : Setting list numbers x r) (q : Setting list numbers y s) where
  pub one_set : r ≡ s
  one_set = p.counted ∙ sym q.counted

  pub one_list : x ≡ y
  one_list = p.placed ∙ ap (λ (n : ℕ). take (length list) numbers ++ drop n list) one_set ∙ sym q.placed
