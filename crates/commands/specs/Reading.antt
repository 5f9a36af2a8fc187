-- A number of a command, as it is read by its place among the words.
use Rattle.std.specs.Prelude.{ℕ, cond, List, ltb, length, ℤ, Result, Err}
use Rattle.commands.specs.declared.Fault.{Fault}
use Rattle.commands.specs.declared.Fault.TheVariants.{TooFew}
use Rattle.commands.specs.Commands.{said64, said32, word_at}

-- word k as a number of 64 bits, or of 32; words without it are too few
abbrev pub read64 : ℕ → List (List ℕ) → Result ℤ Fault
read64 k words = cond (ltb (length words) k) (Err TooFew) (said64 k (word_at k words))

abbrev pub read32 : ℕ → List (List ℕ) → Result ℤ Fault
read32 k words = cond (ltb (length words) k) (Err TooFew) (said32 k (word_at k words))
