-- `answers::filling::append_signed` meets its contract: a `-` and the digits.
use Rattle.std.proofs.Common.{[], ◌∷◌}
use Rattle.words.specs.Joining.{both}
use Rattle.answers.proofs.filling.append_signed.Goals as goal

pub returns-then-number : goal.returns-then-number
returns-then-number c = rw c.if-number.true (both {m = 45 ∷ []} c.append-signed.ensures c.append_natural.ensures)
