-- The code's literals are the definition's 1 and 0.
use Rattle.std.proofs.Common.{refl}
use lib.Ieee.{of_bits, lt}
use Rattle.replies.specs.Floats.{is_negative}
use Rattle.replies.proofs.written.is_negative.Goals as goal

pub returns : goal.returns
unfolding lt is_negative of_bits
returns c = refl
