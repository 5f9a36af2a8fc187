-- The measure is the number.
use Rattle.decimals.proofs.writing.+append_natural.Given as goal

abbrev pub decreases-append_natural : goal.decreases-append_natural
decreases-append_natural l = l.n
