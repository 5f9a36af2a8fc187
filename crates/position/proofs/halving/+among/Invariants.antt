-- What falls from call to call is the number of halvings that are left.
use Rattle.std.proofs.Common.{◌-◌}
use Rattle.position.specs.Halving.{halvings}
use Rattle.position.proofs.halving.+among.Given as goal

abbrev pub decreases-among : goal.decreases-among
decreases-among l = halvings (l.end - l.first)
