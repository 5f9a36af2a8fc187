-- The number, as it comes.
use Rattle.std.proofs.Common.{rules, SFits, to_z-of_z}
use Rattle.std.specs.Int.{w32}
use Rattle.exports.specs.Cases.{whole}
use Rattle.exports.proofs.text.negwafir_whole32.Goals as goal

pub returns-in-Ok : goal.returns-in-Ok
returns-in-Ok c =
    let fits : SFits w32 c.in-Ok.value = search rules in
    rw (to_z-of_z fits, ← c.whole32.ensures, c.in-Ok.is) whole
