-- The number, as it comes.
use Rattle.std.proofs.Common.{rules, SFits, to_z-of_z}
use Rattle.std.specs.Int.{w64}
use Rattle.exports.specs.Cases.{whole}
use Rattle.exports.proofs.text.negwafir_whole.Goals as goal

pub returns-in-Ok : goal.returns-in-Ok
returns-in-Ok c =
    let fits : SFits w64 c.in-Ok.value = search rules in
    rw (to_z-of_z fits, ← c.whole.ensures, c.in-Ok.is) whole
