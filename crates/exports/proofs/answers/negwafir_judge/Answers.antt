-- The verdict by its number, or the refusal.
use Rattle.std.specs.Prelude.{◌≡◌, refl, Ok}
use Rattle.std.proofs.Common.{to_z-of_z}
use Rattle.piece.specs.declared.Verdict.{Verdict}
use Rattle.piece.specs.declared.Verdict.TheVariants.{Rising, Falling, Flat, Bends}
use Rattle.piece.specs.Promise.{none, ruling, ruling_of}
use Rattle.exports.specs.Cases.{finding_of, judged}
use Rattle.exports.proofs.answers.negwafir_judge.Goals as goal

ruled : (v : Verdict) → ruling_of (Ok v) ≡ ruling 0 0 (finding_of v)
ruled Rising = refl
ruled Falling = refl
ruled Flat = refl
ruled Bends = refl

pub returns-in-Ok : goal.returns-in-Ok
returns-in-Ok c =
    let s = c.ranges in
    let said = rw (to_z-of_z s.h, to_z-of_z s.z, to_z-of_z s.m, to_z-of_z s.n, ruled c.in-Ok.verdict) at c.in-Ok.ensures in
    rw (c.done.ensures.number, c.done.ensures.place, c.numbered.ensures) (judged {w = finding_of c.in-Ok.verdict} said)

pub returns-in-Err : goal.returns-in-Err
returns-in-Err c =
    let s = c.ranges in
    let said = rw (to_z-of_z s.h, to_z-of_z s.z, to_z-of_z s.m, to_z-of_z s.n) at c.in-Err.ensures in
    rw (c.refusal_of.ensures.number, c.refusal_of.ensures.place) (judged {w = none} said)
