-- Ours gives the sixteen, as Rattle functions and as the library for C.
use Rattle.demands.specs.Ours.{ours, ours_in-C}
use Rattle.demands.specs.Kept.{ours_keeps, ours_in-C_keeps}
use Rattle.demands.specs.Sixteen.{TheSixteen}
use Rattle.demands.proofs.SixteenGiven.{the_sixteen_are_given}

pub ours_gives_the_sixteen : TheSixteen ours × TheSixteen ours_in-C
ours_gives_the_sixteen = (the_sixteen_are_given ours_keeps, the_sixteen_are_given ours_in-C_keeps)
