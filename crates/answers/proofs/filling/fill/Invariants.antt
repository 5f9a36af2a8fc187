-- What stands for the bytes that were passed has been put, and what stands for the others is left.
use Rattle.std.proofs.Common.{drop}
use Rattle.answers.specs.Filling.{filled}
use Rattle.answers.specs.Places.{Begun}
use Rattle.answers.proofs.filling.fill.Given as goal

abbrev pub invariant-loop-b : goal.invariant-loop-b
invariant-loop-b l = Begun l.fn.into l.held (filled l.template l.text l.numbers) (filled (drop l.b-index l.template) l.text l.left) l.into l.n
