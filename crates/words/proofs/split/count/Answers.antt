-- A turn passes one word, by the law of the walk.
use Rattle.std.proofs.Common.{sym, ap, length, arith}
use Rattle.words.specs.Walk.{a_word, no_word}
use Rattle.words.proofs.split.count.Goals as goal

pub loop-word-smaller : goal.loop-word-smaller
loop-word-smaller c = let f = a_word _ _ _ (sym c.in-Some.ensures) in omega arith

pub loop-word-preserved : goal.loop-word-preserved
loop-word-preserved c =
    let f = a_word _ _ _ (sym c.in-Some.ensures) in
    record { all = omega (arith, ap length f.first); few = omega arith }

pub returns : goal.returns
returns c = let none = no_word _ _ (sym c.in_default.ensures) in omega (arith, ap length none)
