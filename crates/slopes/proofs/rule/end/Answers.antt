-- A fall is a rise turned over.
use Rattle.std.specs.Prelude.{List, [], ◌∷◌, neg_ℤ}
use Rattle.std.proofs.Common.{refl, sym, ◌∙◌, ap, subst}
use Rattle.integers.specs.Order.{minus_twice}
use Rattle.integers.specs.Within.{Within}
use Rattle.integers.specs.Sizes.{Known, known, fits, plain_is, code}
use Rattle.cubic.specs.Slopes.{end_slope}
use Rattle.cubic.proofs.End.{end_turned}
use Rattle.slopes.specs.Sizes.{end_within}
use Rattle.slopes.specs.Cases.{same_pieces}
use Rattle.slopes.proofs.rule.end.Goals as goal
use Rattle.slopes.proofs.rule.end.Goals.{After-rising_end}

-- the slope of the piece turned over
abbrev given : After-rising_end → List Known
given c = known c.rising_end.result 805306368 (subst (Within 805306368) (sym c.rising_end.ensures) (end_within c.args.unit c.mirrored.result c.mirrored-then-first-lt0.result)) ∷ []

pub overflow_sub-result : goal.overflow_sub-result
overflow_sub-result c = fits (given c) (search code depth 30 fits 9000) tt

pub returns-then-first-lt0 : goal.returns-then-first-lt0
returns-then-first-lt0 c =
    let a = c.args in
    let m = c.mirrored.ensures in
    let n = c.mirrored-then-first-lt0.ensures in
    plain_is {Γ = given c} (search code depth 30 fits 9000) tt
    ∙ ap neg_ℤ (c.rising_end.ensures ∙ same_pieces end_slope {U = a.unit.size} refl m.h m.z n.h n.z ∙ end_turned a.unit.size a.first.h a.first.z a.next.h a.next.z)
    ∙ minus_twice (end_slope a.unit.size a.first.h a.first.z a.next.h a.next.z)
