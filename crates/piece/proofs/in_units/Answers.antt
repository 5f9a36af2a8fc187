-- Z stays within 2^28, a and b within 2^41.
use Rattle.std.specs.Prelude.{List, [], ◌∷◌, ℤ}
use Rattle.std.specs.Int.{w32}
use Rattle.std.proofs.Common.{SFits}
use Rattle.integers.specs.Within.{Within}
use Rattle.integers.specs.Sizes.{Known, known, held, sized, plain_is, code}
use Rattle.rules.specs.Known.{UnitSize, known_unit}
use Rattle.piece.proofs.in_units.Goals as goal

module _ (U h z m n : ℤ) (u : UnitSize U) (w : Within 1024 h) (r : Within 1048576 z) (p : SFits w32 m) (q : SFits w32 n) where
  abbrev given : List Known
  given = known_unit U u ∷ known h _ w ∷ known z _ r ∷ held w32 m p ∷ held w32 n q ∷ []

pub returns-clause-units_of : goal.returns-clause-units_of
returns-clause-units_of c =
    let a = c.args in
    let Γ = given a.unit.size a.h a.z a.m a.n a.unit.within c.requires.within c.requires.within_2 c.ranges.m c.ranges.n in
    rw (c.from.ensures, c.from-2.ensures)
    (record {
      rise_is = plain_is {Γ = Γ} (search code depth 30 fits 9000) tt;
      a_is = plain_is {Γ = Γ} (search code depth 30 fits 9000) tt;
      b_is = plain_is {Γ = Γ} (search code depth 30 fits 9000) tt;
    })

pub returns-clause-moderate : goal.returns-clause-moderate
returns-clause-moderate c =
    let a = c.args in
    let Γ = given a.unit.size a.h a.z a.m a.n a.unit.within c.requires.within c.requires.within_2 c.ranges.m c.ranges.n in
    rw (c.from.ensures, c.from-2.ensures)
    (record {
      rise = sized Γ (search code depth 30 fits 9000) tt;
      start = sized Γ (search code depth 30 fits 9000) tt;
      end = sized Γ (search code depth 30 fits 9000) tt;
    })
