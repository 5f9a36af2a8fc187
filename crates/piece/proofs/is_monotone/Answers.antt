-- The piece turned is never against its rise exactly if the piece is monotone.
use Rattle.std.specs.Prelude.{refl, Bool, [], ◌∷◌, ℤ, pos, ◌*ℤ◌}
use Rattle.std.proofs.Common.{◌∙◌, ap}
use Rattle.std.specs.Int.{w32}
use Rattle.integers.specs.Promise.{Decided}
use Rattle.integers.specs.Decided.{decided_alike}
use Rattle.integers.specs.Sizes.{known, held, sized, code}
use Rattle.integers.specs.Arguments.{arguments, same₄, plainly₂, plainly₃, plainly₅}
use Rattle.cubic.specs.Piece.{NeverAgainst}
use Rattle.cubic.proofs.OneTest.{Turned, turned_accepts, turned_complete}
use Rattle.rules.specs.Known.{rise_size, known_unit, known_width, known_rise}
use Rattle.piece.specs.Sizes.{WithSign, as_large}
use Rattle.piece.specs.Cubic.{UnitsOf}
use Rattle.piece.proofs.is_monotone.Goals as goal

-- what is answered of Z, a and b of the piece turned is answered of it
of_turned : {U h z m n width rise Z a b : ℤ} {d : Bool} → WithSign z h width → WithSign z z rise → UnitsOf U width rise m n Z a b → Decided (NeverAgainst Z a b) d → Decided (Turned U h z m n) d
of_turned {U} {m = m} {n = n} {d = d} w r u =
    same₄ (λ (Z a b _ : ℤ). Decided (NeverAgainst Z a b) d) {u = pos 0}
    (u.rise_is ∙ ap (λ (x : ℤ). U *ℤ x) r.is) (u.a_is ∙ ap (λ (x : ℤ). m *ℤ x) w.is) (u.b_is ∙ ap (λ (x : ℤ). n *ℤ x) w.is) refl

pub returns : goal.returns
returns c =
    let U = c.args.unit.size in
    let h = c.args.extent.h in
    let z = c.args.extent.z in
    let r = c.in_units-u.result in
    let size = c.in_units-u.ensures.moderate in
    let given = known_unit U c.args.unit.within ∷ known_width h c.args.extent.width ∷ known_rise z c.args.extent.rise ∷ held w32 c.args.m c.ranges.m ∷ held w32 c.args.n c.ranges.n ∷ [] in
    let width : WithSign z h c.turned.result = plainly₂ given (λ (sign x : ℤ). WithSign sign x c.turned.result) c.turned.ensures (search arguments depth 30 fits 9000) tt in
    let rise : WithSign z z c.turned-2.result = plainly₂ given (λ (sign x : ℤ). WithSign sign x c.turned-2.result) c.turned-2.ensures (search arguments depth 30 fits 9000) tt in
    let turned = known c.turned.result 1024 (as_large width (sized given (search code depth 30 fits 9000) tt)) ∷ known c.turned-2.result 1048576 (as_large rise (rise_size c.args.extent.rise)) ∷ given in
    let units : UnitsOf U c.turned.result c.turned-2.result c.args.m c.args.n r.rise r.a r.b =
    plainly₅ turned (λ (U h z m n : ℤ). UnitsOf U h z m n r.rise r.a r.b) c.in_units-u.ensures.units_of (search code depth 30 fits 9000) (search arguments depth 30 fits 9000) tt in
    let made = known r.rise _ size.rise ∷ known r.a _ size.start ∷ known r.b _ size.end ∷ [] in
    decided_alike (turned_accepts U h z c.args.m c.args.n) (turned_complete U h z c.args.m c.args.n)
    (of_turned width rise units
    (plainly₃ made (λ (Z a b : ℤ). Decided (NeverAgainst Z a b) c.never_against.result) c.never_against.ensures (search arguments depth 30 fits 9000) tt))
