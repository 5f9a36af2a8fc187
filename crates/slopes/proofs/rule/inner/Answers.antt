-- Each way through the code is one case of the rule. What the test of the product says is looked up by what it says, and not by how the code spells it.
use Rattle.std.specs.Prelude.{◌≡◌, true, false, [], ◌∷◌, ℤ, pos, neg_ℤ, ◌*ℤ◌, ◌≤ℤ◌, ◌<ℤ◌}
use Rattle.std.proofs.Common.{refl, sym, ◌∙◌, ap, ap₂, subst, to_z, of_z}
use Rattle.std.specs.Int.{w32, w64}
use Rattle.std.specs.Int.Signed.{le_z, lt_z}
use Rattle.integers.specs.Ring.{ring, quote}
use Rattle.integers.specs.Sizes.{known, fits, plain_is, code, returned}
use Rattle.integers.specs.Tests.{tests, passed, passed_at_most, failed}
use Rattle.cubic.specs.Slopes.{mean, inner_slope}
use Rattle.cubic.proofs.Inner.{inner_level, both_up, inner_up, both_down, inner_down}
use Rattle.rules.specs.declared.limits.SlopeUnit.{SlopeUnit}
use Rattle.rules.specs.declared.limits.Extent.{Extent}
use Rattle.slopes.specs.Sizes.{beside}
use Rattle.slopes.specs.Cases.{same_pieces}
use Rattle.slopes.proofs.rule.inner.Goals as goal

abbrev coded : ℤ → ℤ
coded x = to_z w64 (of_z w64 x)

-- what the tests say of the two pieces: neither is level, and both fall or both rise
module _ (unit : SlopeUnit) (left right : Extent) (agree : le_z (coded (coded left.z *ℤ coded right.z)) (pos 0) ≡ false) where
  positive : pos 0 <ℤ (left.z *ℤ right.z)
  positive = failed (beside unit left right) agree (search tests depth 30 fits 9000) tt

  module _ (falls : lt_z (coded left.z) (pos 0) ≡ true) where
    down : left.z <ℤ pos 0
    down = passed (beside unit left right) falls (search tests depth 30 fits 9000) tt

    right_falls : pos 0 <ℤ neg_ℤ right.z
    right_falls = (both_down unit.size left.h left.z right.h right.z positive down).1

    is_falling : neg_ℤ (mean unit.size left.h (neg_ℤ left.z) right.h (neg_ℤ right.z)) ≡ inner_slope unit.size left.h left.z right.h right.z
    is_falling = inner_down unit.size left.h left.z right.h right.z positive down

  module _ (rises : lt_z (coded left.z) (pos 0) ≡ false) where
    up : pos 0 ≤ℤ left.z
    up = failed (beside unit left right) rises (search tests depth 30 fits 9000) tt

    right_rises : pos 0 <ℤ right.z
    right_rises = (both_up unit.size left.h left.z right.h right.z positive up).1

    is_rising : mean unit.size left.h left.z right.h right.z ≡ inner_slope unit.size left.h left.z right.h right.z
    is_rising = inner_up unit.size left.h left.z right.h right.z positive up

pub overflow_mul-both : goal.overflow_mul-both
overflow_mul-both c = fits (beside c.args.unit c.args.left c.args.right) (search code depth 30 fits 9000) tt

pub returns-then-both-le0 : goal.returns-then-both-le0
returns-then-both-le0 c =
    let a = c.args in
    inner_level a.unit.size a.left.h a.left.z a.right.h a.right.z (passed_at_most (beside a.unit a.left a.right) c.if-both-le0.true (search tests depth 30 fits 9000) tt)

-- ---- two falls

pub mean-requires-clause-right_rises : goal.mean-requires-clause-right_rises
mean-requires-clause-right_rises c =
    let a = c.args in
    subst (λ (z : ℤ). pos 0 <ℤ z) (sym c.mirrored-then-left-lt0.ensures.z) (right_falls a.unit a.left a.right (assumption) c.if-left-lt0.true)

turned_twice : (x y : ℤ) {m n : ℤ} → m ≡ neg_ℤ x → n ≡ neg_ℤ y → x *ℤ y ≡ m *ℤ n
turned_twice x y e f = ring (x ∷ y ∷ []) (search quote depth 30 fits 9000) tt ∙ ap₂ ◌*ℤ◌ (sym e) (sym f)

pub mean-requires-clause-both : goal.mean-requires-clause-both
mean-requires-clause-both c =
    plain_is {Γ = beside c.args.unit c.args.left c.args.right} (search code depth 30 fits 9000) tt ∙ turned_twice c.args.left.z c.args.right.z c.mirrored.ensures.z c.mirrored-then-left-lt0.ensures.z

pub overflow_sub-result : goal.overflow_sub-result
overflow_sub-result c = fits (known c.mean.result 805306368 c.mean.ensures.size ∷ []) (search code depth 30 fits 9000) tt

pub returns-then-left-lt0 : goal.returns-then-left-lt0
returns-then-left-lt0 c =
    let a = c.args in
    let m = c.mirrored.ensures in
    let n = c.mirrored-then-left-lt0.ensures in
    plain_is {Γ = known c.mean.result 805306368 c.mean.ensures.size ∷ []} (search code depth 30 fits 9000) tt
    ∙ ap neg_ℤ (c.mean.ensures.value ∙ same_pieces mean {U = a.unit.size} refl m.h m.z n.h n.z)
    ∙ is_falling a.unit a.left a.right (assumption) c.if-left-lt0.true

-- ---- two rises

pub mean-requires-2-clause-right_rises : goal.mean-requires-2-clause-right_rises
mean-requires-2-clause-right_rises c = right_rises c.args.unit c.args.left c.args.right (assumption) c.if-left-lt0.false

pub mean-requires-2-clause-both : goal.mean-requires-2-clause-both
mean-requires-2-clause-both c = plain_is {Γ = beside c.args.unit c.args.left c.args.right} (search code depth 30 fits 9000) tt

pub returns : goal.returns
returns c = returned w32 c.mean-2.type_inv c.mean-2.ensures.value ∙ is_rising c.args.unit c.args.left c.args.right (assumption) c.if-left-lt0.false
