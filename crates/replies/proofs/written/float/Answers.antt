-- The code's test is that of the definition, and so is the whole part of each sign.
use Rattle.std.proofs.Common.{ℕ, Bool, true, false, sym, ap, ◌∙◌}
use Rattle.replies.specs.Floats.{with_sign, float_as}
use Rattle.replies.proofs.written.float.Goals as goal

pub returns-then-is_negative : goal.returns-then-is_negative
unfolding float_as
returns-then-is_negative c =
    let negative = sym c.if-is_negative.true ∙ c.is_negative.ensures in
    ap (λ (n : ℕ). record { negative = true; size = n }) c.whole_part.ensures ∙ ap (λ (b : Bool). with_sign b c.args.x) negative

pub returns : goal.returns
unfolding float_as
returns c =
    let negative = sym c.if-is_negative.false ∙ c.is_negative.ensures in
    ap (λ (n : ℕ). record { negative = false; size = n }) c.whole_part-2.ensures ∙ ap (λ (b : Bool). with_sign b c.args.x) negative
