-- The code's two tests are those of the definition, and what the cast to a whole number asks.
use Rattle.std.proofs.Common.{ℕ, Bool, false, cond, T, pos, sym, ap, ◌∙◌, subst}
use lib.Ieee.{Float, fin, of_bits, neg, lt, to_unsigned}
use Rattle.replies.specs.Floats.{whole_part}
use Rattle.replies.proofs.written.whole_part.Goals as goal

pub truncating_f64_to_u64-requires-clause-lower_bound : goal.truncating_f64_to_u64-requires-clause-lower_bound
unfolding of_bits neg
truncating_f64_to_u64-requires-clause-lower_bound c = subst T (sym c.if-x.true) tt

pub truncating_f64_to_u64-requires-clause-upper_bound : goal.truncating_f64_to_u64-requires-clause-upper_bound
unfolding of_bits neg
truncating_f64_to_u64-requires-clause-upper_bound c = subst T (sym c.if-x-2.true) tt

-- what the definition makes of the first test, and of the second
abbrev above : Float → Bool → ℕ
above x b = cond b (cond (lt x (fin false 1 (pos 64))) (to_unsigned 64 x) 0) 0

abbrev below : Float → Bool → ℕ
below x b = cond b (to_unsigned 64 x) 0

pub returns-then-x-2 : goal.returns-then-x-2
unfolding of_bits neg whole_part
returns-then-x-2 c = let x = c.args.x in c.truncating_f64_to_u64.ensures ∙ sym (ap (above x) c.if-x.true ∙ ap (below x) c.if-x-2.true)

pub returns-else-x-2 : goal.returns-else-x-2
unfolding of_bits neg whole_part
returns-else-x-2 c = let x = c.args.x in sym (ap (above x) c.if-x.true ∙ ap (below x) c.if-x-2.false)

pub returns-else-x : goal.returns-else-x
unfolding of_bits neg whole_part
returns-else-x c = sym (ap (above c.args.x) c.if-x.false)
