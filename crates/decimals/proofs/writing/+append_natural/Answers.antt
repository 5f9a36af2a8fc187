-- `decimals::writing::append_natural` meets its contract: one digit, or the digits of a tenth and then the last digit.
use Rattle.std.proofs.Common.{subst, arith, List, ℕ}
use Rattle.words.specs.Lines.{Appended}
use Rattle.words.specs.Joining.{both}
use Rattle.decimals.specs.Spelling.{one_digit, by_tenths}
use Rattle.decimals.proofs.writing.+append_natural.Goals as goal

pub returns-then-n-lt10 : goal.returns-then-n-lt10
returns-then-n-lt10 t c =
    let a = c.args in
    let r = c.append_digit in
    subst (λ (l : List ℕ). Appended a.into.now a.held l r.new.into r.result) (one_digit a.n c.if-n-lt10.true) r.ensures

pub returns : goal.returns
returns t c =
    let a = c.args in
    let r = c.append_digit-2 in
    subst (λ (l : List ℕ). Appended a.into.now a.held l r.new.into r.result) (by_tenths a.n (omega arith)) (both c.append_natural-tens.ensures r.ensures)
