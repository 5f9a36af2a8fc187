-- `decimals::writing::append_whole` meets its contract: a `-` and the digits of the magnitude.
use Rattle.std.proofs.Common.{ap, ◌∙◌, subst, List, ◌∷◌, ℕ, FitsSigned, w64}
use Rattle.std.proofs.lemmas.Int.{to_z-of_z}
use Rattle.words.specs.Lines.{Appended}
use Rattle.words.specs.Joining.{both}
use Rattle.decimals.specs.Text.{decimal_of}
use Rattle.decimals.specs.Spelling.{negative_text}
use Rattle.decimals.proofs.writing.append_whole.Goals as goal

pub returns-then-n-lt0 : goal.returns-then-n-lt0
returns-then-n-lt0 c =
    let n = c.args.n in
    let fits : FitsSigned w64 n = c.ranges.n in
    let h = simp to_z-of_z at c.if-n-lt0.true in
    let k = simp to_z-of_z at c.unsigned_abs.ensures.value in
    let r = c.append_natural in
    subst (λ (l : List ℕ). Appended c.args.into.now c.args.held l r.new.into r.result) (ap (λ (m : ℕ). 45 ∷ decimal_of m) k ∙ negative_text n h)
    (both c.append-signed.ensures r.ensures)
