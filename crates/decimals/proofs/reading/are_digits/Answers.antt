-- `decimals::reading::are_digits` meets its contract: `all` asks of each byte what `are_digits` asks.
use Rattle.std.proofs.Common.{◌≡◌, refl, ◌∙◌, ap, ℕ, List, [], ◌∷◌, Bool, true, false, cond, ◌&&◌, rules, tests}
use Rattle.std.specs.List.{list_all}
use Rattle.std.proofs.lemmas.Iterator.{YieldsList-from_slice}
use Rattle.std.proofs.lemmas.Iterator.Search.{all_from_yields_List}
use Rattle.decimals.specs.Decimal.{is_digit, are_digits}
use Rattle.decimals.proofs.reading.are_digits.Goals as goal

both : (s t : Bool) → s && t ≡ cond s t false
both true t = refl
both false t = refl

each : (bs : List ℕ) → list_all is_digit bs ≡ are_digits bs
unfolding are_digits
each [] = refl
each (b ∷ bs) = both (is_digit b) (list_all is_digit bs) ∙ ap (λ (t : Bool). cond (is_digit b) t false) (each bs)

pub returns : goal.returns
returns c =
    all_from_yields_List is_digit _ _ _ c.all.ensures.ran (YieldsList-from_slice c.args.text.now cc) (λ x b q k. search (rules, tests))
    ∙ each c.args.text.now
