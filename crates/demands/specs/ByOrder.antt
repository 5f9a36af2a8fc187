-- Which refusal is given: the demands say it of the order as a whole, the first cause that holds at its first place. `Given`, by which the functions promise it, goes
-- through the order step by step; the two say the same.
use Rattle.std.specs.Prelude.{◌≡◌, refl, ◌↔◌, List, [], ◌∷◌, ◌++◌, ℕ, ◌<◌}
use Rattle.std.proofs.Common.{sym, ap, subst, subst₂, arith}
use Rattle.rules.specs.Refusals.{Given, done, refused, passed}
use Rattle.rules.specs.Order.{one_given, refused_by}
use Rattle.demands.specs.Demands.{Among, here, behind, NoneHolds, First}

module _ {H : ℕ → ℕ → Type 0} where
  one_more : {c : ℕ} {causes : List ℕ} → ((q : ℕ) → H c q → ⊥) → NoneHolds H causes → NoneHolds H (c ∷ causes)
  one_more {c} {causes} f n = record { none = go }
    where
      go : (d q : ℕ) → Among d (c ∷ causes) → H d q → ⊥
      go d q here h = f q h
      go d q (behind m) h = n.none d q m h

  no_cause : NoneHolds H []
  no_cause = record { none = λ c q m h. elim m [ ] }

  given_first : {order : List ℕ} {c place : ℕ} → 0 < c → Given H order c place → First H order c place
  given_first l done = absurd (omega (arith, l))
  given_first l (refused h e) = record { earlier = []; later = _; order_is = refl; holds = h; at_no_place_before = e; no_earlier_one = no_cause }
  given_first l (passed {c = d} f g) =
      let r = given_first l g in
      record {
        earlier = d ∷ r.earlier;
        later = r.later;
        order_is = ap (λ (o : List ℕ). d ∷ o) r.order_is;
        holds = r.holds;
        at_no_place_before = r.at_no_place_before;
        no_earlier_one = one_more f r.no_earlier_one;
      }

  skipped : {earlier rest : List ℕ} {n p : ℕ} → NoneHolds H earlier → Given H rest n p → Given H (earlier ++ rest) n p
  skipped {earlier = []} f g = g
  skipped {earlier = c ∷ earlier} f g = passed (λ q. f.none c q here) (skipped (record { none = λ d q m. f.none d q (behind m) }) g)

  first_given : {order : List ℕ} {c place : ℕ} → 0 < c → First H order c place → Given H order c place
  first_given {c = c} {place} l f =
      subst (λ (o : List ℕ). Given H o c place) (sym f.order_is) (skipped f.no_earlier_one (refused_by l f.holds f.at_no_place_before))

  -- a number that is not 0 is given, at a place, exactly if it is the first cause
  pub refused_exactly : {order : List ℕ} {n p : ℕ} → Given H order n p → (c q : ℕ) → 0 < c → ((n ≡ c) × (p ≡ q)) ↔ First H order c q
  refused_exactly {order} g c q l = (
    λ e. given_first l (subst₂ (Given H order) e.0 e.1 g),
    λ f. one_given g (first_given l f),
  )

  -- and where no cause of the order holds, none is given
  pub none_given : {order : List ℕ} → NoneHolds H order → Given H order 0 0
  none_given {order = []} f = done
  none_given {order = c ∷ order} f = passed (λ q. f.none c q here) (none_given (record { none = λ d q m. f.none d q (behind m) }))

  pub none_holds : {order : List ℕ} {p : ℕ} → Given H order 0 p → NoneHolds H order
  none_holds done = no_cause
  none_holds (passed f g) = one_more f (none_holds g)
