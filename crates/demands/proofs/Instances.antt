-- A worked instance of each call's promise, for the Rattle functions and for those that C links: none of the promises is one that nothing meets. `InstancesBelow.antt` has those of
-- the other functions.
use Rattle.std.specs.Prelude.{refl, true, false, [], ◌∷◌, pos, negsuc, Ok}
use Rattle.std.proofs.Common.{lit<}
use Rattle.std.specs.Int.Signed.{le_z_yes, lt_z_yes}
use Rattle.std.specs.Float.{fin}
use Rattle.cubic.proofs.Monotone.{monotone_rising}
use Rattle.cubic.specs.Test.{line}
use Rattle.cubic.proofs.Test.{short_accepts}
use Rattle.rules.specs.Refusals.{Given, answered}
use Rattle.rules.specs.Order.{went_on}
use Rattle.table.specs.Accepted.{points_accepted, accepted_table}
use Rattle.piece.specs.declared.Verdict.TheVariants.{Rising}
use Rattle.piece.specs.Promise.{rising, ruling, Judged, monotone}
use Rattle.position.specs.Position.{Belongs, inside, HoldsAt, evaluation_order}
use Rattle.position.specs.Refused.{as_checked, taken_inside}
use Rattle.curve.specs.Curve.{Evaluated}
use Rattle.drive.specs.Drive.{Telling, move, Driving}
use Rattle.drive.specs.Figures.{on_the_fall}
use Rattle.drive.specs.Refused.{as_evaluated, taken_small}
use Rattle.exports.specs.Cases.{judged, moves}
use Rattle.demands.specs.Demands.{judge, points, build, check, locate, evaluate, float_answer, changed_points, point, Implementation}
use Rattle.demands.specs.Ours.{ours, ours_in-C, a_move}
use Rattle.demands.specs.Refuting.{within}
use Rattle.demands.proofs.SixteenGiven.{eighth, has_value}
use Rattle.demands.proofs.Programs.{outcome, may, two, two_within, two_built, two_passes, four, lowering, lowered, is_lowered}

-- 23038 and 6912 are 11519·2 and 27·2^8
abbrev numerator : Telling
numerator = move (fin false 0 (pos 0)) (fin true 11519 (pos 1)) (fin false 27 (pos 8))

-- (0,0), (3,−10) at position 1, and (0,0), (1,1), (2,4), (3,7) with point 0 changed to (0,−2)
pub record Worked (I : Implementation) : Type 0 where
  pub a_verdict : I.May (judge 8 (pos 1) (pos 1) (pos 256) (pos 256)) (outcome 0 0 rising tt)
  pub its_points : I.May (points two) (outcome 0 0 tt tt)
  pub a_build : I.May (build two) (outcome 0 0 tt (negsuc 852 ∷ negsuc 852 ∷ []))
  pub a_check : I.May (check two) (outcome 0 0 tt tt)
  pub a_piece : I.May (locate two (pos 1)) (outcome 0 0 0 tt)
  pub a_value : I.May (evaluate two (pos 1)) (outcome 0 0 (negsuc 2) tt)
  pub a_float_answer : I.May (float_answer two (pos 1)) (outcome 0 0 numerator tt)
  pub changed_points_are : I.May (changed_points lowering four) (outcome 0 0 tt tt)
  pub a_change : I.May (point [] lowering four) (outcome 0 0 tt lowered)

straight : Judged 8 (pos 1) (pos 1) (pos 256) (pos 256) (ruling 0 0 rising)
straight = monotone eighth (within tt tt) (within tt tt) (monotone_rising (lt_z_yes tt) (short_accepts (line (le_z_yes tt) (le_z_yes tt) (le_z_yes tt))))

in_piece_0 : Belongs two.knots (pos 1) 0
in_piece_0 = inside {i = 0} (lit< tt) (le_z_yes tt) (lt_z_yes tt)

at_1 : Given (HoldsAt two (pos 1)) evaluation_order 0 0
at_1 = went_on refl (as_checked two_passes) (taken_inside (within tt tt))

driven : Driving two (pos 1) 0 0 numerator
driven = record { refusal = went_on refl (as_evaluated at_1) (taken_small (accepted_table refl two_passes) in_piece_0 (λ l. l.above.lt)); answer = answered on_the_fall.at_1 }

its_value : Evaluated two (pos 1) 0 0 (negsuc 2)
its_value = has_value {before = two.slopes} (within tt tt) in_piece_0 refl (two_built two.slopes refl)

pub worked : Worked ours
worked =
    record {
      a_verdict = record { verdict = Ok Rising; says = refl; promised = straight };
      its_points = may (points two) (outcome 0 0 tt tt) (points_accepted eighth two_within refl);
      a_build = may (build two) (outcome 0 0 tt (negsuc 852 ∷ negsuc 852 ∷ [])) (two_built two.slopes refl);
      a_check = may (check two) (outcome 0 0 tt tt) two_passes;
      a_piece = may (locate two (pos 1)) (outcome 0 0 0 tt) (record { refusal = at_1; piece = answered in_piece_0 });
      a_value = may (evaluate two (pos 1)) (outcome 0 0 (negsuc 2) tt) its_value;
      a_float_answer = may (float_answer two (pos 1)) (outcome 0 0 numerator tt) driven;
      changed_points_are = may (changed_points lowering four) (outcome 0 0 tt tt) is_lowered.refusal;
      a_change = may (point [] lowering four) (outcome 0 0 tt lowered) is_lowered;
    }

pub worked_in-C : Worked ours_in-C
worked_in-C =
    record {
      a_verdict = judged straight;
      its_points = points_accepted eighth two_within refl;
      a_build = two_built two.slopes refl;
      a_check = two_passes;
      a_piece = record { refusal = at_1; piece = answered in_piece_0 };
      a_value = its_value;
      a_float_answer =
          record {
            told = record { refusal = record { number = 0; place = 0 }; kind = 1; left = fin false 0 (pos 0); numerator = fin true 11519 (pos 1); denominator = fin false 27 (pos 8) };
            refused_by = refl;
            says = a_move refl;
            promised = moves driven;
          };
      changed_points_are = is_lowered.refusal;
      a_change = record { promised = is_lowered; the_unit = refl };
    }
