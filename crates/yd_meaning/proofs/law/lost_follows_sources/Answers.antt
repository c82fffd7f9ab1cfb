use Rattle.yd_meaning.specs.Held.{held_set}
use Rattle.yd_meaning.proofs.HeldLemmas.{held_needs}
use Rattle.yd_meaning.proofs.NeedLemmas.{source_needed}
use Rattle.yd_meaning.proofs.VectorLemmas.{held_written}
use Rattle.yd_meaning.proofs.StandingLemmas.{are_standing, standing_alone}
use Rattle.yd_meaning.proofs.LostLemmas.{lost_one, stands}
use Rattle.yd_meaning.proofs.law.lost_follows_sources.Goals as goal

pub returns : goal.returns
returns c = record {
  recurs = λ received written. lost_one (held_set received) (held_written received written) (λ o i y j. held_needs received o i y (source_needed o y j));
  stands = λ received written. stands (held_set received) (held_written received written);
  are = are_standing;
  alone = standing_alone;
}
