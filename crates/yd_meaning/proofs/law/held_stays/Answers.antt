use Rattle.yd_meaning.proofs.GrownHeldLemmas.{part_stays_held, received_stays_held}
use Rattle.yd_meaning.proofs.law.held_stays.Goals as goal

pub returns : goal.returns
returns c = record { parts = part_stays_held; received = received_stays_held }
