use Rattle.yd_hub.proofs.FlagLemmas.{carried_again, carried_parts, out_again}
use Rattle.yd_hub.proofs.law.told_says_all.Goals as goal

pub returns : goal.returns
returns c = record { carried_again = carried_again; in_parts = carried_parts; again = out_again }
