use Rattle.yd_skimming.proofs.ReachLemmas.{sections_are_taken}
use Rattle.yd_skimming.proofs.reaching.ReachUpdateTaker.take_v1.Goals as goal

pub returns-clause-took : goal.returns-clause-took
returns-clause-took c = let taken = c.in_ok-take_structs_v1.ensures.took in record {
  update = taken.update;
  read = taken.is_read;
  valid = taken.valid;
  taken = sections_are_taken c.args.self.now c.take_structs_v1.new.taker taken.update taken.taken;
}
