use Rattle.yd_received.proofs.LoweringLemmas.{keeps_none}
use Rattle.yd_received.proofs.SequenceLemmas.{skip_takes}
use Rattle.yd_received.proofs.structs.take_struct.Goals as goal

pub returns-in-Skip-clause-taken : goal.returns-in-Skip-clause-taken
returns-in-Skip-clause-taken c = rw c.in-Skip.is (skip_takes c.args.runs.now.items c.args.taken.now c.requires.taken)

pub returns-in-Skip-clause-lowers : goal.returns-in-Skip-clause-lowers
returns-in-Skip-clause-lowers c = keeps_none c.args.before.now _ _
