use Rattle.yd_v1.proofs.LogTakingLemmas.{log_whole, takes_log}
use Rattle.yd_v1.proofs.log_reading.take_log.Goals as goal

pub returns-clause-exact : goal.returns-clause-exact
returns-clause-exact g c =
    log_whole c.args.bytes.now (g.T.UpdateTaker.took c.args.taker.now) (g.T.UpdateTaker.took c.take_entries.new.taker) c.take_entries.result c.take_entries.ensures.taken c.take_entries.ensures.fails

pub returns-clause-taken : goal.returns-clause-taken
returns-clause-taken g c = takes_log c.args.bytes.now (g.T.UpdateTaker.took c.args.taker.now) (g.T.UpdateTaker.took c.take_entries.new.taker) c.take_entries.result c.take_entries.ensures.taken
