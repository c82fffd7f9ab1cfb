use Rattle.yd_v1.proofs.LogTakingLemmas.{list_made}
use Rattle.yd_v1.proofs.log_reading.read_list.Goals as goal

pub returns-clause-made : goal.returns-clause-made
returns-clause-made c = (list_made c.args.bytes.now c.new-list.result c.take_entries.new.taker c.new-list.ensures c.in_ok-take_entries.ensures.taken).made

pub returns-clause-valid : goal.returns-clause-valid
returns-clause-valid c = (list_made c.args.bytes.now c.new-list.result c.take_entries.new.taker c.new-list.ensures c.in_ok-take_entries.ensures.taken).valid
