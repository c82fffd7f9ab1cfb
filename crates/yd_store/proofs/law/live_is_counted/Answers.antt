use Rattle.yd_store.proofs.LiveLemmas as live
use Rattle.yd_store.proofs.law.live_is_counted.Goals as goal

pub returns : goal.returns
returns c = live.live_is_counted
