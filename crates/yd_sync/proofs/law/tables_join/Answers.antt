use Rattle.yd_sync.proofs.TableLemmas.{events_join}
use Rattle.yd_sync.proofs.law.tables_join.Goals as goal

pub returns : goal.returns
returns c = events_join
