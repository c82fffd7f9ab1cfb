use Rattle.yd_hub.proofs.SyncLemmas.{synced_state, synced_taken}
use Rattle.yd_hub.proofs.law.sync_is_a_run.Goals as goal

pub returns : goal.returns
returns c = record { state = synced_state; taken = synced_taken }
