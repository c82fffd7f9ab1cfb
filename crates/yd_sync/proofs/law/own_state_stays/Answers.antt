use Rattle.yd_sync.proofs.OwnLemmas.{own_stays, own_rises, own_full, own_taken, own_not_old}
use Rattle.yd_sync.proofs.law.own_state_stays.Goals as goal

pub returns : goal.returns
returns c = record { stays = own_stays; rises = own_rises; ignored = own_full; taken = own_taken; not_old = own_not_old }
