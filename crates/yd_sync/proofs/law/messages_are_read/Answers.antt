use Rattle.yd_sync.proofs.MessageLemmas.{messages_read}
use Rattle.yd_sync.proofs.law.messages_are_read.Goals as goal

pub returns : goal.returns
returns c = messages_read
