use Rattle.yd_sync.proofs.MessageLemmas.{messages_one}
use Rattle.yd_sync.proofs.law.messages_are_one.Goals as goal

pub returns : goal.returns
returns c = messages_one
