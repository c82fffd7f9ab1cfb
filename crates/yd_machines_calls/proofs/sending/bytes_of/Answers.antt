use Rattle.yd_machines_calls.proofs.SentLemmas.{valid_at}
use Rattle.yd_machines_calls.proofs.sending.bytes_of.Goals as goal

pub write_message-requires : goal.write_message-requires
write_message-requires c = valid_at c.args.messages.now c.loop-message.message-index c.message-item.result c.loop-message-test.true c.message-item.is c.requires
