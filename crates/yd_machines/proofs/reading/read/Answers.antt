use Rattle.yd_machines.proofs.PeerLemmas.{makes_message}
use Rattle.yd_machines.proofs.reading.read.Goals as goal

pub returns-clause-made : goal.returns-clause-made
returns-clause-made c = makes_message c.args.bytes.now c.read_message-message.result c.messages_are_read.ensures c.read_message-message.ensures.exact
