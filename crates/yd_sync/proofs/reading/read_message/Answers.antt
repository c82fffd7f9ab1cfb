use Rattle.yd_sync.proofs.AnswerLemmas.{reads_message}
use Rattle.yd_sync.proofs.reading.read_message.Goals as goal

pub returns-clause-exact : goal.returns-clause-exact
returns-clause-exact c = reads_message c.args.bytes.now c.read_parts.result c.read_parts.ensures.made
