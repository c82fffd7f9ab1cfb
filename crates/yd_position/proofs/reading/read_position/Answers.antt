use Rattle.yd_position.proofs.AnswerLemmas.{reads_position}
use Rattle.yd_position.proofs.reading.read_position.Goals as goal

pub returns-clause-exact : goal.returns-clause-exact
returns-clause-exact c = reads_position c.args.bytes.now c.read_parts.result c.read_parts.ensures.made
