use Rattle.yd_v1.proofs.WrittenLemmas.{written_again}
use Rattle.yd_v1.proofs.writer.V1WriterFieldWriter.finish.Goals as goal

pub returns-clause-read_again : goal.returns-clause-read_again
returns-clause-read_again c = written_again
