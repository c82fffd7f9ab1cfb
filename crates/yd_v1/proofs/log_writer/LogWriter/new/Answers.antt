use Rattle.yd_v1.proofs.LogWriterLemmas.{none_taken}
use Rattle.yd_v1.proofs.log_writer.LogWriter.new.Goals as goal

pub returns : goal.returns
returns c = rw c.new-2.ensures none_taken
