use Rattle.yd_v1.proofs.FitLemmas.{v1_fits}
use Rattle.yd_v1.proofs.reader.V1ReaderFieldReader.reads_soundly.Goals as goal

pub returns-clause-fits : goal.returns-clause-fits
returns-clause-fits c = v1_fits
