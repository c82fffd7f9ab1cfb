use Rattle.yd_files.proofs.VerdictLemmas.{files_judged}
use Rattle.yd_files.proofs.law.files_are_judged.Goals as goal

pub returns : goal.returns
returns c = files_judged
