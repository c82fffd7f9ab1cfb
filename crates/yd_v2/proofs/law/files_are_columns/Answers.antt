use Rattle.yd_v2.proofs.FileColumnLemmas.{files_columns}
use Rattle.yd_v2.proofs.law.files_are_columns.Goals as goal

pub returns : goal.returns
returns c = files_columns
