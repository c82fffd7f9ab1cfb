use Rattle.yd_files.proofs.NameLemmas.{files_same}
use Rattle.yd_files.proofs.law.words_name_files.Goals as goal

pub returns : goal.returns
returns c = files_same
