use Rattle.yd_editing.proofs.FormattingLemmas.{formatted}
use Rattle.yd_editing.proofs.law.formats_stand.Goals as goal

pub returns : goal.returns
returns c = formatted
