use Rattle.std.proofs.Common.{◌∙◌}
use Rattle.yd_aware.proofs.TreeLemmas.{remove_entry-row}
use Rattle.yd_aware.proofs.rows.remove.Goals as goal

pub returns : goal.returns
returns c = c.remove.ensures.entries ∙ remove_entry-row c.args.client c.args.rows.now.entries
