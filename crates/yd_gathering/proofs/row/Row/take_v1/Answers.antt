use Rattle.std.proofs.Common.{refl}
use Rattle.yd_gathering.proofs.RowLemmas.{row_gathered}
use Rattle.yd_gathering.proofs.row.Row.take_v1.Goals as goal

pub returns-clause-took : goal.returns-clause-took
returns-clause-took c = row_gathered c.args.bytes.now c.args.self.now _ c.in_ok-deletes.deletes c.in_ok-deletes.ensures.took refl c.in_ok-note.ensures
