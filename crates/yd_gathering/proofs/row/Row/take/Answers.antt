use Rattle.std.proofs.Common.{refl}
use Rattle.yd_gathering.proofs.RowLemmas.{row_kept}
use Rattle.yd_gathering.proofs.row.Row.take.Goals as goal

pub returns : goal.returns
returns c = row_kept c.args.self.now c.close.new.self _ c.args.update c.in_ok-close.ensures c.in_ok-push.ensures.appended refl refl c.requires
