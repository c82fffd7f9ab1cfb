use Rattle.yd_hub.proofs.WholeLemmas.{whole_ids, whole_shown}
use Rattle.yd_hub.proofs.law.exchanges_show_alike.Goals as goal

pub returns : goal.returns
returns c = record { same_ids = whole_ids; shown = whole_shown }
