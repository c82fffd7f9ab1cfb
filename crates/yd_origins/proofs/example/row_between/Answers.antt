use Rattle.std.proofs.Common.{refl}
use Rattle.yd_ids.proofs.IdLemmas.{differs}
use Rattle.yd_origins.specs.Before.{by_left, by_right, onward}
use Rattle.yd_origins.proofs.example.row_between.Goals as goal

pub returns : goal.returns
returns c = record {
  reached = onward (by_right refl) (by_left refl);
  between = (tt, (differs _ _ refl, refl));
  order = refl;
  scan = refl;
}
