use Rattle.yd_origins.proofs.ArrangingLemmas.{scan_sorts}
use Rattle.yd_origins.proofs.PlacementLemmas.{scan_law}
use Rattle.yd_origins.proofs.law.scan_keeps_order.Goals as goal

pub returns : goal.returns
returns c = record {
  in_order = λ table list new t f r.
      scan_law table t f list new r.is_row r.is_new r.within r.has_left r.has_right r.new_left r.new_right r.smaller_clocks;
  sorted = λ part table new t f p q left_there right_there own. scan_sorts part table new t f p q left_there right_there own;
}
