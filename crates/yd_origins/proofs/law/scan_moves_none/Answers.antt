use Rattle.std.proofs.Common.{refl}
use Rattle.yd_origins.specs.Table.{left_of, right_of}
use Rattle.yd_origins.proofs.PlacementLemmas.{scan_moves_none}
use Rattle.yd_origins.proofs.law.scan_moves_none.Goals as goal

pub returns : goal.returns
returns c = record {
  puts_in = λ table list new. refl;
  keeps = λ table list new. scan_moves_none (left_of table) (right_of table) list new;
}
