use Rattle.std.proofs.Common.{◌≡◌, length, map}
use Rattle.std.specs.Vec.Iter.{into_iter_items, into_iter_len}
use Rattle.yd_value.specs.View.{shown_trees}
use Rattle.yd_modes.specs.Gathering.{made, told_inserts}
use Rattle.yd_modes.proofs.ListLemmas.{joined_trees}
use Rattle.yd_modes.proofs.inserts.delta_of.Given as goal

abbrev pub invariant-loop-piece : goal.invariant-loop-piece
invariant-loop-piece l = record {
  shown : joined_trees (shown_trees l.inserts) (told_inserts (map made (into_iter_items l.piece-iterator))) ≡ told_inserts (map made l.fn.pieces.items);
  count : into_iter_len l.piece-iterator ≡ length (into_iter_items l.piece-iterator);
}
