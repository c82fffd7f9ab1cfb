use Rattle.std.proofs.Common.{◌≡◌, map, length}
use Rattle.yd_words.specs.Each.{Each}
use Rattle.yd_ops.specs.Valid.{IsValidUpdate}
use Rattle.yd_ops.specs.View.{update_value}
use Rattle.yd_script.specs.Lines.{script_lines}
use Rattle.yd_doc.specs.Kept.{received_of}
use Rattle.yd_playing.specs.Desk.{desk_of}
use Rattle.yd_playing.specs.Played.{SoFar}
use Rattle.yd_playing.proofs.playing.play.Given as goal

-- the lines that came were played
abbrev pub invariant-loop-line : goal.invariant-loop-line
invariant-loop-line l = record {
  client : l.replica.client ≡ l.fn.replica.client;
  so_far : SoFar l.fn.replica.client (received_of l.fn.replica) (desk_of l.replica l.desk) (script_lines l.script) l.lines (map update_value l.updates);
  valid : Each IsValidUpdate (map update_value l.updates);
}

abbrev pub decreases-loop-line : goal.decreases-loop-line
decreases-loop-line l = length l.lines
