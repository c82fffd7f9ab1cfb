use Rattle.std.proofs.Common.{◌≡◌, ◌+◌, ◌^◌, ◌<◌, length}
use denote.Text.{Utf8}
use denote.Shadow.{shadow}
use Rattle.yd_script.specs.Lines.{lines_behind}
use Rattle.yd_script.proofs.lines.next_line.Given as goal

abbrev pub invariant-loop-rest : goal.invariant-loop-rest
invariant-loop-rest l = record {
  text : shadow (Utf8 l.rest);
  left : lines_behind l.number l.rest ≡ lines_behind l.before l.text;
  few : l.number + length l.rest < 2 ^ 63;
}

abbrev pub decreases-loop-rest : goal.decreases-loop-rest
decreases-loop-rest l = length l.rest
