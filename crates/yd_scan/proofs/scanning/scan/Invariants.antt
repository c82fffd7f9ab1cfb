use Rattle.std.proofs.Common.{◌≡◌, ◌+◌, ◌-◌, [], length}
use Rattle.std.specs.Prelude.{slice_index_or}
use Rattle.yd_chains.specs.Link.{AreSound}
use Rattle.yd_scan.specs.Scanning.{IsScanning}
use Rattle.yd_scan.proofs.scanning.scan.Given as goal

abbrev pub invariant-loop-at : goal.invariant-loop-at
invariant-loop-at g l = record {
  sound : AreSound l.chains;
  started : l.start ≡ l.fn.counter;
  kept : length l.marks.items ≡ length l.fn.marks.items;
  scanning : IsScanning l.stretches (slice_index_or l.chains.chains l.chain []) l.fn.after l.new l.start l.marks.items l.counter l.moved l.place l.at;
}

abbrev pub decreases-loop-at : goal.decreases-loop-at
decreases-loop-at g l = l.start + length l.stretches - l.counter
