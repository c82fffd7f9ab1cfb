use Rattle.std.proofs.Common.{map}
use Rattle.yd_files.specs.Seen.{file_of}
use Rattle.yd_files.proofs.ReadingLemmas.{SoFar}
use Rattle.yd_files.proofs.reading.take_files.Given as goal

abbrev pub invariant-loop-file : goal.invariant-loop-file
invariant-loop-file g l = SoFar (g.L.Library.told l.fn.library) (g.L.Library.told l.library) (g.L.Library.faults l.fn.library) (g.L.Library.faults l.library) (g.L.Library.is_calm l.fn.library) (g.L.Library.is_calm l.library) (map file_of l.files) l.file-index (g.T.FileTaker.took l.taker)
