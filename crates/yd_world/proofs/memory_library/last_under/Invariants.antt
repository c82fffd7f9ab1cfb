use Rattle.std.proofs.Common.{take}
use Rattle.yd_world.specs.MemoryLibrary.{IsLast}
use Rattle.yd_world.proofs.memory_library.last_under.Given as goal

abbrev pub invariant-loop-file : goal.invariant-loop-file
invariant-loop-file l = IsLast (take l.file l.files) l.name l.found
