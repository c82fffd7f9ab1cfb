use Rattle.yd_world.proofs.MemoryLibraryLemmas.{IsLast-turn-same, IsLast-turn-other}
use Rattle.yd_world.proofs.memory_library.last_under.Goals as goal
use Rattle.yd_world.proofs.memory_library.last_under.Goals.{then-eq, else-eq}

pub loop-file-preserved : goal.loop-file-preserved
loop-file-preserved c =
    elim c.if-eq.branch [
      | then-eq w ↦ rw w.found-is (IsLast-turn-same _ _ c.index-files-file.result _ c.loop-file-test.true c.index-files-file.is (cc))
      | else-eq w ↦ rw w.found-is (IsLast-turn-other _ _ c.index-files-file.result _ _ c.loop-file-test.true c.index-files-file.is (cc) c.loop-file.invariant)
    ]
