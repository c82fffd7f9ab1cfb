use Rattle.std.proofs.Common.{refl}
use Rattle.yd_world.proofs.MemoryLibraryLemmas.{Gives-front}
use Rattle.yd_world.proofs.memory_library.MemoryLibraryLibrary.read.Goals as goal

pub returns-clause-gives : goal.returns-clause-gives
returns-clause-gives c =
    let count = rw c.as_slice.ensures.value at c.read_at-count.ensures.count in
    let bytes = rw c.as_slice.ensures.value at c.read_at-count.ensures.bytes in
    let front = Gives-front _ _ _ _ _ count bytes c.self.invariant.2 in
    rw (← c.self.view_is, c.in-Some.is) (refl, front.0, front.1, refl)
