use Rattle.yd_gathering.specs.Late.{body_at, update_at}
use Rattle.yd_gathering.proofs.LateLemmas.{only_want}
use Rattle.yd_gathering.proofs.late.Late.gather.Goals as goal

pub only_memory-requires : goal.only_memory-requires
only_memory-requires c = only_want (body_at c.args.self.now.bytes.items c.args.place.now) (update_at c.args.self.now.bytes.items c.args.place.now) c.in-Err.error c.requires.read (rw c.deref.ensures.value at c.in-Err.ensures.fails)

pub returns-in-Ok : goal.returns-in-Ok
returns-in-Ok c = rw c.deref.ensures.value at c.in-Ok.ensures.took
