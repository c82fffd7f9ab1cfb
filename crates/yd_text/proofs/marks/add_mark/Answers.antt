use Rattle.std.proofs.Common.{arith}
use Rattle.yd_text.proofs.marks.add_mark.Goals as goal

pub insert-requires : goal.insert-requires
insert-requires c = record { client = c.requires.within.client; end = omega (arith, c.requires.within.ids, c.requires.some) }
