use Rattle.std.proofs.Common.{subst}
use Rattle.yd_fields.specs.Lent.{lent_struct}
use Rattle.yd_gathering.specs.Blocks.{Puts}
use Rattle.yd_gathering.proofs.BlocksLemmas.{content_valid, takes_struct}
use Rattle.yd_gathering.proofs.blocks.BlocksStructTaker.take.Goals as goal

pub made-requires : goal.made-requires
made-requires c = content_valid c.args.id (lent_struct c.args.entry.now) c.requires

pub returns : goal.returns
returns c = takes_struct c.args.self.now c.put.new.self c.args.id (lent_struct c.args.entry.now) (subst (Puts c.args.self.now c.put.new.self c.args.id) c.in-Ok.ensures c.in-Ok-put.ensures)
