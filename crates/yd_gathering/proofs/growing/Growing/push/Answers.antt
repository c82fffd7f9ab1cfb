use Rattle.std.proofs.Common.{refl, arith}
use Rattle.yd_ops.specs.View.{struct_value}
use Rattle.yd_gathering.proofs.GrowingLemmas.{grows}
use Rattle.yd_gathering.proofs.growing.Growing.push.Goals as goal

pub returns : goal.returns
returns c = grows c.args.self.now _ (struct_value c.args.next) refl refl (omega (arith, c.len.ensures)) c.in_ok-put_behind.ensures c.requires
