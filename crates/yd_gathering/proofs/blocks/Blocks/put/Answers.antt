use Rattle.std.proofs.Common.{refl}
use Rattle.yd_ops.specs.View.{struct_value}
use Rattle.yd_gathering.proofs.BlocksLemmas.{put_last}
use Rattle.yd_gathering.proofs.blocks.Blocks.put.Goals as goal

pub returns-then-ends_at : goal.returns-then-ends_at
returns-then-ends_at c = put_last c.args.self.now _ c.in-Some.last c.push.new.self c.args.id (struct_value c.args.next) c.in-Some.is refl refl (c.ends_at.ensures c.if-ends_at.true) c.in_ok-push.ensures
