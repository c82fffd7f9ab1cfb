use Rattle.yd_ops.specs.View.{struct_value}
use Rattle.yd_building.specs.Builder.{group_value}
use Rattle.yd_building.proofs.PuttingLemmas.{end_grown}
use Rattle.yd_building.proofs.growing.Growing.extended.Goals as goal

pub invariant_of-result : goal.invariant_of-result
invariant_of-result c = end_grown c.self.inside.block.client c.self.inside.block.clock c.self.inside.block.structs c.push_behind.new.structs (group_value c.args.group) c.id-id.result
    (struct_value c.into_struct.result) c.self.inside.end c.max-begins.result c.len.result c.in-Some.end
    c.self.invariant c.id-id.ensures c.max-begins.ensures c.len.ensures c.in-Some.ensures.1 c.into_struct.ensures c.in_ok-push_behind.ensures
