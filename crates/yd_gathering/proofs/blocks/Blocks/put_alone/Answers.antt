use Rattle.std.proofs.Common.{◌∙◌, ◌++◌, map, ap}
use Rattle.yd_ops.specs.View.{block_value, struct_value}
use Rattle.yd_gathering.specs.Blocks.{last_blocks}
use Rattle.yd_gathering.proofs.BlocksLemmas.{put_first}
use Rattle.yd_gathering.proofs.blocks.Blocks.put_alone.Goals as goal

pub returns : goal.returns
returns c =
    let front = c.in_ok-put_done.ensures ∙ ap (λ last. map block_value c.args.self.now.done ++ last_blocks last) c.replace-last.ensures.value in
    put_first c.args.self.now _ c.new-growing.result c.args.id (struct_value c.args.first) front c.replace-last.ensures.after c.new-growing.ensures.block c.new-growing.ensures.grown
