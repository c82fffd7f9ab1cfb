use Rattle.std.proofs.Common.{◌+◌, arith}
use Rattle.std.specs.Vec.Iter.{into_iter_len}
use Rattle.yd_ops.specs.Valid.{IsValidBlock}
use Rattle.yd_ops.specs.View.{block_value}
use Rattle.yd_ops.proofs.EachLemmas.{each_read}
use Rattle.yd_entries.proofs.BackedLemmas.{backed_none, backed_grown}
use Rattle.yd_received.proofs.LoweringLemmas.{keeps_none}
use Rattle.yd_received.proofs.RestLemmas.{all_left, next_within, next_there, rest_left}
use Rattle.yd_received.proofs.SequenceLemmas.{taken_none, block_more, block_keeps}
use Rattle.yd_received.proofs.structs.take_blocks.Goals as goal

pub loop-block-init : goal.loop-block-init
loop-block-init c =
    let gives = c.into_iter-block-iterator.ensures.into_iter_gives in (
      0,
      all_left _ _ _ gives.0 (omega (arith, gives.1, c.args.blocks.ok.0)),
      taken_none c.args.runs.now.items c.args.taken.now c.requires.taken,
      backed_none _ c.args.before.now c.args.taken.now,
      keeps_none c.args.before.now _ _,
    )

pub take_structs-requires-clause-client : goal.take_structs-requires-clause-client
take_structs-requires-clause-client c =
    let (n, rest, taken, backed, keeps) = c.loop-block.invariant in
    let step = c.in-Some.ensures.steps.0 in
    (each_read block_value IsValidBlock c.args.blocks.items n c.in-Some.block c.requires.blocks (next_within _ n c.in-Some.block _ _ _ rest step) (next_there _ n c.in-Some.block _ _ _ rest step)).client

pub take_structs-requires-clause-clock : goal.take_structs-requires-clause-clock
take_structs-requires-clause-clock c =
    let (n, rest, taken, backed, keeps) = c.loop-block.invariant in
    let step = c.in-Some.ensures.steps.0 in
    (each_read block_value IsValidBlock c.args.blocks.items n c.in-Some.block c.requires.blocks (next_within _ n c.in-Some.block _ _ _ rest step) (next_there _ n c.in-Some.block _ _ _ rest step)).clock

pub take_structs-requires-clause-structs : goal.take_structs-requires-clause-structs
take_structs-requires-clause-structs c =
    let (n, rest, taken, backed, keeps) = c.loop-block.invariant in
    let step = c.in-Some.ensures.steps.0 in
    let valid = each_read block_value IsValidBlock c.args.blocks.items n c.in-Some.block c.requires.blocks (next_within _ n c.in-Some.block _ _ _ rest step) (next_there _ n c.in-Some.block _ _ _ rest step) in
    rw c.into_vec.ensures valid.structs

pub returns-in_err-more-clause-backed : goal.returns-in_err-more-clause-backed
returns-in_err-more-clause-backed c =
    let (n, rest, taken, backed, keeps) = c.loop-block.invariant in
    backed_grown c.args.runs.now.items c.loop-block.runs.items c.args.before.now c.loop-block.before c.take_structs.new.before c.args.taken.now c.loop-block.taken c.take_structs.new.taken
    taken.grows backed c.in_err-more.ensures.backed

pub loop-block-preserved : goal.loop-block-preserved
loop-block-preserved c =
    let (n, rest, taken, backed, keeps) = c.loop-block.invariant in
    let step = c.in-Some.ensures.steps.0 in
    let within = next_within _ n c.in-Some.block _ _ _ rest step in
    let there = next_there _ n c.in-Some.block _ _ _ rest step in (
      n + 1,
      rest_left _ n c.in-Some.block _ _ _ rest step (into_iter_len c.next.new.self) (omega (arith, c.in-Some.ensures.steps.1)),
      block_more c.args.runs.now.items c.loop-block.runs.items _ c.args.taken.now c.loop-block.taken _ c.loop-block.brings c.in_ok-more.more c.args.blocks.items n c.in-Some.block
          within there taken (rw c.into_vec.ensures at c.in_ok-more.ensures.taken) (rw c.into_vec.ensures at c.in_ok-more.ensures.brings) c.in_ok-more.ensures.unchanged c.in_ok-more.ensures.grows,
      backed_grown c.args.runs.now.items c.loop-block.runs.items c.args.before.now c.loop-block.before c.take_structs.new.before c.args.taken.now c.loop-block.taken
          c.take_structs.new.taken taken.grows backed c.in_ok-more.ensures.backed,
      block_keeps c.args.runs.now.items c.loop-block.runs.items c.args.taken.now c.loop-block.taken c.loop-block.brings c.args.before.now c.loop-block.before c.take_structs.new.before
          c.requires.taken c.args.blocks.items n c.in-Some.block within there taken keeps (rw c.into_vec.ensures at c.in_ok-more.ensures.lowers),
    )
