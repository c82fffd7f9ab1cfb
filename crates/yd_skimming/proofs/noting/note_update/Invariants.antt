use Rattle.std.proofs.Common.{◌++◌, map, drop}
use Rattle.yd_words.specs.Each.{Each}
use Rattle.yd_ids.specs.Id.{IsSpan}
use Rattle.yd_ids.specs.Set.{HaveSameIds}
use Rattle.yd_ops.specs.View.{block_value}
use Rattle.yd_merge.specs.Lending.{blocks_groups}
use Rattle.yd_merge.specs.Reaching.{spans_of}
use Rattle.yd_skimming.proofs.noting.note_update.Given as goal

-- with the ids of the blocks that are left, all are noted
abbrev pub invariant-loop-block : goal.invariant-loop-block
invariant-loop-block l = record {
  spans : Each IsSpan l.spans.items;
  noted : HaveSameIds (l.spans.items ++ spans_of (blocks_groups (map block_value (drop l.block-index l.update.blocks))))
      (l.initial.spans.items ++ spans_of (blocks_groups (map block_value l.update.blocks)));
}
