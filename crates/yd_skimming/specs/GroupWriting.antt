-- What is written of groups that come one after another, of which none joins the one before (own).
use Rattle.std.specs.Prelude.{◌≡◌, List}
use Rattle.yd_ops.specs.Value.{BlockValue}
use Rattle.yd_grouping.specs.Building.{Built, with_last}
use Rattle.yd_skimming.specs.BlockWriting.{HasWritten}
use Rattle.yd_skimming.specs.Tails.{last_tail}
use Rattle.yd_skimming.specs.declared.group_writing.GroupWriter.{GroupWriter}

-- the blocks of what is built, with its last group
abbrev pub blocks_in : Built → List BlockValue
blocks_in built = with_last built.blocks built.last

-- what is built is written, and the tail is that of its last group
pub record HasBuilt (w : GroupWriter) (built : Built) : Type 0 where
  pub written : HasWritten w.blocks (blocks_in built)
  pub tail : w.tail ≡ last_tail built.last
