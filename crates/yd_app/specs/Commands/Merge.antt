-- What `merge` writes of updates (Yjs 13, mergeUpdates; that it is grouped is own).
use Rattle.std.specs.Prelude.{ℕ, List}
use Rattle.yd_grouping.specs.Merged.{merge_of}
use Rattle.yd_ops.specs.Value.{UpdateValue}
use Rattle.yd_app.specs.Commands.Convert.{StandsAgain, converted_bytes}
use Rattle.yd_asking.specs.declared.format.Format.{Format}

-- the merge of the updates, in a format
abbrev pub merged_output : Format → List UpdateValue → List ℕ
merged_output form us = converted_bytes form (merge_of us)

-- what is written stands for the merge
abbrev pub MergedStandsAgain : Format → List UpdateValue → Type 0
MergedStandsAgain form us = StandsAgain form (merged_output form us) (merge_of us)
