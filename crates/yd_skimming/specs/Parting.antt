-- What one struct has, lent, and which structs have units (own).
use Rattle.std.specs.Prelude.{Bool, true, false, Some, None}
use Rattle.yd_units.specs.Text.{units_of}
use Rattle.yd_ids.specs.declared.id.Id.{Id}
use Rattle.yd_ops.specs.Value.{StructValue, gone, item, len_of, skip}
use Rattle.yd_ops.specs.View.{content_value}
use Rattle.yd_ops.specs.declared.contents.Content.TheVariants.{Str}
use Rattle.yd_ops.specs.declared.runs.Run.{Run}
use Rattle.yd_ops.specs.declared.updates.Struct.TheVariants.{Gone, Item, Skip}
use Rattle.yd_grouping.specs.Groups.{Group, of_gone, of_run}
use Rattle.yd_fields.specs.declared.lent.LentRun.{LentRun}
use Rattle.yd_fields.specs.declared.lent.LentStruct.{LentStruct}
use Rattle.yd_fields.specs.declared.lent.LentStruct.TheVariants.{Made, Text}
use Rattle.yd_merge.specs.declared.lending.Lent.{Lent}

-- whether a struct is a skip, which has no unit
abbrev pub is_skip : StructValue → Bool
is_skip (item run) = false
is_skip (skip count) = true
is_skip (gone count) = false

-- what a struct at an id has, if it is no skip
abbrev pub group_at : Id → StructValue → Group
group_at id (item run) = of_run run
group_at id (skip count) = of_gone id count
group_at id (gone count) = of_gone id count

-- a run of a text, with its units
abbrev pub text_run : LentRun → Run
text_run run = record { id = run.id; left = run.left; right = run.right; list = run.list; content = Str (units_of run.text) }

-- a run, lent from anywhere
abbrev pub run_lent : Id → Run → Lent
run_lent id run = record { id = id; len = len_of (content_value run.content); run = Some (record { ref_ptr = (0, 0); now = run }) }

-- what a struct at an id has, lent
abbrev pub lent_at : Id → LentStruct → Lent
lent_at id (Text run) = run_lent id (text_run run)
lent_at id (Made (Item run)) = run_lent id run
lent_at id (Made (Skip count)) = record { id = id; len = count; run = None }
lent_at id (Made (Gone count)) = record { id = id; len = count; run = None }
