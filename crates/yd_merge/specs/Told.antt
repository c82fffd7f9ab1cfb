-- The groups as which entries of what was received are written (own).
use Rattle.std.specs.Prelude.{ℕ, ◌+◌, ◌<◌, ◌≤◌, Bool, true, false, List, Option, Some, None, slice_get}
use Rattle.yd_ids.specs.Id.{IsClock}
use Rattle.yd_ops.specs.Cutting.{content_before, content_behind}
use Rattle.yd_ops.specs.Valid.{IsValidContent}
use Rattle.yd_ops.specs.Value.{ContentValue, len_of}
use Rattle.yd_ops.specs.View.{content_value}
use Rattle.yd_ops.specs.declared.runs.Run.{Run}
use Rattle.yd_grouping.specs.Groups.{Group, of_run, of_gone}
use Rattle.yd_entries.specs.Entries.{list_at}
use Rattle.yd_entries.specs.declared.entry.Entry.{Entry}

-- so many units of a content, from an offset on
abbrev pub content_part : ℕ → ℕ → ContentValue → ContentValue
content_part offset count content = content_before count (content_behind offset content)

-- the entry's units are some of the content's, which is valid
pub record IsPartOf (content : ContentValue) (t : Entry) : Type 0 where
  pub some : 0 < t.len
  pub within : t.offset + t.len ≤ len_of content
  pub fits : IsClock (t.offset + t.len)
  pub valid : IsValidContent content

-- the units of an entry as a run: its part of the run that is kept
abbrev pub group_of_run : Entry → Option Run → Group
group_of_run t None = of_gone t.id t.len
group_of_run t (Some run) = of_run (record {
  id = t.id;
  left = t.left;
  right = t.right;
  list = list_at (Some run) t.offset;
  content = content_part t.offset t.len (content_value run.content);
})

-- what is told of an entry's units, as a group
abbrev pub group_told : Bool → List Run → Entry → Group
group_told true runs t = of_gone t.id t.len
group_told false runs t = group_of_run t (slice_get runs t.run)

-- an entry as a group
abbrev pub group_of_entry : List Run → Entry → Group
group_of_entry runs t = group_told t.is_gone runs t
