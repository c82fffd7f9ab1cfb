-- The cut of entries and of what is lent by a vector: which units are in it (own).
use Rattle.std.specs.Prelude.{ℕ, zero, suc, ◌+◌, ◌-◌, Bool, true, false, ◌&&◌, nat_le, nat_lt, List, [], ◌∷◌, ◌++◌, Option, Some, None, map, length, slice_get, slice_index, if◌then◌else◌}
use denote.Ref.{Bor}
use Rattle.yd_ids.specs.declared.id.Id.{Id}
use Rattle.yd_ops.specs.Operation.{later_id}
use Rattle.yd_ops.specs.Value.{ContentValue, any, binary, deleted, embed, format, json, len_of, nested, string}
use Rattle.yd_ops.specs.View.{content_value}
use Rattle.yd_ops.specs.declared.runs.Run.{Run}
use Rattle.yd_ops.specs.Pairs.{is_high, is_low}
use Rattle.yd_grouping.specs.Groups.{Group, of_gone}
use Rattle.yd_entries.specs.Splitting.{back_of}
use Rattle.yd_entries.specs.declared.entry.Entry.{Entry}
use Rattle.yd_entries.specs.declared.place.Place.TheVariants.{Waits}
use Rattle.yd_merge.specs.Told.{group_of_entry}
use Rattle.yd_merge.specs.declared.lending.Lent.{Lent}

-- whether a cut before unit n of a text parts a pair
abbrev pub parts_text : List ℕ → ℕ → Bool
parts_text units n = nat_lt 0 n && nat_lt n (length units) && is_high (slice_index units (n - 1)) && is_low (slice_index units n)

-- whether one before unit n of a content does
abbrev pub parts_content : ContentValue → ℕ → Bool
parts_content (json values) n = false
parts_content (binary blob) n = false
parts_content (string units) n = parts_text units n
parts_content (embed t) n = false
parts_content (format key t) n = false
parts_content (nested kind) n = false
parts_content (any ts) n = false
parts_content (deleted count) n = false

-- whether one before unit n of a run does, where there is one
abbrev pub parts_run : Option Run → ℕ → Bool
parts_run None n = false
parts_run (Some run) n = parts_content (content_value run.content) n

-- whether one before unit n of an entry does, by what is told of it
abbrev pub parts_told : Bool → List Run → Entry → ℕ → Bool
parts_told true runs t n = false
parts_told false runs t n = parts_run (slice_get runs t.run) (t.offset + n)

abbrev pub parts_entry : List Run → Entry → ℕ → Bool
parts_entry runs t n = parts_told t.is_gone runs t n

-- how many of an entry's first units are not in the cut at a clock: those below it, but not a high half whose low half has that clock
abbrev pub left_out : List Run → ℕ → Entry → ℕ
left_out runs clock t =
    if nat_le clock t.id.clock then 0
    else if nat_le (t.id.clock + t.len) clock then t.len
    else if parts_entry runs t (clock - t.id.clock) then clock - t.id.clock - 1
    else clock - t.id.clock

-- the units of an entry behind its first n
abbrev pub behind : Entry → ℕ → Entry
behind t zero = t
behind t (suc n) = back_of t (suc n)

-- those as entries, if there are some
abbrev pub parts_behind : Entry → ℕ → List Entry
parts_behind t n = if nat_lt n t.len then behind t n ∷ [] else []

-- the units of an entry that are in the cut at a clock
abbrev pub cut_entry : List Run → ℕ → Entry → List Entry
cut_entry runs clock t = parts_behind t (left_out runs clock t)

-- those of entries that are in the cut by a vector
abbrev pub cut_entries : List Run → (ℕ → ℕ) → List Entry → List Entry
cut_entries runs vector [] = []
cut_entries runs vector (t ∷ ts) = cut_entry runs (vector t.id.client.0) t ++ cut_entries runs vector ts

-- ---- of what is lent

-- all units of a run, as an entry of it alone
abbrev pub whole_entry : Run → Entry
whole_entry run = record { id = run.id; len = len_of (content_value run.content); left = run.left; right = run.right; run = 0; offset = 0; is_gone = false; place = Waits }

-- of so many gone units from an id on those that are in the cut at a clock
abbrev pub cut_gone : ℕ → Id → ℕ → List Group
cut_gone clock id len = if nat_lt (clock - id.clock) len then of_gone (later_id id (clock - id.clock)) (len - (clock - id.clock)) ∷ [] else []

-- those of a run, or else of so many gone units
abbrev pub cut_in : ℕ → Option (Bor Run) → Id → ℕ → List Group
cut_in clock None id len = cut_gone clock id len
cut_in clock (Some run) id len = map (group_of_entry (run.now ∷ [])) (cut_entry (run.now ∷ []) clock (whole_entry run.now))

-- what is lent and in the cut at a clock
abbrev pub cut_lent : ℕ → Lent → List Group
cut_lent clock lent = cut_in clock lent.run lent.id lent.len

-- what is lent and in the cut by a vector
abbrev pub cut_lents : (ℕ → ℕ) → List Lent → List Group
cut_lents vector [] = []
cut_lents vector (lent ∷ lents) = cut_lent (vector lent.id.client.0) lent ++ cut_lents vector lents
