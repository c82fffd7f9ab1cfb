-- An entry that is joined to the one before it, so that both are one entry of one run (own).
use Rattle.std.specs.Prelude.{◌≡◌, ℕ, suc, ◌+◌, ◌-◌, ◌<◌, ◌≤◌, true, false, List, [], ◌∷◌, ◌++◌, Some, length, take, drop, set, slice_get}
use Rattle.yd_words.specs.Each.{Each}
use Rattle.yd_ids.specs.declared.id.Id.{Id}
use Rattle.yd_ops.specs.declared.contents.Content.TheVariants.{Str}
use Rattle.yd_ops.specs.declared.runs.Run.{Run}
use Rattle.yd_ops.specs.Operation.{later_id}
use Rattle.yd_entries.specs.declared.entry.Entry.{Entry}
use Rattle.yd_entries.specs.Entries.{AreTaken, operations_in, held_in, standing_in, units_of, carried_of, is_listed}
use Rattle.yd_entries.specs.Taking.{is_covered}

-- the units are not of the last run
abbrev pub IsOfOther : List Run → Entry → Type 0
IsOfOther runs t = suc t.run < length runs

-- no other entry is of the last run
pub record IsSingle (runs : List Run) (taken : List Entry) (at : ℕ) : Type 0 where
  pub inside : at < length taken
  pub before : Each (IsOfOther runs) (take at taken)
  pub behind : Each (IsOfOther runs) (drop (at + 1) taken)

-- units go on where the ones before them end: they have the next clocks, the last of those as their left origin and the same
-- right origin, and stand in the same list
pub record GoesOn (front back : Entry) : Type 0 where
  pub client : back.id.client ≡ front.id.client
  pub clock : back.id.clock ≡ front.id.clock + front.len
  pub left : back.left ≡ Some (later_id front.id (front.len - 1))
  pub right : back.right ≡ front.right
  pub listed : is_listed front ≡ true
  pub place : back.place ≡ front.place

-- units are the last ones of their run
abbrev pub EndsRun : List Run → Entry → Type 0
EndsRun runs t = t.offset + t.len ≡ length (units_of (slice_get runs t.run))

-- the first units are the last ones of their run, the others are all units of the last run, and no unit is gone
pub record AreAtEnds (runs : List Run) (front back : Entry) : Type 0 where
  pub front_told : front.is_gone ≡ false
  pub back_told : back.is_gone ≡ false
  pub front_ends : EndsRun runs front
  pub back_begins : back.offset ≡ 0
  pub back_ends : EndsRun runs back
  pub last : suc back.run ≡ length runs
  pub fits : front.offset ≤ front.id.clock

-- a run with this text
abbrev pub with_text : Run → List ℕ → Run
with_text run units = record { id = run.id; left = run.left; right = run.right; list = run.list; content = Str units }

-- a text was appended to that of a run
pub record AppendsText (old other new : Run) : Type 0 where
  pub units : List ℕ
  pub more : List ℕ
  pub text : old.content ≡ Str units
  pub other_text : other.content ≡ Str more
  pub appended : new ≡ with_text old (units ++ more)

-- the text of the last run was appended to that of another, and the last run is there no more
pub record MovesText (old new : List Run) (to : ℕ) : Type 0 where
  pub others : List Run
  pub run : Run
  pub last : Run
  pub longer : Run
  pub was : old ≡ others ++ last ∷ []
  pub there : slice_get others to ≡ Some run
  pub appends : AppendsText run last longer
  pub moved : new ≡ set others to longer

-- both as one entry
abbrev pub joined_entry : Entry → Entry → Entry
joined_entry front back = record {
  id = front.id;
  len = front.len + back.len;
  left = front.left;
  right = front.right;
  run = front.run;
  offset = front.offset;
  is_gone = front.is_gone;
  place = front.place;
}

-- an entry and the one before it became one, which carries what the first did, and so do the others
pub record Joins (old_runs : List Run) (old : List Entry) (runs : List Run) (taken : List Entry) (at : ℕ) : Type 0 where
  pub before : List Entry
  pub front : Entry
  pub back : Entry
  pub behind : List Entry
  pub place : at ≡ suc (length before)
  pub was : old ≡ before ++ front ∷ back ∷ behind
  pub joined : taken ≡ before ++ joined_entry front back ∷ behind
  pub goes_on : GoesOn front back
  pub carried : Each (λ t. carried_of runs t ≡ carried_of old_runs t) (before ++ front ∷ behind)

-- what was taken is the same, and so is what of it is held, and what stands
pub record TellSame (old_runs : List Run) (old : List Entry) (runs : List Run) (taken : List Entry) : Type 0 where
  pub operations : operations_in runs taken ≡ operations_in old_runs old
  pub held : held_in runs taken ≡ held_in old_runs old
  pub standing : standing_in runs taken ≡ standing_in old_runs old
  pub covered : (x : Id) → is_covered taken x ≡ is_covered old x
  pub kept : AreTaken runs taken
