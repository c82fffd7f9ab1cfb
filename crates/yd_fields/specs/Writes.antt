-- What a writer is after fields, and which structs it can be given.
use Rattle.std.specs.Prelude.{◌≡◌, ℕ, ◌+◌, ◌^◌, ◌<◌, ◌≤◌, List, [], ◌∷◌, ◌++◌, take, drop, Option, IfSome}
use Rattle.yd_words.specs.Each.{Each}
use Rattle.yd_ids.specs.Id.{IsId}
use Rattle.yd_ids.specs.declared.id.Span.{Span}
use Rattle.yd_ops.specs.Valid.{IsParent, IsValidContent}
use Rattle.yd_ops.specs.Value.{ContentValue, RunValue, StructValue, item, skip, gone, len_of}
use Rattle.yd_ops.specs.declared.lists.List.{List as DocList}
use Rattle.yd_fields.specs.Field.{Field}
use Rattle.yd_fields.specs.UpdateFields.{groups_of}

-- ---- fields

-- what a writer is after fields, one behind the other
abbrev pub with_fields : {W : Type 0} → (Field → W → W) → List Field → W → W
with_fields put [] writer = writer
with_fields put (field ∷ fields) writer = with_fields put fields (put field writer)

-- the fields are written, and what is written of each is read as that field
pub record Writes {W : Type 0} (put : Field → W → W) (is_spelled : Field → Type 0) (fields : List Field) (old new : W) : Type 0 where
  pub written : new ≡ with_fields put fields old
  pub spelled : Each is_spelled fields

-- ---- what can be written

-- the list, if there is one, has a parent in range
abbrev pub IsWritableList : Option DocList → Type 0
IsWritableList list = IfSome list (λ found. IsParent found.parent)

-- the content is valid, and the number of its units is in range
pub record IsWritableContent (content : ContentValue) : Type 0 where
  pub valid : IsValidContent content
  pub in_range : len_of content < 2 ^ 53

-- the run has origins and a parent in range, and such a content
pub record IsWritableRun (run : RunValue) : Type 0 where
  pub left : IfSome run.left IsId
  pub right : IfSome run.right IsId
  pub list : IsWritableList run.list
  pub content : IsWritableContent run.content

-- the struct is such a run, or leaves out a number of clocks that is in range, or so many units are gone
abbrev pub IsWritableStruct : StructValue → Type 0
IsWritableStruct (item run) = IsWritableRun run
IsWritableStruct (skip count) = count < 2 ^ 53
IsWritableStruct (gone count) = count < 2 ^ 53

-- ranges of a client, none empty, each from this clock on and behind the one before, and up to a clock
abbrev pub AreRangesFrom : ℕ → List Span → Type 0
AreRangesFrom before [] = Unit {0}
AreRangesFrom before (span ∷ spans) = (before ≤ span.clock) × (1 ≤ span.len) × (span.clock + span.len < 2 ^ 53) × AreRangesFrom (span.clock + span.len) spans

-- ---- groups

-- the spans from this place on are those of the last client
pub record IsLastGroup (spans : List Span) (start : ℕ) : Type 0 where
  pub client : ℕ
  pub one_client : Each (λ span. span.client.0 ≡ client) (drop start spans)
  pub groups : groups_of spans ≡ groups_of (take start spans) ++ (drop start spans ∷ [])
