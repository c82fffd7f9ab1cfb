-- What a change of what is held tells, and how it is put back (own).
use Rattle.std.specs.Prelude.{◌≡◌, ℕ, Bool, true, false, List, length, take}
use Rattle.yd_ids.specs.declared.id.Client.{Client}
use Rattle.yd_ops.specs.declared.lists.List.{List as DocList}
use Rattle.yd_entries.specs.Entries.{GrowBy}
use Rattle.yd_received.specs.Received.{ReceivedValue, put_back, put_back_entries}
use Rattle.yd_held.specs.declared.parts.Before.{Before}
use Rattle.yd_held.specs.declared.parts.Kept.{Kept}
use Rattle.yd_held.specs.declared.parts.Kept.TheVariants.{Count, Entries, All}
use Rattle.yd_held.specs.Held.{HeldValue}

-- the lists that there were keep their numbers, unless all was held anew
abbrev pub KeepsNumbers : Bool → List DocList → List DocList → Type 0
KeepsNumbers false old new = GrowBy old new
KeepsNumbers true old new = Unit {0}

-- ---- putting back

-- what was received before: the first runs, with what was taken of them, or with the entries that were kept
abbrev pub received_before : Kept → ℕ → List (Client × ℕ) → ReceivedValue → ReceivedValue
received_before (Count lists) runs vector r = put_back runs vector r
received_before (Entries entries lists) runs vector r = put_back_entries runs entries r
received_before (All entries lists) runs vector r = put_back_entries runs entries r

-- the names that there were: the first ones, or those that were kept
abbrev pub names_before : Kept → List DocList → List DocList
names_before (Count lists) names = take lists names
names_before (Entries entries lists) names = take lists names
names_before (All entries lists) names = lists

-- what it was before a change
abbrev pub back_to : Before → HeldValue → HeldValue
back_to before k = record {
  received = received_before before.kept before.runs before.vector k.received;
  vector = before.vector;
  names = names_before before.kept k.names;
  lacks = before.lacks.items;
}

-- it tells of what is held what a change does not, as long as that only adds to it
pub record IsOf (k : HeldValue) (before : Before) : Type 0 where
  pub runs_are : before.runs ≡ length k.received.runs
  pub kept_are : before.kept ≡ Count (length k.names)
  pub vector_is : before.vector ≡ k.vector
  pub lacks_are : before.lacks.items ≡ k.lacks
