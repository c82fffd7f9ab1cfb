-- Text units one after another, with U+FFFD for each half whose partner does not stand beside it (The Unicode Standard, section 3.9; that it is done by ids is own).
use Rattle.std.specs.Prelude.{◌≡◌, ℕ, Bool, false, ◌&&◌, ◌||◌, not, List, [], ◌∷◌, ◌++◌, Option, Some, None, if◌then◌else◌}
use Rattle.yd_ids.specs.declared.id.Id.{Id}
use Rattle.yd_ids.specs.Ids.{is_same}
use Rattle.yd_ops.specs.Operation.{UnitContent, text_unit, any_unit, json_unit, bytes, embedded, mark, nested_type, deleted_unit, gone_unit, later_id}
use Rattle.yd_ops.specs.Pairs.{is_high, is_low}
use Rattle.yd_state.specs.Lent.{Lent}
use Rattle.yd_view.specs.declared.halves.Seen.{Seen}
use Rattle.yd_view.specs.declared.halves.Halves.{Halves}

-- ---- which are partners

-- whether a test holds of a text unit
abbrev pub is_unit_and : (ℕ → Bool) → Option ℕ → Bool
is_unit_and test None = false
is_unit_and test (Some unit) = test unit

-- whether the two are the halves of one pair: a high one, and a low one with the next clock
abbrev pub joins : Seen → Seen → Bool
joins high low = is_unit_and is_high high.unit && is_unit_and is_low low.unit && is_same low.id (later_id high.id 1)

-- whether the unit before, where there is one, is the partner of a unit
abbrev pub joins_after : Option Seen → Seen → Bool
joins_after None seen = false
joins_after (Some last) seen = joins last seen

-- whether a unit is the partner of the first of those behind it
abbrev pub joins_first : Seen → List Seen → Bool
joins_first seen [] = false
joins_first seen (next ∷ others) = joins seen next

-- ---- what is shown

-- a unit in front of others, as it is shown between its neighbours; what is no text shows nothing
abbrev pub shown_seen : Bool → Option ℕ → Bool → List ℕ → List ℕ
shown_seen joined None joins units = units
shown_seen joined (Some unit) joins units = (if (is_high unit && not joins) || (is_low unit && not joined) then 0xFFFD else unit) ∷ units

-- the unit that came last, where one did, in front of others
abbrev pub shown_last : Bool → Option Seen → Bool → List ℕ → List ℕ
shown_last joined None joins units = units
shown_last joined (Some last) joins units = shown_seen joined last.unit joins units

-- the text of units, where it is known whether the one before is the partner of the first
abbrev pub text_of_seen : Bool → List Seen → List ℕ
text_of_seen joined [] = []
text_of_seen joined (seen ∷ others) = shown_seen joined seen.unit (joins_first seen others) (text_of_seen (joins_first seen others) others)

-- the text of the unit that came last, where one did, and of those that come
abbrev pub text_behind : Bool → Option Seen → List Seen → List ℕ
text_behind joined None rest = text_of_seen false rest
text_behind joined (Some last) rest = text_of_seen joined (last ∷ rest)

-- the text of what came so far and of what comes
abbrev pub text_left : Halves → List Seen → List ℕ
text_left halves rest = halves.shown.items ++ text_behind halves.joined halves.last rest

-- these units came next
abbrev pub TakesIn : Halves → Halves → List Seen → Type 0
TakesIn old new came = (rest : List Seen) → text_left new rest ≡ text_left old (came ++ rest)

-- the unit that came last before is shown, and this one waits
pub record StepsBy (old new : Halves) (seen : Seen) : Type 0 where
  pub shown : new.shown.items ≡ old.shown.items ++ shown_last old.joined old.last (joins_after old.last seen) []
  pub last : new.last ≡ Some seen
  pub joined : new.joined ≡ joins_after old.last seen

-- ---- lent units

-- the text unit that a content is, if it is one
abbrev pub text_unit_of : UnitContent → Option ℕ
text_unit_of (text_unit unit) = Some unit
text_unit_of (any_unit value) = None
text_unit_of (json_unit value) = None
text_unit_of (bytes blob) = None
text_unit_of (embedded value) = None
text_unit_of (mark key value) = None
text_unit_of (nested_type kind) = None
text_unit_of deleted_unit = None
text_unit_of gone_unit = None

-- a lent unit as text sees it
abbrev pub seen_of : Lent → Seen
seen_of unit = record { id = unit.id; unit = text_unit_of unit.content }

-- lent units as text sees them: those that are deleted are left out
abbrev pub live_seen : List Lent → List Seen
live_seen [] = []
live_seen (unit ∷ units) = if unit.is_deleted then live_seen units else seen_of unit ∷ live_seen units

-- text units as they are seen, from an id on
abbrev pub seen_from : Id → List ℕ → List Seen
seen_from id [] = []
seen_from id (unit ∷ units) = record { id = id; unit = Some unit } ∷ seen_from (later_id id 1) units
