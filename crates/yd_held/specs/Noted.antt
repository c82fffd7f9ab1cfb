-- What waits, noted by what it lacks: of each client its next units alone, since the later ones lack these first (own).
use Rattle.std.specs.Prelude.{◌≡◌, ◌⊎◌, ◌<◌, ℕ, Bool, true, false, not, ◌&&◌, ◌||◌, List, [], ◌∷◌, ◌++◌, Option, Some, None, map, filter, length, nat_eq, nat_lt, if◌then◌else◌, HoldsAt}
use Rattle.yd_words.specs.Member.{IsIn}
use Rattle.yd_words.specs.Each.{Each}
use Rattle.yd_ids.specs.declared.id.Client.{Client}
use Rattle.yd_ids.specs.declared.id.Id.{Id}
use Rattle.yd_ids.specs.Vector.{clock_of}
use Rattle.yd_ids.specs.Ids.{is_same, is_smaller}
use Rattle.yd_ops.specs.declared.runs.Run.{Run}
use Rattle.yd_entries.specs.declared.entry.Entry.{Entry}
use Rattle.yd_entries.specs.Entries.{covers, carried_of}
use Rattle.yd_held.specs.declared.noting.Lack.{Lack}
use Rattle.yd_received.specs.Received.{is_below}
use Rattle.yd_held.specs.Readiness.{IsOriginOf, is_ready}

-- ---- the notes

-- whether the first stands before the second: by the id that is lacked, then by the client that lacks it
abbrev pub stands_before : Lack → Lack → Bool
stands_before l m = is_smaller l.id m.id || (is_same l.id m.id && nat_lt l.client.0 m.client.0)

-- whether both are one
abbrev pub same_lack : Lack → Lack → Bool
same_lack l m = is_same l.id m.id && nat_eq l.client.0 m.client.0

-- the lack of an id before which no other of it stands
abbrev pub first_lack : Id → Lack
first_lack id = record { id = id; client = record { 0 = 0 } }

-- each stands before the later ones, so none is there twice
abbrev pub AreSorted : List Lack → Type 0
AreSorted [] = Unit {0}
AreSorted (l ∷ ls) = Each (λ m. stands_before l m ≡ true) ls × AreSorted ls

-- the notes with one more at its place, unless it is there
abbrev pub with_lack : Lack → List Lack → List Lack
with_lack l [] = l ∷ []
with_lack l (m ∷ ms) = if stands_before m l then m ∷ with_lack l ms else if same_lack m l then m ∷ ms else l ∷ m ∷ ms

-- what lacks none of the units stays; the clients that lacked one are to be tried, each once, and then the units' own client
pub record Wakes (held : Entry) (old left : List Lack) (tries more : List Client) : Type 0 where
  pub stays : left ≡ filter (λ l. not (covers held l.id)) old
  pub tried : more ≡ (tries ++ map (λ l. l.client) (filter (λ l. covers held l.id) old)) ++ held.id.client ∷ []

-- ---- what is noted

-- it is noted that the client's next units lack an id: they need it, and it is not held
pub record IsNoted (vector : List (Client × ℕ)) (runs : List Run) (lacks : List Lack) (t : Entry) : Type 0 where
  pub id : Id
  pub needed : IsOriginOf id t.left t.right (carried_of runs t)
  pub missing : is_below vector id ≡ false
  pub there : IsIn (record { id = id; client = t.id.client }) lacks

-- units at their client's clock lack something, which is noted, or their client is still to be tried
abbrev pub IsNotedOrTried : List (Client × ℕ) → List Run → List Lack → List Client → Entry → Type 0
IsNotedOrTried vector runs lacks tries t =
    t.id.clock ≡ clock_of vector t.id.client.0 → IsIn t.id.client tries ⊎ IsNoted vector runs lacks t

-- so it is with all that was taken
pub record AreNoted (vector : List (Client × ℕ)) (runs : List Run) (lacks : List Lack) (tries : List Client) (taken : List Entry) : Type 0 where
  pub sorted : AreSorted lacks
  pub each : Each (IsNotedOrTried vector runs lacks tries) taken

-- no id that is lacked is held
abbrev pub AreMissing : List (Client × ℕ) → List Lack → Type 0
AreMissing vector lacks = Each (λ l. is_below vector l.id ≡ false) lacks

-- where no id that was lacked was held, none that is lacked is
abbrev pub StayMissing : List (Client × ℕ) → List Lack → List (Client × ℕ) → List Lack → Type 0
StayMissing vector lacks raised left = AreMissing vector lacks → AreMissing raised left

-- where units are found that are ready, their client is still to be tried; where none are, no client is, and all that waits is noted
abbrev pub Finds : List (Client × ℕ) → List Run → List Entry → List Lack → List Client → Option ℕ → Type 0
Finds vector runs taken lacks tries (Some at) =
    (at < length taken) × HoldsAt (λ t. (is_ready vector runs t ≡ true) × AreNoted vector runs lacks (t.id.client ∷ tries) taken) taken at
Finds vector runs taken lacks tries None = AreNoted vector runs lacks [] taken
