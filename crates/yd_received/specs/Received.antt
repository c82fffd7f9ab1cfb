-- What contracts see of a `Received`, and how it changes (own).
use Rattle.std.specs.Prelude.{◌≡◌, ℕ, ◌<◌, Bool, true, false, nat_lt, List, ◌∷◌, ◌++◌, Some, map, filter, set, slice_get, take, length, if◌then◌else◌}
use Rattle.yd_words.specs.Member.{IsIn}
use Rattle.yd_ids.specs.declared.id.Client.{Client}
use Rattle.yd_ids.specs.declared.id.Id.{Id}
use Rattle.yd_ids.specs.Vector.{clock_of}
use Rattle.yd_ops.specs.declared.runs.Run.{Run}
use Rattle.yd_ops.specs.Operation.{Operation, level_of}
use Rattle.yd_received.specs.declared.brought.Brought.{Brought}
use Rattle.yd_received.specs.declared.brought.Brought.TheVariants.{Nothing, Added, Lowered}
use Rattle.yd_entries.specs.declared.entry.Entry.{Entry}
use Rattle.yd_entries.specs.declared.place.Place.{Place}
use Rattle.yd_entries.specs.declared.place.Place.TheVariants.{Waits}
use Rattle.yd_entries.specs.Entries.{AreTaken, operations_in, held_in, standing_in, is_of_first, OnlyAdds}
use Rattle.yd_entries.specs.Joining.{IsSingle, Joins, TellSame}

-- the runs that are kept, and the entries of the units that were taken of them
pub record ReceivedValue : Type 0 where
  pub runs : List Run
  pub entries : List Entry

-- the operations that were taken
abbrev pub taken_of : ReceivedValue → List Operation
taken_of r = operations_in r.runs r.entries

-- those of them that are held
abbrev pub held_of : ReceivedValue → List Operation
held_of r = held_in r.runs r.entries

-- those of them that are held and not lost
abbrev pub listed_of : ReceivedValue → List Operation
listed_of r = standing_in r.runs r.entries

-- its entries are of its runs, in the order of writing, with whole pairs
abbrev pub IsReceived : ReceivedValue → Type 0
IsReceived r = AreTaken r.runs r.entries

-- ---- what is taken in

-- whether an update brought something
abbrev pub brings : Brought → Bool
brings Nothing = false
brings Added = true
brings (Lowered before) = true

-- whether it lowered something
abbrev pub lowers : Brought → Bool
lowers Nothing = false
lowers Added = false
lowers (Lowered before) = true

-- one of the operations says less than a received one, or an earlier one of them, that has its id
pub record LowersOne (os received : List Operation) : Type 0 where
  pub earlier : List Operation
  pub later : List Operation
  pub less : Operation
  pub more : Operation
  pub among : os ≡ earlier ++ less ∷ later
  pub there : IsIn more (received ++ earlier)
  pub same_id : more.id ≡ less.id
  pub says_less : level_of less.content < level_of more.content

-- nothing changed, or waiting units were added, or the entries that were there are handed out
abbrev pub IsBrought : Brought → ReceivedValue → ReceivedValue → Type 0
IsBrought Nothing old new = new ≡ old
IsBrought Added old new = OnlyAdds (length old.runs) old.entries new.entries
IsBrought (Lowered before) old new = before ≡ old.entries

-- ---- what is held

-- the units at another place
abbrev pub with_place : Entry → Place → Entry
with_place t p = record { id = t.id; len = t.len; left = t.left; right = t.right; run = t.run; offset = t.offset; is_gone = t.is_gone; place = p }

-- an entry got a place, and all else is as it was
pub record GetsPlace (at : ℕ) (place : Place) (old new : ReceivedValue) : Type 0 where
  pub entry : Entry
  pub there : slice_get old.entries at ≡ Some entry
  pub runs_are : new.runs ≡ old.runs
  pub placed : new.entries ≡ set old.entries at (with_place entry place)

-- all wait, and else it is as it was
abbrev pub all_waiting : ReceivedValue → ReceivedValue
all_waiting r = record { runs = r.runs; entries = map (λ (t : Entry). with_place t Waits) r.entries }

-- ---- what is joined

-- no other entry than this one is of the last run
abbrev pub IsSingleOf : ReceivedValue → ℕ → Type 0
IsSingleOf r at = IsSingle r.runs r.entries at

-- the same operations are taken and held, the same of them stand, and its entries are still of its runs
abbrev pub KeepsTold : ReceivedValue → ReceivedValue → Type 0
KeepsTold old new = TellSame old.runs old.entries new.runs new.entries

-- the entry at a place and the one before it became one
abbrev pub JoinsAt : ℕ → ReceivedValue → ReceivedValue → Type 0
JoinsAt at old new = Joins old.runs old.entries new.runs new.entries at

-- ---- what it was before

-- whether the id's clock is below its client's in the vector
abbrev pub is_below : List (Client × ℕ) → Id → Bool
is_below vector x = nat_lt x.clock (clock_of vector x.client.0)

-- the units, which wait unless they are below a vector's clocks
abbrev pub undone : List (Client × ℕ) → Entry → Entry
undone vector t = if is_below vector t.id then t else with_place t Waits

-- the first runs alone with what was taken of them, of which waits what is not below the clocks
abbrev pub put_back : ℕ → List (Client × ℕ) → ReceivedValue → ReceivedValue
put_back count clocks r = record { runs = take count r.runs; entries = map (undone clocks) (filter (is_of_first count) r.entries) }

-- the first runs alone, with these entries
abbrev pub put_back_entries : ℕ → List Entry → ReceivedValue → ReceivedValue
put_back_entries count entries r = record { runs = take count r.runs; entries = entries }
