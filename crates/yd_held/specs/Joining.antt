-- Which entry can be joined to the one before it, and what stays then (own).
use Rattle.std.specs.Prelude.{◌≡◌, ℕ, suc, List, [], ◌∷◌, Some, length, slice_get}
use Rattle.yd_ids.specs.declared.id.Id.{Id}
use Rattle.yd_received.specs.Received.{taken_of, held_of, listed_of, IsSingleOf}
use Rattle.yd_entries.specs.declared.entry.Entry.{Entry}
use Rattle.yd_entries.specs.Taking.{is_covered}
use Rattle.yd_held.specs.Held.{HeldValue}
use Rattle.yd_held.specs.Numbered.{number_of}

-- the entry became held, and no other did; and no other is of the last run
pub record CameAlone (order : List ℕ) (k : HeldValue) (at : ℕ) : Type 0 where
  pub order_is : order ≡ at ∷ []
  pub single : IsSingleOf k.received at

-- no entry came alone: of so many runs and entries before, it is not so that one run and one entry are new, and just that entry
-- became held, as all that is new of that run
abbrev pub NoneCameAlone : ℕ → ℕ → List ℕ → HeldValue → Type 0
NoneCameAlone runs entries order k = (at : ℕ) (t : Entry) → order ≡ at ∷ [] → slice_get k.received.entries at ≡ Some t → t.run ≡ runs →
    length k.received.runs ≡ suc runs → length k.received.entries ≡ suc entries → ⊥

-- the same operations are taken, held and in lists; each id is in the list that it was in; and all else is as it was
pub record StaysSame (old new : HeldValue) : Type 0 where
  pub taken : taken_of new.received ≡ taken_of old.received
  pub held : held_of new.received ≡ held_of old.received
  pub listed : listed_of new.received ≡ listed_of old.received
  pub covered : (x : Id) → is_covered new.received.entries x ≡ is_covered old.received.entries x
  pub numbers : (x : Id) → number_of new.received.entries x ≡ number_of old.received.entries x
  pub vector : new.vector ≡ old.vector
  pub names : new.names ≡ old.names
  pub lacks : new.lacks ≡ old.lacks
