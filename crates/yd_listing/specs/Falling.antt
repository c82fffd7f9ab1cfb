-- Which ids fall, so that they are deleted, once more is held or named (own; the rules are those of Yjs 13).
use Rattle.std.specs.Prelude.{◌≡◌, ◌≢◌, ◌⊎◌, ◌<◌, ◌++◌, ℕ, true, List, ◌∷◌, Option, Some, None, IfSome, slice_get}
use Rattle.yd_words.specs.Member.{IsIn}
use Rattle.yd_ids.specs.declared.id.Id.{Id}
use Rattle.yd_ids.specs.declared.id.Span.{Span}
use Rattle.yd_ids.specs.Id.{IsClient, IsId, IsSpan}
use Rattle.yd_ids.specs.Span.{InSpan}
use Rattle.yd_ids.specs.Set.{HasId}
use Rattle.yd_ops.specs.declared.lists.List.{List as DocList}
use Rattle.yd_origins.specs.Deleted.{last_of}
use Rattle.yd_meaning.specs.Names.{has_key, item_of_list}
use Rattle.yd_arena.specs.Arena.{count_of, units_in, next_clock}
use Rattle.yd_listing.specs.Lending.{HasNoGone}
use Rattle.yd_kept.specs.Kept.{KeptValue}
use Rattle.yd_listing.specs.declared.came.Came.{Came}

-- ---- what is given

-- the units of a list, in order
abbrev pub units_of_list : KeptValue → ℕ → List Id
units_of_list it n = units_in it.store.placed n

-- no unit of a list is gone, each has a client's id, and so has the item of a list that has a unit
pub record IsTold (it : KeptValue) : Type 0 where
  pub told : (n : ℕ) → n < count_of it.store.placed → HasNoGone it.store n
  pub clients : (n : ℕ) (x : Id) → n < count_of it.store.placed → IsIn x (units_of_list it n) → IsClient x.client
  pub items : (n : ℕ) (name : DocList) (x : Id) → slice_get it.names n ≡ Some name → IsIn x (units_of_list it n) → IfSome (item_of_list name) IsId

-- units that came are some, and stand in their list, if they have one
pub record IsCame (it : KeptValue) (one : Came) : Type 0 where
  pub span : IsSpan one.span
  pub some : 0 < one.span.len
  pub list : IfSome one.list (λ n. (n < count_of it.store.placed) × ((x : Id) → InSpan one.span x → IsIn x (units_of_list it n)))

-- an id came into the list with a number, or into none
pub record CameInto (came : List Came) (list : Option ℕ) (x : Id) : Type 0 where
  pub one : Came
  pub member : IsIn one came
  pub list_is : one.list ≡ list
  pub inside : InSpan one.span x

-- a list has a name, and belongs to an item
pub record IsUnder (it : KeptValue) (n : ℕ) (item : Id) : Type 0 where
  pub name : DocList
  pub named : slice_get it.names n ≡ Some name
  pub own : item_of_list name ≡ Some item

-- a list is that of a key
pub record IsKeyed (it : KeptValue) (n : ℕ) : Type 0 where
  pub name : DocList
  pub named : slice_get it.names n ≡ Some name
  pub keyed : has_key name ≡ true

-- one of two sets names the id
abbrev pub IsNamedIn : List Span → List Span → Id → Type 0
IsNamedIn waiting named x = HasId waiting x ⊎ HasId named x

-- ---- what falls

-- an id falls: it is held and named; it came and is lost; it does not stand last under its key; or the item of its list was
-- deleted, or falls
pub data Falls (it : KeptValue) (old : List Span) (named : Id → Type 0) (came : List Came) : Id → Type 0 where
  by_name : {x : Id} → named x → x.clock < next_clock it.store.placed x.client.0 → Falls it old named came x
  by_loss : {x : Id} → CameInto came None x → Falls it old named came x
  by_key : {x : Id} (n : ℕ) → IsKeyed it n → IsIn x (units_of_list it n) → last_of (units_of_list it n) ≢ Some x → Falls it old named came x
  by_deleted : {x y : Id} (n : ℕ) → IsUnder it n y → IsIn x (units_of_list it n) → HasId old y → Falls it old named came x
  by_item : {x y : Id} (n : ℕ) → IsUnder it n y → IsIn x (units_of_list it n) → Falls it old named came y → Falls it old named came x

-- ---- what is answered

-- an id was deleted, or is so now
abbrev pub IsGone : List Span → List Span → Id → Type 0
IsGone old besides x = HasId old x ⊎ HasId besides x

-- all of a list but its last is deleted from a deleted unit on, or all of it
pub record IsGoneBehind (old besides : List Span) (units : List Id) (unit : Id) : Type 0 where
  pub front : List Id
  pub back : List Id
  pub parts : units ≡ front ++ unit ∷ back
  pub was : HasId old unit
  pub gone : (x : Id) → IsIn x back → last_of units ≢ Some x → HasId besides x

abbrev pub IsOutlived : List Span → List Span → List Id → Type 0
IsOutlived old besides units = ((x : Id) → IsIn x units → last_of units ≢ Some x → HasId besides x) ⊎ ((unit : Id) × IsGoneBehind old besides units unit)

-- what is deleted besides: no more than what falls; what is named and held; what came lost; what came under a deleted item;
-- what came under a key and is not last, and, where the last one came, what stands between it and what was deleted; and all
-- that is under an item that is deleted now and was not
pub record Drops (it : KeptValue) (old : List Span) (named : Id → Type 0) (came : List Came) (besides : List Span) : Type 0 where
  pub only : (x : Id) → HasId besides x → Falls it old named came x
  pub names : (x : Id) → named x → x.clock < next_clock it.store.placed x.client.0 → IsGone old besides x
  pub losses : (x : Id) → CameInto came None x → IsGone old besides x
  pub under : (n : ℕ) (x y : Id) → CameInto came (Some n) x → IsUnder it n y → HasId old y → IsGone old besides x
  pub keys : (n : ℕ) (x : Id) → CameInto came (Some n) x → IsKeyed it n → last_of (units_of_list it n) ≢ Some x → IsGone old besides x
  pub outlived : (n : ℕ) (x : Id) → CameInto came (Some n) x → IsKeyed it n → last_of (units_of_list it n) ≡ Some x →
      IsOutlived old besides (units_of_list it n)
  pub items : (n : ℕ) (x y : Id) → IsUnder it n y → IsIn x (units_of_list it n) → HasId besides y → HasId old y ⊎ HasId besides x
