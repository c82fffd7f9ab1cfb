-- Which ids a replica deletes by the order that its own lists have (own; the rules are those of Yjs 13).
use Rattle.std.specs.Prelude.{◌≡◌, ◌≢◌, ◌⊎◌, Bool, true, List, Some}
use Rattle.yd_words.specs.Member.{IsIn}
use Rattle.yd_ids.specs.declared.id.Id.{Id}
use Rattle.yd_ops.specs.declared.lists.List.{List as DocList}
use Rattle.yd_ops.specs.Operation.{Operation}
use Rattle.yd_origins.specs.Deleted.{last_of}
use Rattle.yd_ops.specs.Received.{has_operation}
use Rattle.yd_meaning.specs.Names.{has_key, item_of_list}
use Rattle.yd_meaning.specs.Held.{is_lost}

-- an id must be deleted: it is held and named; it is lost; it stands in a list with a key, and not last; or the item of its
-- list is deleted
pub data MustBeDeleted (lists : DocList → List Id) (held : List Operation) (named deleted : Id → Bool) : Id → Type 0 where
  for_name : {x : Id} → has_operation held x ≡ true → named x ≡ true → MustBeDeleted lists held named deleted x
  for_loss : {x : Id} → is_lost held x ≡ true → MustBeDeleted lists held named deleted x
  for_key : {x : Id} → (list : DocList) → IsIn x (lists list) → has_key list ≡ true → last_of (lists list) ≢ Some x → MustBeDeleted lists held named deleted x
  for_item : {x y : Id} → (list : DocList) → IsIn x (lists list) → item_of_list list ≡ Some y → deleted y ≡ true → MustBeDeleted lists held named deleted x

-- all is deleted that must be, and nothing that is not held
pub record AreClosedDeletions (lists : DocList → List Id) (held : List Operation) (named deleted : Id → Bool) : Type 0 where
  pub all : (x : Id) → MustBeDeleted lists held named deleted x → deleted x ≡ true
  pub only_held : (x : Id) → deleted x ≡ true → has_operation held x ≡ true

-- nothing is deleted that need not be: it is so in each set of deletions that is closed
abbrev pub AreLeastDeletions : (DocList → List Id) → List Operation → (Id → Bool) → (Id → Bool) → Type 0
AreLeastDeletions lists held named deleted = (other : Id → Bool) → AreClosedDeletions lists held named other → (x : Id) → deleted x ≡ true → other x ≡ true

-- what is deleted now besides what was: what is named or lost, and was not so in the part; of lists with a key that are not as
-- they were all but the last; and under a deleted item what came, or what was there and the item was not deleted
pub record DeletesBesides (old_lists lists : DocList → List Id) (part held : List Operation) (named more deleted now : Id → Bool) : Type 0 where
  pub stays : (x : Id) → deleted x ≡ true → now x ≡ true
  pub names : (x : Id) → has_operation held x ≡ true → more x ≡ true → ((has_operation part x ≡ true) × (named x ≡ true)) ⊎ (now x ≡ true)
  pub losses : (x : Id) → is_lost held x ≡ true → (is_lost part x ≡ true) ⊎ (now x ≡ true)
  pub keys : (list : DocList) → has_key list ≡ true → (lists list ≡ old_lists list) ⊎
      ((x : Id) → IsIn x (lists list) → last_of (lists list) ≢ Some x → now x ≡ true)
  pub items : (list : DocList) (x y : Id) → IsIn x (lists list) → item_of_list list ≡ Some y → now y ≡ true →
      (IsIn x (old_lists list) × (deleted y ≡ true)) ⊎ (now x ≡ true)
  pub only_held : (x : Id) → now x ≡ true → has_operation held x ≡ true
