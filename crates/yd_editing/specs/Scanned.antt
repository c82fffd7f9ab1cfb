-- Where the integration scan puts what an edit makes, as a statement (own; the scan is that of Yjs 13). No edit rule is asked.
use Rattle.std.specs.Prelude.{◌≡◌, ◌<◌, ℕ, List, map, Option}
use Rattle.yd_words.specs.Each.{Each}
use Rattle.yd_words.specs.Member.{IsIn}
use Rattle.yd_ids.specs.declared.id.Client.{Client}
use Rattle.yd_ids.specs.declared.id.Id.{Id}
use Rattle.yd_origins.specs.Scan.{after_scans}
use Rattle.yd_ops.specs.declared.lists.List.{List as DocList}
use Rattle.yd_ops.specs.Operation.{Operation, operations_of_run}
use Rattle.yd_ops.specs.Value.{ContentValue}
use Rattle.yd_editing.specs.Made.{made_run, put_behind}

-- the ids of units
abbrev pub ids_of_all : List Operation → List Id
ids_of_all units = map (λ (o : Operation). o.id) units

-- the left and the right that are asked for by id are the origins of some operations
abbrev pub AreOriginsOf : (Id → Option Id) → (Id → Option Id) → List Operation → Type 0
AreOriginsOf left right os = Each (λ (o : Operation). (left o.id ≡ o.left_origin) × (right o.id ≡ o.right_origin)) os

-- the ids of a client from a clock on are none of a list
abbrev pub IsFreshIn : List Id → Client → ℕ → Type 0
IsFreshIn list client clock = (x : Id) → IsIn x list → x.client ≡ client → x.clock < clock

-- whatever units a list has: the scan puts those of a run that is made behind one of them, or at the front, directly behind that
-- one, in their order, and moves no other
abbrev pub ScanPutsMade : Type 0
ScanPutsMade = (left right : Id → Option Id) (client : Client) (clock : ℕ) (units : List Operation) (name : DocList) (after : Option Id) (content : ContentValue) →
    AreOriginsOf left right (operations_of_run (made_run client clock units name after content)) → IsFreshIn (ids_of_all units) client clock →
    after_scans left right (ids_of_all units) (ids_of_all (operations_of_run (made_run client clock units name after content)))
    ≡ ids_of_all (put_behind after (operations_of_run (made_run client clock units name after content)) units)
