-- Where units stand, by where their origins and the item of their list do, gives their place.
use Rattle.std.proofs.Common.{◌≡◌, ℕ, Bool, true, false, not, cond, ◌&&◌, ◌||◌, List, Option, Some, None, refl, sym, ap, ◌∙◌, true≢false}
use Rattle.std.specs.Prelude.{is_some}
use Rattle.yd_ids.specs.declared.id.Id.{Id}
use Rattle.yd_ops.specs.declared.lists.List.{List as DocList}
use Rattle.yd_meaning.specs.Held.{item_carried}
use Rattle.yd_meaning.specs.Order.{list_or_root}
use Rattle.yd_entries.specs.declared.entry.Entry.{Entry}
use Rattle.yd_entries.specs.declared.place.Place.{Place}
use Rattle.yd_entries.specs.declared.place.Place.TheVariants.{Waits, Lost, In}
use Rattle.yd_entries.specs.Entries.{carried_of}
use Rattle.yd_received.specs.Received.{ReceivedValue}
use Rattle.yd_held.specs.declared.placing.Stand.{Stand}
use Rattle.yd_held.specs.declared.placing.Stand.TheVariants.{Absent, Lost as LostStand, In as InStand}
use Rattle.yd_held.specs.Numbered.{list_at_place, number_of}
use Rattle.yd_held.specs.Numbering.{NumbersList, NumbersName, PlacesEntry}
use Rattle.yd_held.specs.Placed.{is_none_or_listed, can_stand}
use Rattle.yd_held.specs.Stand.{is_lost, stand_at, stand_of, first_stand, stand_for}

-- ---- the place that is read

-- where an id stands is read of its entry's place
pub stand_read : (taken : List Entry) (x : Id) (p : Place) (stand : Stand) → number_of taken x ≡ list_at_place p → stand_at (list_at_place p) ≡ stand → stand ≡ stand_of taken (Some x)
stand_read taken x p stand e f = sym (ap stand_at e ∙ f)

pub stand_lost : (p : Place) → ((n : ℕ) → p ≡ In n → ⊥) → stand_at (list_at_place p) ≡ LostStand
stand_lost Waits other = refl
stand_lost Lost other = refl
stand_lost (In n) other = absurd (other n refl)

-- ---- what can stand

listed_at : (z : Option ℕ) → is_some z ≡ not (is_lost (stand_at z))
listed_at None = refl
listed_at (Some n) = refl

listed_is : (taken : List Entry) (z : Option Id) → is_none_or_listed taken z ≡ not (is_lost (stand_of taken z))
listed_is taken None = refl
listed_is taken (Some x) = listed_at (number_of taken x)

none_lost : (a b c : Bool) → not a && (not b && not c) ≡ not (a || (b || c))
none_lost true b c = refl
none_lost false true c = refl
none_lost false false c = refl

-- the units can stand where none of the three is lost
can_is : (r : ReceivedValue) (t : Entry) →
    can_stand r t ≡ not t.is_gone && not (is_lost (stand_of r.entries t.left) || (is_lost (stand_of r.entries t.right) || is_lost (stand_of r.entries (item_carried (carried_of r.runs t)))))
can_is r t =
    rw (listed_is r.entries t.left, listed_is r.entries t.right, listed_is r.entries (item_carried (carried_of r.runs t)))
    (ap (λ b. not t.is_gone && b) (none_lost (is_lost (stand_of r.entries t.left)) (is_lost (stand_of r.entries t.right)) (is_lost (stand_of r.entries (item_carried (carried_of r.runs t))))))

-- ---- the list

-- a stand tells the list of units that can stand
abbrev pub GivesList : List Entry → Option Id → Option Id → Stand → Type 0
GivesList taken left right Absent = (left ≡ None) × (right ≡ None)
GivesList taken left right LostStand = ⊥
GivesList taken left right (InStand n) = (name : DocList) (names : List DocList) → NumbersList left right name taken names names n

stand_number : (z : Option ℕ) (n : ℕ) → stand_at z ≡ InStand n → z ≡ Some n
stand_number None n e = absurd cc
stand_number (Some m) n e = cc

first_gives : (taken : List Entry) (left right : Option Id) (stand : Stand) → is_lost (stand_of taken left) || is_lost (stand_of taken right) ≡ false →
    first_stand (stand_of taken left) (stand_of taken right) ≡ stand → GivesList taken left right stand
first_gives taken None None Absent lost e = (refl, refl)
first_gives taken None None LostStand lost e = absurd cc
first_gives taken None None (InStand n) lost e = absurd cc
first_gives taken None (Some y) stand lost e = go (number_of taken y) refl stand lost e
  where
    go : (z : Option ℕ) → number_of taken y ≡ z → (s : Stand) → is_lost (stand_at z) ≡ false → stand_at z ≡ s → GivesList taken None (Some y) s
    go None f s lost e = absurd (true≢false lost)
    go (Some m) f Absent lost e = absurd cc
    go (Some m) f LostStand lost e = absurd cc
    go (Some m) f (InStand n) lost e = λ name names. (f ∙ stand_number (Some m) n e, refl)
first_gives taken (Some x) right stand lost e = go (number_of taken x) refl stand lost e
  where
    go : (z : Option ℕ) → number_of taken x ≡ z → (s : Stand) → is_lost (stand_at z) || is_lost (stand_of taken right) ≡ false →
        first_stand (stand_at z) (stand_of taken right) ≡ s → GivesList taken (Some x) right s
    go None f s lost e = absurd (true≢false lost)
    go (Some m) f Absent lost e = absurd cc
    go (Some m) f LostStand lost e = absurd cc
    go (Some m) f (InStand n) lost e = λ name names. (f ∙ stand_number (Some m) n e, refl)

-- ---- lemmas for callers

-- what is gone can not stand, and else it can where its stand is not lost; then that tells its list
abbrev pub Tells : ReceivedValue → Entry → Stand → Type 0
Tells r t Absent = (can_stand r t ≡ true) × (t.is_gone ≡ false) × (t.left ≡ None) × (t.right ≡ None)
Tells r t LostStand = can_stand r t ≡ false
Tells r t (InStand n) = (can_stand r t ≡ true) × ((name : DocList) (names : List DocList) → NumbersList t.left t.right name r.entries names names n)

pub stand_tells : (r : ReceivedValue) (t : Entry) (stand : Stand) → stand ≡ stand_for r t → Tells r t stand
stand_tells r t stand e = go t.is_gone refl stand e
  where
    left : Stand
    left = stand_of r.entries t.left

    right : Stand
    right = stand_of r.entries t.right

    item : Stand
    item = stand_of r.entries (item_carried (carried_of r.runs t))

    told : (s : Stand) → (t.is_gone ≡ false) → not (is_lost left || (is_lost right || is_lost item)) ≡ true → can_stand r t ≡ true → GivesList r.entries t.left t.right s → Tells r t s
    told Absent gone none can gives = (can, gone, gives.0, gives.1)
    told LostStand gone none can gives = absurd gives
    told (InStand n) gone none can gives = (can, gives)

    parts : (a b c : Bool) → a || (b || c) ≡ false → a || b ≡ false
    parts true b c f = f
    parts false true c f = f
    parts false false c f = refl

    choose : (b : Bool) → is_lost left || (is_lost right || is_lost item) ≡ b → t.is_gone ≡ false → (s : Stand) → s ≡ cond b LostStand (first_stand left right) → Tells r t s
    choose true lost gone LostStand f = can_is r t ∙ rw (lost, gone) refl
    choose true lost gone Absent f = absurd cc
    choose true lost gone (InStand n) f = absurd cc
    choose false lost gone s f = told s gone (rw lost refl) (can_is r t ∙ rw (lost, gone) refl) (first_gives r.entries t.left t.right s (parts (is_lost left) (is_lost right) (is_lost item) lost) (sym f))

    go : (g : Bool) → t.is_gone ≡ g → (s : Stand) → s ≡ stand_for r t → Tells r t s
    go true gone LostStand f = can_is r t ∙ rw gone refl
    go true gone Absent f = let lost : Absent ≡ LostStand = f ∙ rw gone refl in absurd cc
    go true gone (InStand n) f = let lost : InStand n ≡ LostStand = f ∙ rw gone refl in absurd cc
    go false gone s f = choose (is_lost left || (is_lost right || is_lost item)) refl gone s (f ∙ rw gone refl)

-- units without origins are in the list that they carry
pub carries : (r : ReceivedValue) (t : Entry) (old new : List DocList) (n : ℕ) → Tells r t Absent → NumbersName (list_or_root (carried_of r.runs t)) old new n → PlacesEntry r old new t (In n)
carries r t old new n tells named = (tells.0, rw (tells.2, tells.3) named)
