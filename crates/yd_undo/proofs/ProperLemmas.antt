-- The steps that undo an entry are proper: their contents are valid, and their places are in range.
use Rattle.std.proofs.Common.{◌≡◌, ℕ, zero, suc, ◌-◌, ◌&&◌, not, Bool, true, false, List, [], ◌∷◌, map, Option, None, Some, inl, inr, refl, sym, subst, arith, true≢false}
use Rattle.std.specs.Prelude.{if◌then◌else◌, IfSome}
use Rattle.yd_words.specs.Each.{Each}
use Rattle.yd_words.specs.Member.{IsIn}
use Rattle.yd_words.proofs.MemberLemmas.{each_in}
use Rattle.yd_ids.specs.declared.id.Id.{Id}
use Rattle.yd_ids.specs.declared.id.Span.{Span}
use Rattle.yd_ids.specs.Id.{IsId}
use Rattle.yd_ids.specs.Ids.{is_same, is_same_neighbour}
use Rattle.yd_ids.proofs.IdLemmas.{same_is}
use Rattle.yd_ops.specs.declared.lists.List.{List as DocList}
use Rattle.yd_ops.specs.declared.lists.Parent.{Parent}
use Rattle.yd_ops.specs.declared.lists.Parent.TheVariants.{Root, Item}
use Rattle.yd_ops.specs.Operation.{Operation, UnitContent, later_id}
use Rattle.yd_ops.specs.Valid.{IsParent}
use Rattle.yd_origins.specs.Deleted.{last_of}
use Rattle.yd_meaning.specs.Held.{held_set, standing}
use Rattle.yd_meaning.specs.Names.{item_of_parent, has_key}
use Rattle.yd_meaning.proofs.HeldLemmas.{held_in}
use Rattle.yd_meaning.proofs.StandingLemmas.{standing_in}
use Rattle.yd_meaning.proofs.VectorLemmas.{held_written}
use Rattle.yd_meaning.specs.Replica.{IsReplicaDocument}
use Rattle.yd_grouping.specs.Groupable.{IsValidUnitContent, IsValidOperation, AreGroupable}
use Rattle.yd_state.specs.Lent.{Lent, lent, last_unit}
use Rattle.yd_editing.specs.Basis.{is_type, has_type_item}
use Rattle.yd_editing.specs.Step.{make}
use Rattle.yd_making.specs.Steps.{IsProper}
use Rattle.yd_doc.specs.Kept.{Kept, received_of, own_document}
use Rattle.yd_copying.specs.Content.{can_be_made, kind_of, content_of}
use Rattle.yd_remaking.specs.Group.{goes_on, row_behind, units_from, group_from}
use Rattle.yd_remaking.specs.Last.{last_made}
use Rattle.yd_remaking.specs.Parts.{contents_of}
use Rattle.yd_remaking.specs.Rows.{unit_before, HoldValid}
use Rattle.yd_undo.specs.declared.entry.Entry.{Entry}
use Rattle.yd_undo.specs.Remade.{Seen, seen_of, units_in, is_place, group_in, step_of_group, step_at_end, step_of_key}
use Rattle.yd_undo.specs.Steps.{undo_steps}
use Rattle.yd_undo.proofs.ContentLemmas.{CanMake, content_made}
use Rattle.yd_undo.proofs.EachLemmas.{remade_each}
use Rattle.yd_undo.proofs.RemadeLemmas.{hold_valid}

-- ---- what is read of a replica

-- what units hold is valid, and ids are in range
record IsSeen (seen : Seen) : Type 0 where
  valid : (name : DocList) → HoldValid (units_in seen name)
  ids : (name : DocList) → Each (λ (u : Lent). IsId u.id) (units_in seen name)
  types : (y : Id) → seen.basis.has_type y ≡ true → IsId y
  last : (name : DocList) → IfSome (last_unit seen.basis.document name) IsId

type_in_range : (os : List Operation) → ((o : Operation) → IsIn o os → IsId o.id) → (y : Id) → has_type_item os y ≡ true → IsId y
type_in_range [] all y e = absurd (true≢false (sym e))
type_in_range (o ∷ os) all y e = go (is_same o.id y) refl e (λ f. type_in_range os (λ p i. all p (inr i)) y f)
  where
    go : (t : Bool) → is_same o.id y ≡ t → (if t then is_type o.content else has_type_item os y) ≡ true → (has_type_item os y ≡ true → IsId y) → IsId y
    go true s f more = subst IsId (same_is o.id y s) (all o (inl refl))
    go false s f more = more f

last_in_range : (os : List Operation) → ((o : Operation) → IsIn o os → IsId o.id) → IfSome (last_of (map (λ (o : Operation). o.id) os)) IsId
last_in_range [] all = tt
last_in_range (o ∷ []) all = all o (inl refl)
last_in_range (o ∷ p ∷ os) all = last_in_range (p ∷ os) (λ q i. all q (inr i))

lent_in_range : (deleted : Id → Bool) (os : List Operation) → ((o : Operation) → IsIn o os → IsId o.id) → Each (λ (u : Lent). IsId u.id) (map (lent deleted) os)
lent_in_range deleted [] all = tt
lent_in_range deleted (o ∷ os) all = (all o (inl refl), lent_in_range deleted os (λ q i. all q (inr i)))

is_seen : (r : Kept) → IsReplicaDocument (own_document r) (received_of r) → AreGroupable (received_of r).operations → IsSeen (seen_of r)
is_seen r is groupable = record {
  valid = λ name. hold_valid (own_document r) name os groupable.valid (among name);
  ids = λ name. lent_in_range (own_document r).deleted ((own_document r).units name) (λ o i. in_range o (among name o i));
  types = λ y e. type_in_range (standing (held_set os)) (λ o i. in_range o (stands o i)) y e;
  last = λ name. last_in_range ((own_document r).units name) (λ o i. in_range o (among name o i));
}
  where
    os : List Operation
    os = (received_of r).operations

    stands : (o : Operation) → IsIn o (standing (held_set os)) → IsIn o os
    stands o i = held_in os o (standing_in (held_set os) (held_written os groupable.written) o i).0

    among : (name : DocList) (o : Operation) → IsIn o ((own_document r).units name) → IsIn o os
    among name o i = stands o (is.as_held name o i)

    in_range : (o : Operation) → IsIn o os → IsId o.id
    in_range o i = let v = each_in IsValidOperation os groupable.valid o i in record { client = v.client; clock = let e = v.end in omega (arith, e) }

-- ---- parts of lists

from_each : (P : Lent → Type 0) (x : Id) (us : List Lent) → Each P us → Each P (units_from x us)
from_each P x [] each = tt
from_each P x (u ∷ us) each = go (is_same u.id x) (from_each P x us each.1)
  where
    go : (t : Bool) → Each P (units_from x us) → Each P (if t then u ∷ us else units_from x us)
    go true rest = each
    go false rest = rest

row_each : (P : Lent → Type 0) (k : ℕ) (x : Id) (n : ℕ) (us : List Lent) → Each P us → Each P (row_behind k x n us)
row_each P k x zero us each = tt
row_each P k x (suc n) [] each = tt
row_each P k x (suc n) (u ∷ us) each = go (goes_on k x u) (row_each P k (later_id x 1) n us each.1)
  where
    go : (t : Bool) → Each P (row_behind k (later_id x 1) n us) → Each P (if t then u ∷ row_behind k (later_id x 1) n us else [])
    go true rest = (each.0, rest)
    go false rest = tt

contents_valid : (us : List Lent) → HoldValid us → Each IsValidUnitContent (contents_of us)
contents_valid [] each = tt
contents_valid (u ∷ us) each = (each.0, contents_valid us each.1)

before_in_range : (x : Id) (before : Option Id) (us : List Lent) → IfSome before IsId → Each (λ (u : Lent). IsId u.id) us → IfSome (unit_before x before us) IsId
before_in_range x before [] is each = is
before_in_range x before (u ∷ us) is each = go (is_same u.id x) (before_in_range x (Some u.id) us each.0 each.1)
  where
    go : (t : Bool) → IfSome (unit_before x (Some u.id) us) IsId → IfSome (if t then before else unit_before x (Some u.id) us) IsId
    go true rest = is
    go false rest = rest

parent_in_range : (seen : Seen) → IsSeen seen → (name : DocList) → is_place seen name ≡ true → IsParent name.parent
parent_in_range seen is name e = go name.parent e
  where
    go : (p : Parent) → elim (item_of_parent p) [ None ↦ true | Some y ↦ seen.basis.has_type y ] ≡ true → IsParent p
    go (Root root) f = tt
    go (Item y) f = is.types y f

-- ---- steps

-- the content of a group can be made
group_made : (u : Lent) (us : List Lent) (most : ℕ) → can_be_made u.content ≡ true → HoldValid (u ∷ us) →
    CanMake (content_of (contents_of (u ∷ row_behind (kind_of u.content) (later_id u.id 1) (most - 1) us)))
group_made u us most made valid = content_made u.content (contents_of (row_behind (kind_of u.content) (later_id u.id 1) (most - 1) us)) made (
  valid.0,
  contents_valid (row_behind (kind_of u.content) (later_id u.id 1) (most - 1) us)
      (row_each (λ (v : Lent). IsValidUnitContent v.content) (kind_of u.content) (later_id u.id 1) (most - 1) us valid.1),
)

is_proper : (name : DocList) (after : Option Id) (us : List UnitContent) → CanMake (content_of us) → IsParent name.parent → IfSome after IsId → IsProper (make name after (content_of us))
is_proper name after us can parent place = (can.valid, can.some, can.makeable, parent, place)

group_step : (seen : Seen) (name : DocList) (x : Id) (most : ℕ) (us : List Lent) → HoldValid us → IsParent name.parent → IfSome (unit_before x None (units_in seen name)) IsId →
    Each IsProper (step_of_group seen (Some name) x (group_from most us))
group_step seen name x most [] valid parent place = tt
group_step seen name x most (u ∷ us) valid parent place = go (can_be_made u.content) refl
  where
    go : (t : Bool) → can_be_made u.content ≡ t →
        Each IsProper (step_of_group seen (Some name) x (if t then u ∷ row_behind (kind_of u.content) (later_id u.id 1) (most - 1) us else []))
    go true e = (
      is_proper name (unit_before x None (units_in seen name)) (contents_of (u ∷ row_behind (kind_of u.content) (later_id u.id 1) (most - 1) us))
          (group_made u us most e valid) parent place,
      tt,
    )
    go false e = tt

end_step : (name : DocList) (end : Option Id) (us : List Lent) → HoldValid us → IsParent name.parent → IfSome end IsId → Each IsProper (step_at_end name end (group_from 1 us))
end_step name end [] valid parent place = tt
end_step name end (u ∷ us) valid parent place = go (can_be_made u.content) refl
  where
    go : (t : Bool) → can_be_made u.content ≡ t → Each IsProper (step_at_end name end (if t then u ∷ row_behind (kind_of u.content) (later_id u.id 1) (1 - 1) us else []))
    go true e = (is_proper name end (contents_of (u ∷ row_behind (kind_of u.content) (later_id u.id 1) (1 - 1) us)) (group_made u us 1 e valid) parent place, tt)
    go false e = tt

from_valid : (seen : Seen) → IsSeen seen → (name : DocList) (x : Id) → HoldValid (units_from x (units_in seen name))
from_valid seen is name x = from_each (λ (u : Lent). IsValidUnitContent u.content) x (units_in seen name) (is.valid name)

group_proper : (seen : Seen) → IsSeen seen → (name : DocList) (x : Id) (most : ℕ) → Each IsProper (step_of_group seen (Some name) x (group_in seen (Some name) x most))
group_proper seen is name x most = go (has_key name) (is_place seen name) refl
  where
    go : (k p : Bool) → is_place seen name ≡ p → Each IsProper (step_of_group seen (Some name) x (if not k && p then group_from most (units_from x (units_in seen name)) else []))
    go true p e = tt
    go false false e = tt
    go false true e = group_step seen name x most (units_from x (units_in seen name)) (from_valid seen is name x) (parent_in_range seen is name e)
        (before_in_range x None (units_in seen name) tt (is.ids name))

key_proper : (seen : Seen) → IsSeen seen → (deleted : List Span) (name : DocList) (x : Id) → Each IsProper (step_of_key seen deleted (Some name) x)
key_proper seen is deleted name x = go (has_key name) (is_place seen name) refl (is_same_neighbour (Some x) (last_made deleted None (units_in seen name)))
  where
    go : (k p : Bool) → is_place seen name ≡ p → (l : Bool) →
        Each IsProper (if k && (p && l) then step_at_end name (last_unit seen.basis.document name) (group_from 1 (units_from x (units_in seen name))) else [])
    go false p e l = tt
    go true false e l = tt
    go true true e false = tt
    go true true e true = end_step name (last_unit seen.basis.document name) (units_from x (units_in seen name)) (from_valid seen is name x) (parent_in_range seen is name e) (is.last name)

-- ---- lemmas for callers

pub undo_proper : (r : Kept) → IsReplicaDocument (own_document r) (received_of r) → AreGroupable (received_of r).operations → (e : Entry) → Each IsProper (undo_steps (seen_of r) e)
undo_proper r replicas groupable e = let is = is_seen r replicas groupable in
    (tt, remade_each IsProper (seen_of r) (group_proper (seen_of r) is) (key_proper (seen_of r) is) e.deleted)
