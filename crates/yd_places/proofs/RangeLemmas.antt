-- The list of a place has a parent in range.
use Rattle.std.proofs.Common.{◌≡◌, ℕ, zero, suc, Bool, true, false, List, [], ◌∷◌, length, Option, Some, None, inl, inr, refl, sym, ap, ◌∙◌, subst, arith, true≢false}
use Rattle.std.specs.Prelude.{if◌then◌else◌, IfSome}
use Rattle.yd_words.specs.Member.{IsIn}
use Rattle.yd_words.proofs.MemberLemmas.{each_in}
use Rattle.yd_ids.specs.declared.id.Id.{Id}
use Rattle.yd_ids.specs.Id.{IsId}
use Rattle.yd_ids.specs.Ids.{is_same}
use Rattle.yd_ids.proofs.IdLemmas.{same_is}
use Rattle.yd_ops.specs.declared.lists.List.{List as DocList}
use Rattle.yd_ops.specs.declared.lists.Parent.TheVariants as parents
use Rattle.yd_ops.specs.Operation.{Operation, level_of}
use Rattle.yd_ops.specs.Valid.{CarriesList, IsParent}
use Rattle.yd_origins.specs.Operations.{list_by_origins, list_within}
use Rattle.yd_origins.specs.Table.{ids_of, left_of, right_of}
use Rattle.yd_meaning.specs.Held.{held_set}
use Rattle.yd_meaning.specs.Order.{list_carried, list_of, list_or_root, operation_set, rows_of}
use Rattle.yd_meaning.proofs.HeldLemmas.{held_in}
use Rattle.yd_meaning.proofs.StandingLemmas.{standing_in}
use Rattle.yd_meaning.proofs.VectorLemmas.{held_written}
use Rattle.yd_ops.specs.Received.{has_operation}
use Rattle.yd_grouping.specs.Groupable.{AreGroupable, IsValidOperation}
use Rattle.yd_editing.specs.Basis.{has_type_item, is_type}
use Rattle.yd_making.specs.Standing.{stands_in}
use Rattle.yd_doc.specs.Editing.{own_basis}
use Rattle.yd_doc.specs.Kept.{Kept, own_document, received_of}
use Rattle.yd_position.specs.declared.position.Position.{Position}
use Rattle.yd_position.specs.declared.position.Target.{Target}
use Rattle.yd_position.specs.declared.position.Target.TheVariants as targets
use Rattle.yd_places.specs.Place.{place_in, place_of, place_of_target, whole_place}

-- ---- lists of valid operations

abbrev IsInRange : DocList → Type 0
IsInRange name = IsParent name.parent

-- a list that is carried has a parent in range
carries : (left right : Option Id) (name : DocList) → CarriesList left right (Some name) → IsInRange name
carries None None name c = c
carries None (Some r) name c = absurd c
carries (Some l) right name c = absurd c

own_in_range : (o : Operation) → IsValidOperation o → IsInRange (list_or_root o.list)
own_in_range o valid = go (level_of o.content) refl o.list refl
  where
    go : (level : ℕ) → level_of o.content ≡ level → (list : Option DocList) → o.list ≡ list → IsInRange (list_or_root list)
    go level e None f = tt
    go zero e (Some name) f = let none : None ≡ Some name = sym (ap (λ (p : Operation). p.list) (valid.bare e)) ∙ f in absurd cc
    go (suc level) e (Some name) f =
        carries o.left_origin o.right_origin name (subst (CarriesList o.left_origin o.right_origin) f (valid.list (omega (arith, e))))

carried_in_range : (os : List Operation) → ((o : Operation) → IsIn o os → IsValidOperation o) → (x : Id) → IsInRange (list_carried os x)
carried_in_range [] valid x = tt
carried_in_range (o ∷ os) valid x = go (is_same o.id x) (own_in_range o (valid o (inl refl))) (carried_in_range os (λ p i. valid p (inr i)) x)
  where
    go : (t : Bool) → IsInRange (list_or_root o.list) → IsInRange (list_carried os x) → IsInRange (if t then list_or_root o.list else list_carried os x)
    go true one rest = one
    go false one rest = rest

within_in_range : (os : List Operation) → ((o : Operation) → IsIn o os → IsValidOperation o) → (n : ℕ) (x : Id) → IsInRange (list_within (operation_set os) n x)
within_in_range os valid zero x = carried_in_range os valid x
within_in_range os valid (suc n) x = go (left_of (rows_of os) x) (right_of (rows_of os) x) (within_in_range os valid n)
  where
    go : (left right : Option Id) → ((y : Id) → IsInRange (list_within (operation_set os) n y)) →
        IsInRange (list_by_origins left right (list_carried os x) (list_within (operation_set os) n))
    go (Some p) right rest = rest p
    go None (Some r) rest = rest r
    go None None rest = carried_in_range os valid x

list_in_range : (os : List Operation) → ((o : Operation) → IsIn o os → IsValidOperation o) → (x : Id) → IsInRange (list_of os x)
list_in_range os valid x = within_in_range os valid (suc (length (ids_of (rows_of os)))) x

-- a type is an operation
type_in_range : (os : List Operation) → ((o : Operation) → IsIn o os → IsValidOperation o) → (y : Id) → has_type_item os y ≡ true → IsId y
type_in_range [] valid y e = absurd (true≢false (sym e))
type_in_range (o ∷ os) valid y e = go (is_same o.id y) refl e (λ f. type_in_range os (λ p i. valid p (inr i)) y f)
  where
    go : (t : Bool) → is_same o.id y ≡ t → (if t then is_type o.content else has_type_item os y) ≡ true → (has_type_item os y ≡ true → IsId y) → IsId y
    go true s f more = let v = valid o (inl refl) in
        subst IsId (same_is o.id y s) (record { client = v.client; clock = let e = v.end in omega (arith, e) })
    go false s f more = more f

-- ---- lemmas for callers

pub place_in_range : (r : Kept) → AreGroupable (received_of r).operations → (p : Position) → IfSome (place_of r p) (λ both. IsParent both.0.parent)
place_in_range r groupable p = by_target p.target
  where
    os : List Operation
    os = (received_of r).operations

    valid : (o : Operation) → IsIn o (stands_in (received_of r)) → IsValidOperation o
    valid o i = each_in IsValidOperation os groupable.valid o (held_in os o (standing_in (held_set os) (held_written os groupable.written) o i).0)

    by_list : (x : Id) (t : Bool) → IfSome (place_in (own_document r) (if t then Some (list_of (stands_in (received_of r)) x) else None) x p.assoc) (λ both. IsParent both.0.parent)
    by_list x true = list_in_range (stands_in (received_of r)) valid x
    by_list x false = tt

    by_type : (y : Id) (t : Bool) → (own_basis r).has_type y ≡ t →
        IfSome (if t then Some (whole_place (own_document r) (parents.Item y) p.assoc) else None) (λ both. IsParent both.0.parent)
    by_type y true e = type_in_range (stands_in (received_of r)) valid y e
    by_type y false e = tt

    by_target : (t : Target) → IfSome (place_of_target r t p.assoc) (λ both. IsParent both.0.parent)
    by_target (targets.Unit id) = by_list id (has_operation (stands_in (received_of r)) id)
    by_target (targets.Root name) = tt
    by_target (targets.Item id) = by_type id ((own_basis r).has_type id) refl
