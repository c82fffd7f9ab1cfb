-- What is deleted after an edit of one list: of that list what is named, and of what lies around it the same as before.
use Rattle.std.proofs.Common.{◌≡◌, ◌≢◌, ◌⊎◌, ◌<◌, ℕ, zero, suc, Bool, true, false, ◌&&◌, ◌||◌, not, List, Option, Some, None, inl, inr, refl, sym, ap, ◌∙◌, subst, arith, true≢false}
use Rattle.std.proofs.lemmas.Bool.{cases_Bool}
use Rattle.std.specs.Prelude.{IfSome}
use Rattle.yd_words.specs.Test.{is_some_and}
use Rattle.yd_words.specs.Member.{IsIn}
use Rattle.yd_ids.specs.declared.id.Id.{Id}
use Rattle.yd_ids.specs.Ids.{is_same_neighbour}
use Rattle.yd_ids.proofs.IdLemmas.{same_itself}
use Rattle.yd_ops.specs.declared.lists.List.{List as DocList}
use Rattle.yd_ops.specs.Operation.{Operation}
use Rattle.yd_origins.specs.Deleted.{last_of}
use Rattle.yd_origins.specs.Table.{ids_of}
use Rattle.yd_ops.specs.Received.{has_operation, all_taken}
use Rattle.yd_ops.proofs.OneOfLemmas.{ids_stay}
use Rattle.yd_meaning.specs.Held.{standing, is_lost}
use Rattle.yd_meaning.specs.ListNames.{same_list_decides}
use Rattle.yd_meaning.specs.Names.{same_list, has_key, item_of_list}
use Rattle.yd_meaning.specs.Order.{rows_of, list_of, order_of}
use Rattle.yd_meaning.specs.Deleted.{is_overwritten, is_deleted}
use Rattle.yd_meaning.specs.Document.{document_with}
use Rattle.yd_meaning.proofs.RowLemmas.{has_row, row_has}
use Rattle.yd_meaning.proofs.NestingLemmas.{nesting, nesting_falls}
use Rattle.yd_meaning.proofs.DeletedTestLemmas.{is_deleted-one}
use Rattle.yd_editing.specs.Law.{IsHonestHeld, units_of, StandAfter}
use Rattle.yd_editing.proofs.UnitLemmas.{in_list, unit_ids, held_id}
use Rattle.yd_editing.proofs.RefusalLemmas.{id_in_map}

-- of what is not lost
pub is_deleted_at : (held : List Operation) → IsHonestHeld held → (named : Id → Bool) (x : Id) → has_operation (standing held) x ≡ true →
    is_deleted held named x ≡ (named x || (is_overwritten (standing held) (list_of (standing held) x) x
    || is_some_and (is_deleted held named) (item_of_list (list_of (standing held) x))))
is_deleted_at held is named x e =
    subst (λ h. is_deleted h named x ≡ (is_lost h x || (named x || (is_overwritten (standing h) (list_of (standing h) x) x
    || is_some_and (is_deleted h named) (item_of_list (list_of (standing h) x)))))) is.whole
    (is_deleted-one held is.written named x (subst (λ h. has_operation h x ≡ true) (sym is.whole) (held_id held is x e)))
    ∙ ap (λ t. t || (named x || (is_overwritten (standing held) (list_of (standing held) x) x
    || is_some_and (is_deleted held named) (item_of_list (list_of (standing held) x))))) not_lost
  where
    not_lost : is_lost held x ≡ false
    not_lost = rw (held_id held is x e, e) refl

-- of a list, in what is live or not
module _ (held : List Operation) (is : IsHonestHeld held) (named : Id → Bool) (name : DocList) (o : Operation) (i : IsIn o (units_of held name)) where
  in_order : IsIn o.id (order_of (standing held) name)
  in_order = subst (λ ids. IsIn o.id ids) (unit_ids held is name) (id_in_map (units_of held name) o i)

  there : has_operation (standing held) o.id ≡ true
  there = ((in_list held is name o.id).0 in_order).0

  of_list : list_of (standing held) o.id ≡ name
  of_list = ((in_list held is name o.id).0 in_order).1

  -- what is named, overwritten, or of a deleted parent is deleted, as the document has it
  pub unit_deleted : (document_with held named).deleted o.id ≡ (named o.id
      || ((has_key name && not (is_same_neighbour (last_of (order_of (standing held) name)) (Some o.id))) || is_some_and (is_deleted held named) (item_of_list name)))
  unit_deleted = ap (λ t. t && is_deleted held named o.id) (held_id held is o.id there)
      ∙ is_deleted_at held is named o.id there
      ∙ ap (λ list. named o.id || (is_overwritten (standing held) list o.id || is_some_and (is_deleted held named) (item_of_list list))) of_list

  or_false : (t : Bool) → t || false ≡ t
  or_false true = refl
  or_false false = refl

  -- in what is live, just what is named is deleted of a list without a key
  pub own_live : has_key name ≡ false → is_some_and (is_deleted held named) (item_of_list name) ≡ false → (document_with held named).deleted o.id ≡ named o.id
  own_live no_key live = unit_deleted ∙ rw (no_key, live) (or_false (named o.id))

  -- and of what stands last in a list
  pub last_live : last_of (order_of (standing held) name) ≡ Some o.id → is_some_and (is_deleted held named) (item_of_list name) ≡ false →
      (document_with held named).deleted o.id ≡ named o.id
  last_live last live = unit_deleted
      ∙ rw (last, live, same_itself o.id) (not_overwritten (has_key name))
    where
      not_overwritten : (t : Bool) → (named o.id || ((t && false) || false)) ≡ named o.id
      not_overwritten true = or_false (named o.id)
      not_overwritten false = or_false (named o.id)

module _ (held news : List Operation) (evolved : DocList → List Operation) (is : IsHonestHeld held) (t : StandAfter held news evolved) (name : DocList)
    (others : (other : DocList) → other ≢ name → order_of (standing (all_taken news held)) other ≡ order_of (standing held) other) (named after : Id → Bool)
    (same_named : (x : Id) → has_operation (standing held) x ≡ true → list_of (standing held) x ≢ name → after x ≡ named x) where
  abbrev new : List Operation
  new = all_taken news held

  abbrev depth : Id → ℕ
  depth = nesting held is.written

  up : (y : Id) → has_operation (standing held) y ≡ true → has_operation (standing new) y ≡ true
  up y e = ids_stay (standing held) (standing new) y t.stay_standing e

  falls : (x : Id) → has_operation (standing held) x ≡ true →
      IfSome (item_of_list (list_of (standing held) x)) (λ y. IsIn y (ids_of (rows_of (standing held))) × (depth y < depth x))
  falls x e = nesting_falls held is.written x (has_row (standing held) x e)

  item_same : (z : Option Id) → IfSome z (λ y. is_deleted new after y ≡ is_deleted held named y) → is_some_and (is_deleted new after) z ≡ is_some_and (is_deleted held named) z
  item_same None e = refl
  item_same (Some y) e = e

  -- named and overwritten as before
  abbrev IsAlike : Id → Type 0
  IsAlike x = (after x ≡ named x) × (is_overwritten (standing new) (list_of (standing held) x) x ≡ is_overwritten (standing held) (list_of (standing held) x) x)

  -- where all that lies no deeper than this is so, it is deleted as before
  same_within : (n : ℕ) → ((x : Id) → has_operation (standing held) x ≡ true → depth x < n → IsAlike x) →
      (z : Id) → has_operation (standing held) z ≡ true → depth z < n → is_deleted new after z ≡ is_deleted held named z
  same_within zero alike z e lt = absurd (omega (arith, lt))
  same_within (suc n) alike z e lt = step (falls z e) (λ y f l. same_within n (λ x g less. alike x g (omega (arith, less))) y f l)
    where
      step : IfSome (item_of_list (list_of (standing held) z)) (λ y. IsIn y (ids_of (rows_of (standing held))) × (depth y < depth z)) →
          ((y : Id) → has_operation (standing held) y ≡ true → depth y < n → is_deleted new after y ≡ is_deleted held named y) →
          is_deleted new after z ≡ is_deleted held named z
      step below again = is_deleted_at new t.all_held after z (up z e)
          ∙ ap (λ list. after z || (is_overwritten (standing new) list z || is_some_and (is_deleted new after) (item_of_list list))) (sym (t.same_list z e))
          ∙ ap (λ b. b || (is_overwritten (standing new) (list_of (standing held) z) z || is_some_and (is_deleted new after) (item_of_list (list_of (standing held) z))))
          (alike z e lt).0
          ∙ ap (λ b. named z || (b || is_some_and (is_deleted new after) (item_of_list (list_of (standing held) z)))) (alike z e lt).1
          ∙ ap (λ b. named z || (is_overwritten (standing held) (list_of (standing held) z) z || b))
          (item_same (item_of_list (list_of (standing held) z)) (each (item_of_list (list_of (standing held) z)) below))
          ∙ sym (is_deleted_at held is named z e)
        where
          each : (w : Option Id) → IfSome w (λ y. IsIn y (ids_of (rows_of (standing held))) × (depth y < depth z)) →
              IfSome w (λ y. is_deleted new after y ≡ is_deleted held named y)
          each None b = tt
          each (Some y) b = again y (row_has (standing held) y b.0) (omega (arith, b.1, lt))

  -- what is of another list is overwritten as before
  other_alike : (x : Id) → list_of (standing held) x ≢ name →
      is_overwritten (standing new) (list_of (standing held) x) x ≡ is_overwritten (standing held) (list_of (standing held) x) x
  other_alike x differ = ap (λ order. has_key (list_of (standing held) x) && not (is_same_neighbour (last_of order) (Some x))) (others (list_of (standing held) x) differ)

  -- ---- lemmas for callers

  -- the parent of the list is deleted as before
  pub parent_same : (y : Id) → has_operation (standing held) y ≡ true → item_of_list name ≡ Some y → is_deleted new after y ≡ is_deleted held named y
  parent_same y e item = same_within (suc (depth y)) (λ x f lt. (same_named x f (outside x f lt), other_alike x (outside x f lt))) y e (omega arith)
    where
      outside : (x : Id) → has_operation (standing held) x ≡ true → depth x < suc (depth y) → list_of (standing held) x ≢ name
      outside x f lt same = let deeper : depth y < depth x = (subst (λ z. IfSome z (λ v. IsIn v (ids_of (rows_of (standing held))) × (depth v < depth x)))
          (ap item_of_list same ∙ item) (falls x f)).1 in
          absurd (omega (arith, lt, deeper))

  -- where the list has no key, and nothing more is named, all that stood is deleted as before
  pub stood_same : has_key name ≡ false → ((x : Id) → after x ≡ named x) → (y : Id) → has_operation (standing held) y ≡ true → is_deleted new after y ≡ is_deleted held named y
  stood_same no_key same y e = same_within (suc (depth y)) (λ x f lt. (same x, either x (cases_Bool (same_list (list_of (standing held) x) name)))) y e (omega arith)
    where
      either : (x : Id) → (same_list (list_of (standing held) x) name ≡ true) ⊎ (same_list (list_of (standing held) x) name ≡ false) →
          is_overwritten (standing new) (list_of (standing held) x) x ≡ is_overwritten (standing held) (list_of (standing held) x) x
      either x (inl own) = rw (ap has_key ((same_list_decides (list_of (standing held) x) name).0 own) ∙ no_key) refl
      either x (inr other) = other_alike x (λ own. true≢false (sym ((same_list_decides (list_of (standing held) x) name).1 own) ∙ other))
