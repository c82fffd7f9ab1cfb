-- What must be deleted by the order of lists, and what the definitions delete where this is the origin order.
use Rattle.std.proofs.Common.{◌≡◌, ◌≢◌, Bool, true, false, ◌||◌, ◌&&◌, List, Some, inl, inr, refl, sym, ap, ◌∙◌, subst}
use Rattle.std.proofs.lemmas.Bool.{cases_Bool, or_left, or_right}
use Rattle.yd_words.specs.Member.{IsIn}
use Rattle.yd_words.proofs.TestLemmas.{both_hold, hold_both}
use Rattle.yd_ids.specs.declared.id.Id.{Id}
use Rattle.yd_ops.specs.declared.lists.List.{List as DocList}
use Rattle.yd_ops.specs.Operation.{Operation}
use Rattle.yd_origins.specs.Table.{IsTable}
use Rattle.yd_origins.specs.Deleted.{last_of, IsDeleted, by_name, by_key, by_item}
use Rattle.yd_ops.specs.Received.{has_operation, IsWritten}
use Rattle.yd_meaning.specs.Names.{has_key, item_of_list}
use Rattle.yd_meaning.specs.Held.{standing, is_lost}
use Rattle.yd_meaning.specs.Order.{rows_of, operation_set, list_of, order_of}
use Rattle.yd_meaning.specs.Deleted.{is_deleted_among, is_deleted}
use Rattle.yd_meaning.proofs.DeletedLemmas.{deleted_among_is, deleted_among-true}
use Rattle.yd_meaning.proofs.HeldListLemmas.{in_order_of}
use Rattle.yd_meaning.proofs.NestingLemmas.{standing_item}
use Rattle.yd_meaning.proofs.StandingTableLemmas.{standing_table}
use Rattle.yd_meaning.specs.Deletions.{MustBeDeleted, for_name, for_loss, for_key, for_item, AreClosedDeletions, AreLeastDeletions}
use Rattle.yd_meaning.proofs.GrownStayingLemmas.{stands_held, lost_is, stands_not_lost}

-- two tests of which each holds where the other does give one answer
both_ways : (s t : Bool) → (s ≡ true → t ≡ true) → (t ≡ true → s ≡ true) → s ≡ t
both_ways true t f g = sym (f refl)
both_ways false true f g = g refl
both_ways false false f g = refl

module _ (held : List Operation) (written : IsWritten held) (named : Id → Bool) where
  abbrev stands : List Operation
  stands = standing held

  table : IsTable (rows_of stands)
  table = standing_table held written

  -- what is lost is deleted
  lost_deleted : (x : Id) → is_lost held x ≡ true → is_deleted held named x ≡ true
  lost_deleted x e = or_left (is_lost held x) (is_deleted_among stands named x) e

  -- of what stands the test tells what the laws of the order call deleted
  is_deleted-true : (x : Id) → has_operation stands x ≡ true → IsDeleted (operation_set stands) named x → is_deleted held named x ≡ true
  is_deleted-true x e by = or_right (is_lost held x) (is_deleted_among stands named x) (deleted_among-true held written named e by)

  deleted_is : (x : Id) → has_operation stands x ≡ true → is_deleted held named x ≡ true → IsDeleted (operation_set stands) named x
  deleted_is x e by = deleted_among_is held written named x (sym (ap (λ t. t || is_deleted_among stands named x) (stands_not_lost held x e)) ∙ by)

  module _ (lists : DocList → List Id) (ordered : (list : DocList) → lists list ≡ order_of stands list) where
    -- what is in a list stands, and is of that list
    in_list : (list : DocList) (x : Id) → IsIn x (lists list) → (has_operation stands x ≡ true) × (list_of stands x ≡ list)
    in_list list x i = (in_order_of stands table list x).0 (subst (IsIn x) (ordered list) i)

    -- and what stands is in its own
    list_has : (x : Id) → has_operation stands x ≡ true → IsIn x (lists (list_of stands x))
    list_has x e = subst (IsIn x) (sym (ordered (list_of stands x))) ((in_order_of stands table (list_of stands x) x).1 (e, refl))

    module _ (deleted : Id → Bool) where
      -- ---- what must be deleted the definitions delete

      pub deleted_by_definition : ((y : Id) → deleted y ≡ true → is_deleted held named y ≡ true) → (x : Id) → MustBeDeleted lists held named deleted x →
          is_deleted held named x ≡ true
      deleted_by_definition sound x (for_name there by) = elim (cases_Bool (has_operation stands x)) [
        | inl e ↦ is_deleted-true x e (by_name by)
        | inr none ↦ lost_deleted x (lost_is held x there none)
      ]
      deleted_by_definition sound x (for_loss lost) = lost_deleted x lost
      deleted_by_definition sound x (for_key list i key other) = let (e, of) = in_list list x i in is_deleted-true x e (by_key (record {
        keyed = ap has_key of ∙ key;
        not_last = subst (λ l. last_of (order_of stands l) ≢ Some x) (sym of) (subst (λ l. last_of l ≢ Some x) (ordered list) other);
      }))
      deleted_by_definition sound x (for_item {y = y} list i item by) = let (e, of) = in_list list x i in
          let its : item_of_list (list_of stands x) ≡ Some y = ap item_of_list of ∙ item in
          is_deleted-true x e (by_item its (deleted_is y (standing_item held written x y e its) (sound y by)))

      -- ---- what the definitions delete is deleted

      module _ (closed : AreClosedDeletions lists held named deleted) where
        deleted_as_defined : {x : Id} → has_operation stands x ≡ true → IsDeleted (operation_set stands) named x → deleted x ≡ true
        deleted_as_defined e (by_name {x = x} by) = closed.all x (for_name (stands_held held written x e) by)
        deleted_as_defined e (by_key {x = x} over) = closed.all x (for_key (list_of stands x) (list_has x e) over.keyed
            (subst (λ l. last_of l ≢ Some x) (sym (ordered (list_of stands x))) over.not_last))
        deleted_as_defined e (by_item {x = x} {y = y} item by) = closed.all x (for_item (list_of stands x) (list_has x e) item
            (deleted_as_defined (standing_item held written x y e item) by))

        pub all_deleted : (x : Id) → has_operation held x ≡ true → is_deleted held named x ≡ true → deleted x ≡ true
        all_deleted x there e = elim (cases_Bool (has_operation stands x)) [
          | inl up ↦ deleted_as_defined up (deleted_is x up e)
          | inr none ↦ closed.all x (for_loss (lost_is held x there none))
        ]

      must_be_held : (x : Id) → MustBeDeleted lists held named deleted x → has_operation held x ≡ true
      must_be_held x (for_name there by) = there
      must_be_held x (for_loss lost) = (both_hold (has_operation held x) _ lost).0
      must_be_held x (for_key list i key other) = stands_held held written x (in_list list x i).0
      must_be_held x (for_item list i item by) = stands_held held written x (in_list list x i).0

    -- ---- lemmas for callers

    -- by the definitions all is deleted that must be
    pub definition_closed : AreClosedDeletions lists held named (λ x. has_operation held x && is_deleted held named x)
    definition_closed = record {
      all = λ x must. hold_both (has_operation held x) (is_deleted held named x) (must_be_held (λ y. has_operation held y && is_deleted held named y) x must)
          (deleted_by_definition (λ y. has_operation held y && is_deleted held named y) (λ y e. (both_hold (has_operation held y) (is_deleted held named y) e).1) x must);
      only_held = λ x e. (both_hold (has_operation held x) (is_deleted held named x) e).0;
    }

    -- and nothing else
    pub definition_least : AreLeastDeletions lists held named (λ x. has_operation held x && is_deleted held named x)
    definition_least other closed x e = let b = both_hold (has_operation held x) (is_deleted held named x) e in all_deleted other closed x b.0 b.1

    pub least_is_deleted : (deleted : Id → Bool) → AreClosedDeletions lists held named deleted → AreLeastDeletions lists held named deleted →
        (x : Id) → deleted x ≡ (has_operation held x && is_deleted held named x)
    least_is_deleted deleted closed least x = both_ways (deleted x) (has_operation held x && is_deleted held named x)
        (least (λ y. has_operation held y && is_deleted held named y) definition_closed x) (definition_least deleted closed x)
