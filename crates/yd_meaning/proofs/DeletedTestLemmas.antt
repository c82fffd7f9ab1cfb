-- Whether a held operation is deleted: what is lost is, and of the others it is a matter of their lists and items.
use Rattle.std.proofs.Common.{◌≡◌, Bool, true, false, ◌&&◌, ◌||◌, not, List, Option, Some, None, inl, inr, refl, sym, ap, ◌∙◌}
use Rattle.std.proofs.lemmas.Bool.{cases_Bool}
use Rattle.yd_words.specs.Test.{is_some_and}
use Rattle.yd_ids.specs.declared.id.Id.{Id}
use Rattle.yd_ops.specs.Operation.{Operation}
use Rattle.yd_origins.specs.Deleted.{IsDeleted}
use Rattle.yd_ops.specs.Received.{has_operation, IsWritten}
use Rattle.yd_meaning.specs.Names.{item_of_list}
use Rattle.yd_meaning.specs.Held.{held_set, standing, is_lost}
use Rattle.yd_meaning.specs.Order.{operation_set, list_of}
use Rattle.yd_meaning.specs.Deleted.{is_overwritten, is_deleted_among, is_deleted}
use Rattle.yd_meaning.proofs.NestingLemmas.{standing_item}
use Rattle.yd_meaning.proofs.VectorLemmas.{held_written}
use Rattle.yd_meaning.proofs.DeletedLemmas.{deleted_among-one, deleted_among_is, deleted_among-true}

module _ (os : List Operation) (w : IsWritten os) (named : Id → Bool) where
  abbrev held : List Operation
  held = held_set os

  written : IsWritten held
  written = held_written os w

  -- of what is not lost the test is that among what stands
  pub deleted_standing : (x : Id) → has_operation (standing held) x ≡ true → is_deleted held named x ≡ is_deleted_among (standing held) named x
  deleted_standing x e = go (has_operation held x)
    where
      go : (t : Bool) → (t && not (has_operation (standing held) x)) || is_deleted_among (standing held) named x ≡ is_deleted_among (standing held) named x
      go true = rw e refl
      go false = refl

  item_alike : (x : Id) → has_operation (standing held) x ≡ true → (z : Option Id) → item_of_list (list_of (standing held) x) ≡ z →
      is_some_and (is_deleted held named) z ≡ is_some_and (is_deleted_among (standing held) named) z
  item_alike x e None f = refl
  item_alike x e (Some y) f = deleted_standing y (standing_item held written x y e f)

  -- ---- lemmas for callers

  -- a held operation is deleted where it is lost, named, overwritten, or lies in a deleted item
  pub is_deleted-one : (x : Id) → has_operation held x ≡ true → is_deleted held named x
      ≡ (is_lost held x || (named x || (is_overwritten (standing held) (list_of (standing held) x) x || is_some_and (is_deleted held named) (item_of_list (list_of (standing held) x)))))
  is_deleted-one x there = elim (cases_Bool (has_operation (standing held) x)) [
    | inr none ↦ rw (there, none) refl
    | inl e ↦ ap (λ t. is_lost held x || t) (deleted_among-one held written named x e
        ∙ ap (λ t. named x || (is_overwritten (standing held) (list_of (standing held) x) x || t)) (sym (item_alike x e (item_of_list (list_of (standing held) x)) refl)))
  ]

  pub deleted_is : (x : Id) → has_operation (standing held) x ≡ true → is_deleted held named x ≡ true → IsDeleted (operation_set (standing held)) named x
  deleted_is x there e = deleted_among_is held written named x (sym (deleted_standing x there) ∙ e)

  pub is_deleted-true : (x : Id) → has_operation (standing held) x ≡ true → IsDeleted (operation_set (standing held)) named x → is_deleted held named x ≡ true
  is_deleted-true x there deleted = deleted_standing x there ∙ deleted_among-true held written named there deleted
