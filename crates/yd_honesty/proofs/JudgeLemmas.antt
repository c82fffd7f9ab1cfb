-- One unit of a list, judged by the origins that are told and their places.
use Rattle.std.proofs.Common.{◌≡◌, ◌<◌, ℕ, Bool, true, false, not, List, Option, Some, length, refl, sym, ◌∙◌, subst, true≢false}
use Rattle.std.specs.Prelude.{Decides, IfSome, slice_get}
use Rattle.yd_words.specs.Member.{IsIn}
use Rattle.yd_words.proofs.OptionLemmas.{some_is}
use Rattle.yd_ids.specs.declared.id.Id.{Id}
use Rattle.yd_ops.specs.Operation.{Operation}
use Rattle.yd_origins.specs.Table.{IsTable}
use Rattle.yd_origins.proofs.ListTableLemmas.{own_member}
use Rattle.yd_ops.specs.Received.{has_operation}
use Rattle.yd_meaning.specs.Order.{rows_of, operation_set, MeetsRules}
use Rattle.yd_meaning.proofs.RowLemmas.{row_has}
use Rattle.yd_meaning.proofs.StandingTableLemmas.{standing_table}
use Rattle.yd_entries.specs.Entries.{is_held}
use Rattle.yd_received.specs.Received.{ReceivedValue, held_of, listed_of}
use Rattle.yd_held.proofs.HeldEntryLemmas.{chosen_written}
use Rattle.yd_honesty.specs.Judging.{IsKept, IsList, IsPlaceOf, IsPlaced, IsApart, AreOrigins, are_in_order, IsParted}
use Rattle.yd_honesty.proofs.JudgingLemmas.{judged_apart, judged_order, judged_last}
use Rattle.yd_honesty.proofs.NotingLemmas.{there_is_in}
use Rattle.yd_honesty.proofs.PartedLemmas.{places_in}

module _ (r : ReceivedValue) (kept : IsKept r) (ids lasts : List Id) (is_strict : Bool) (cells : List Bool) (is : IsList r ids lasts is_strict cells) where
  pub listed_table : IsTable (rows_of (listed_of r))
  listed_table = subst (λ os. IsTable (rows_of os)) (sym kept.stands) (standing_table (held_of r) (chosen_written is_held r kept.whole.in_order))

  -- the ids of a list are listed
  pub id_is_listed : (n : ℕ) (x : Id) → slice_get ids n ≡ Some x → has_operation (listed_of r) x ≡ true
  id_is_listed n x e = row_has (listed_of r) x (own_member (operation_set (listed_of r)) listed_table is.name x (is.compares.member x (there_is_in ids n x e).0))

  module _ (at : ℕ) (x : Id) (there : slice_get ids at ≡ Some x) (left right : Option Id) (are : AreOrigins r x left right) (lp rp : Option ℕ)
      (left_is : IsPlaceOf lasts left lp) (right_is : IsPlaceOf ids right rp) where
    pub is_placed : IsPlaced ids is_strict cells lp rp
    is_placed = record { size = is.compares.size; left_inside = subst (λ n. IfSome lp (λ p. p < n)) is.compares.as_many (places_in lasts left lp left_is); right_inside = places_in ids right rp right_is }

    module _ (o : Operation) (i : IsIn o (listed_of r)) (own : slice_get ids at ≡ Some o.id) where
      origins : (left ≡ o.left_origin) × (right ≡ o.right_origin)
      origins = are o i (some_is o.id x (sym own ∙ there))

      own_left : IsPlaceOf lasts o.left_origin lp
      own_left = subst (λ z. IsPlaceOf lasts z lp) origins.0 left_is

      own_right : IsPlaceOf ids o.right_origin rp
      own_right = subst (λ z. IsPlaceOf ids z rp) origins.1 right_is

      pub unit_apart : (told : Bool) → Decides told (IsApart left right rp) → told ≡ true → Decides false (MeetsRules (held_of r) o)
      unit_apart told decides e = judged_apart r kept ids lasts is_strict cells is.name is.compares o i at own lp rp own_left own_right
          (subst (λ z. IsApart z o.right_origin rp) origins.0 (subst (λ z. IsApart left z rp) origins.1 (decides.0 e)))

      pub unit_order : are_in_order is_strict cells (length ids) lp rp ≡ false → Decides false (MeetsRules (held_of r) o)
      unit_order off = judged_order r kept ids lasts is_strict cells is.name is.compares o i at own lp rp own_left own_right off

      pub unit_last : (told : Bool) → Decides told (IsApart left right rp) → told ≡ false → are_in_order is_strict cells (length ids) lp rp ≡ true → (parted : Bool) →
          Decides parted (IsParted r ids is_strict cells x lp rp) → Decides (not parted) (MeetsRules (held_of r) o)
      unit_last told decides e order parted is_parted = judged_last r kept ids lasts is_strict cells is.name is.compares o i at own lp rp own_left own_right
          (λ apart. true≢false (sym (decides.1 (subst (λ z. IsApart z right rp) (sym origins.0) (subst (λ z. IsApart o.left_origin z rp) (sym origins.1) apart))) ∙ e))
          order parted (not parted) (subst (λ y. Decides parted (IsParted r ids is_strict cells y lp rp)) (some_is x o.id (sym there ∙ own)) is_parted) refl
