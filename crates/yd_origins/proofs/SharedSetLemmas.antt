-- Two sets that share some operations, with all that their origins reach, have the same lists and one order of these.
use Rattle.std.proofs.Common.{◌≡◌, ℕ, zero, suc, ◌<◌, Bool, true, false, Some, None, Option, refl, sym, ap, ◌∙◌, subst, arith}
use Rattle.std.specs.Prelude.{IfSome, if◌then◌else◌}
use Rattle.yd_words.proofs.OptionLemmas.{if_some_both}
use Rattle.yd_ids.specs.declared.id.Id.{Id}
use Rattle.yd_origins.specs.Table.{left_of, right_of, IsTable}
use Rattle.yd_origins.specs.Before.{is_before}
use Rattle.yd_origins.specs.Operations.{ListNames, OperationSet, list_by_origins, list_of_operation, kept_right, table_of_all}
use Rattle.yd_origins.proofs.TableLemmas.{height, low_left, low_right}
use Rattle.yd_origins.proofs.SharingLemmas.{Share, share_order}
use Rattle.yd_origins.proofs.ListLemmas.{list_follows, in_all, all_left, all_right, all_is_table}

-- operations of two sets, with all that their origins reach, which both sets have alike
pub record ShareOperations {Name : Type 0} {names : ListNames Name} (one other : OperationSet names) (P : Id → Type 0) : Type 0 where
  pub origins : Share one.origins other.origins P
  pub carried_same : (x : Id) → P x → one.carried x ≡ other.carried x

module _ {Name : Type 0} {names : ListNames Name} (one other : OperationSet names) (t : IsTable one.origins) (u : IsTable other.origins) (P : Id → Type 0) (s : ShareOperations one other P) where
  list_same_within : (n : ℕ) (x : Id) → P x → height one.origins t x < n → list_of_operation one x ≡ list_of_operation other x
  list_same_within zero x p small = absurd (omega arith)
  list_same_within (suc n) x p small = list_follows one t x (s.origins.in_one x p)
      ∙ go (left_of one.origins x) (right_of one.origins x)
      (if_some_both P (λ y. height one.origins t y < height one.origins t x) (λ y. list_of_operation one y ≡ list_of_operation other y) (left_of one.origins x)
      (λ y q lt. list_same_within n y q (omega arith)) (s.origins.has_left x p) (low_left one.origins t x (s.origins.in_one x p)))
      (if_some_both P (λ y. height one.origins t y < height one.origins t x) (λ y. list_of_operation one y ≡ list_of_operation other y) (right_of one.origins x)
      (λ y q lt. list_same_within n y q (omega arith)) (s.origins.has_right x p) (low_right one.origins t x (s.origins.in_one x p)))
      ∙ (λ i. list_by_origins (s.origins.left_same x p i) (s.origins.right_same x p i) (s.carried_same x p i) (list_of_operation other))
      ∙ sym (list_follows other u x (s.origins.in_other x p))
    where
      go : (z w : Option Id) → IfSome z (λ y. list_of_operation one y ≡ list_of_operation other y) →
          IfSome w (λ y. list_of_operation one y ≡ list_of_operation other y) →
          list_by_origins z w (one.carried x) (list_of_operation one) ≡ list_by_origins z w (one.carried x) (list_of_operation other)
      go (Some a) w e f = e
      go None (Some b) e f = f
      go None None e f = refl

  -- their lists are the same
  pub list_same : (x : Id) → P x → list_of_operation one x ≡ list_of_operation other x
  list_same x p = list_same_within (suc (height one.origins t x)) x p (omega arith)

  kept_alike : (x : Id) (z : Option Id) → P x → IfSome z P → kept_right one x z ≡ kept_right other x z
  kept_alike x None p q = refl
  kept_alike x (Some r) p q = rw (list_same r q, list_same x p) refl

  pub rights_same : (x : Id) → P x → kept_right one x (right_of one.origins x) ≡ kept_right other x (right_of other.origins x)
  rights_same x p = kept_alike x (right_of one.origins x) p (s.origins.has_right x p) ∙ ap (λ z. kept_right other x z) (s.origins.right_same x p)

  kept_shared : (x : Id) (z : Option Id) → IfSome z P → IfSome (kept_right one x z) P
  kept_shared x None w = tt
  kept_shared x (Some r) w = go (names.is_same (list_of_operation one r) (list_of_operation one x))
    where
      go : (v : Bool) → IfSome (if v then Some r else None) P
      go true = w
      go false = tt

  pub all_share : Share (table_of_all one) (table_of_all other) P
  all_share = record {
    in_one = λ x p. in_all one t x (s.origins.in_one x p);
    in_other = λ x p. in_all other u x (s.origins.in_other x p);
    has_left = λ x p. subst (λ z. IfSome z P) (sym (all_left one t x)) (s.origins.has_left x p);
    has_right = λ x p. subst (λ z. IfSome z P) (sym (all_right one t x (s.origins.in_one x p))) (kept_shared x (right_of one.origins x) (s.origins.has_right x p));
    left_same = λ x p. all_left one t x ∙ s.origins.left_same x p ∙ sym (all_left other u x);
    right_same = λ x p. all_right one t x (s.origins.in_one x p) ∙ rights_same x p ∙ sym (all_right other u x (s.origins.in_other x p));
  }

  -- and so is their order
  pub all_order : (a b : Id) → P a → P b → is_before (table_of_all one) a b ≡ is_before (table_of_all other) a b
  all_order = share_order (table_of_all one) (table_of_all other) (all_is_table one t) (all_is_table other u) P all_share
