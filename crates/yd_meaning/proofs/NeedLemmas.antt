-- What an operation stands on: its origins, and the item of the list that it carries; and what it needs: these, and its client's id before.
use Rattle.std.proofs.Common.{◌≡◌, ℕ, suc, List, ◌++◌, ◌⊎◌, Option, Some, None, inl, inr, refl, sym, ap, subst}
use Rattle.yd_words.specs.Member.{IsIn}
use Rattle.yd_words.proofs.MemberLemmas.{in_left_part, in_right_part, in_parts}
use Rattle.yd_ids.specs.declared.id.Id.{Id}
use Rattle.yd_ops.specs.Operation.{Operation}
use Rattle.yd_meaning.specs.Held.{id_before, given, item_carried, sources, needs}

-- what may be there is asked for where it is
in_given : (z : Option Id) (y : Id) → z ≡ Some y → IsIn y (given z)
in_given None y e = absurd cc
in_given (Some x) y e = inl cc

pub given_is : (z : Option Id) (y : Id) → IsIn y (given z) → z ≡ Some y
given_is None y i = absurd i
given_is (Some x) y (inl e) = ap (λ v. Some v) (sym e)
given_is (Some x) y (inr i) = absurd i

module _ (o : Operation) where
  abbrev list_item : List Id
  list_item = given (item_carried o.list)

  abbrev right_and_list : List Id
  right_and_list = given o.right_origin ++ list_item

  pub left_source : (y : Id) → o.left_origin ≡ Some y → IsIn y (sources o)
  left_source y e = in_left_part y (given o.left_origin) right_and_list (in_given o.left_origin y e)

  pub right_source : (y : Id) → o.right_origin ≡ Some y → IsIn y (sources o)
  right_source y e = in_right_part y (given o.left_origin) right_and_list (in_left_part y (given o.right_origin) list_item (in_given o.right_origin y e))

  pub item_source : (y : Id) → item_carried o.list ≡ Some y → IsIn y (sources o)
  item_source y e = in_right_part y (given o.left_origin) right_and_list (in_right_part y (given o.right_origin) list_item (in_given (item_carried o.list) y e))

  pub source_is : (y : Id) → IsIn y (sources o) → (o.left_origin ≡ Some y) ⊎ ((o.right_origin ≡ Some y) ⊎ (item_carried o.list ≡ Some y))
  source_is y i = elim (in_parts y (given o.left_origin) right_and_list i) [
    | inl j ↦ inl (given_is o.left_origin y j)
    | inr j ↦ elim (in_parts y (given o.right_origin) list_item j) [
      | inl k ↦ inr (inl (given_is o.right_origin y k))
      | inr k ↦ inr (inr (given_is (item_carried o.list) y k))
    ]
  ]

  pub before_needed : (k : ℕ) → o.id.clock ≡ suc k → IsIn (record { client = o.id.client; clock = k }) (needs o)
  before_needed k e = in_left_part (record { client = o.id.client; clock = k }) (id_before o.id.client o.id.clock) (sources o)
      (subst (λ n. IsIn (record { client = o.id.client; clock = k }) (id_before o.id.client n)) (sym e) (inl refl))

  pub source_needed : (y : Id) → IsIn y (sources o) → IsIn y (needs o)
  source_needed y i = in_right_part y (id_before o.id.client o.id.clock) (sources o) i

  pub left_needed : (y : Id) → o.left_origin ≡ Some y → IsIn y (needs o)
  left_needed y e = source_needed y (left_source y e)

  pub right_needed : (y : Id) → o.right_origin ≡ Some y → IsIn y (needs o)
  right_needed y e = source_needed y (right_source y e)

  pub item_needed : (y : Id) → item_carried o.list ≡ Some y → IsIn y (needs o)
  item_needed y e = source_needed y (item_source y e)
