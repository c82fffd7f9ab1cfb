-- The operations of one list of an honest set are a table that fits.
use Rattle.std.proofs.Common.{◌≡◌, Some, None, Option, refl, sym, ◌∙◌, subst}
use Rattle.yd_words.specs.Member.{IsIn}
use Rattle.yd_ids.specs.declared.id.Id.{Id}
use Rattle.yd_origins.specs.Table.{OriginTable, ids_of, left_of, right_of, IsTable}
use Rattle.yd_origins.specs.Before.{is_before, IsLeftFirst, IsBetween, Reaches, by_left, by_right, onward, Fits}
use Rattle.yd_origins.specs.Operations.{ListNames, OperationSet, list_of_operation, kept_right, table_of_all, table_of_list, past_of, of_left, of_right, of_clock, of_past, IsHonest}
use Rattle.yd_origins.proofs.SharingLemmas.{between_alike, left_first_alike}
use Rattle.yd_origins.proofs.ListLemmas.{list_of_left, list_of_right, kept_same}
use Rattle.yd_origins.proofs.ListTableLemmas.{own_member, own_list, own_left, own_right, own_is_table, own_order}

module _ {Name : Type 0} {names : ListNames Name} (set : OperationSet names) (t : IsTable set.origins) (honest : IsHonest set) where
  abbrev P : Id → Type 0
  P x = IsIn x (ids_of set.origins)

  abbrev left : Id → Option Id
  left = left_of set.origins

  abbrev right : Id → Option Id
  right = right_of set.origins

  abbrev list : Id → Name
  list = list_of_operation set

  -- each right origin is in the operation's list
  pub right_list : (x r : Id) → P x → right x ≡ Some r → list r ≡ list x
  right_list x r p e = go (left x) refl
    where
      go : (z : Option Id) → left x ≡ z → list r ≡ list x
      go None none = list_of_right set t x r p none e
      go (Some q) some = sym ((honest x p).one_list q r some e) ∙ list_of_left set t x q p some

  pub all_kept : (x : Id) → P x → kept_right set x (right x) ≡ right x
  all_kept x p = go (right x) refl
    where
      go : (z : Option Id) → right x ≡ z → kept_right set x z ≡ z
      go None e = refl
      go (Some r) e = kept_same set t x r (right_list x r p e)

  module _ (name : Name) where
    abbrev own : OriginTable
    own = table_of_list set name

    abbrev Q : Id → Type 0
    Q x = IsIn x (ids_of own)

    abbrev own_t : IsTable own
    own_t = own_is_table set t name

    pub right_is : (x : Id) → Q x → right_of own x ≡ right x
    right_is x i = own_right set t name x i ∙ all_kept x (own_member set t name x i)

    -- what is reached in the table is of the past
    own_reaches : {x y : Id} → Reaches (left_of own) (right_of own) x y → Q x → past_of set x y × Q y
    own_reaches (by_left {x = x} e) i = (of_left (sym (own_left set t name x i) ∙ e), rw e at (own_t.has_left x i))
    own_reaches (by_right {x = x} e) i = (of_right (sym (right_is x i) ∙ e), rw e at (own_t.has_right x i))
    own_reaches (onward r s) i = let (u, j) = own_reaches r i in let (v, k) = own_reaches s j in (of_past u v, k)

    own_between : (x y : Id) → Q x → Q y → IsBetween (is_before own) (left_of own x) (right_of own x) y →
        IsBetween (is_before (table_of_all set)) (left x) (right x) y
    own_between x y i j between = subst (λ z. IsBetween (is_before (table_of_all set)) z (right x) y) (own_left set t name x i)
        (subst (λ w. IsBetween (is_before (table_of_all set)) (left_of own x) w y) (right_is x i)
        (between_alike (is_before own) (is_before (table_of_all set)) Q (own_order set t name) (left_of own x) (right_of own x) (own_t.has_left x i)
        (own_t.has_right x i) y j between))

    own_left_first : (x : Id) → Q x → IsLeftFirst (is_before own) (left_of own x) (right_of own x)
    own_left_first x i = left_first_alike (is_before (table_of_all set)) (is_before own) Q (λ a b j k. sym (own_order set t name a b j k)) (left_of own x)
        (right_of own x) (own_t.has_left x i) (own_t.has_right x i)
        (subst (λ z. IsLeftFirst (is_before (table_of_all set)) z (right_of own x)) (sym (own_left set t name x i))
        (subst (λ w. IsLeftFirst (is_before (table_of_all set)) (left x) w) (sym (right_is x i)) (honest x (own_member set t name x i)).left_first))

    outside : (x y : Id) → Q x → Q y → past_of set x y → IsBetween (is_before own) (left_of own x) (right_of own x) y → ⊥
    outside x y i j past between = (honest x (own_member set t name x i)).past_outside y (own_member set t name y j) past
        (own_list set t name y j ∙ sym (own_list set t name x i)) (own_between x y i j between)

    -- the operations of one list are a table that fits
    pub own_fits : Fits own
    own_fits = record {
      left_first = own_left_first;
      reached_outside = λ x y i j r between. outside x y i j (own_reaches r i).0 between;
      own_outside = λ x y i j c between. outside x y i j (of_clock (own_member set t name y j) c) between;
    }
