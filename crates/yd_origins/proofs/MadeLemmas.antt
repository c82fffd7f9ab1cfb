-- A made operation: the larger set is a table, in the table of its list the operation stands directly behind its left
-- origin, and no past changes.
use Rattle.std.proofs.Common.{◌≡◌, ◌≢◌, false, ◌∷◌, ◌++◌, inl, inr, Some, None, Option, refl, sym, ap, ◌∙◌, subst, arith}
use Rattle.std.specs.Prelude.{IfSome, filter}
use Rattle.yd_words.specs.Member.{IsIn}
use Rattle.yd_words.proofs.TestLemmas.{test_fails}
use Rattle.yd_words.proofs.OptionLemmas.{if_some_map}
use Rattle.yd_ids.specs.declared.id.Id.{Id}
use Rattle.yd_ids.specs.Ids.{is_same, HasSmallerClock}
use Rattle.yd_ids.proofs.IdLemmas.{same_itself, other_id}
use Rattle.yd_origins.specs.Table.{Row, OriginTable, ids_of, left_of, right_of, IsTable}
use Rattle.yd_origins.specs.Before.{Fits}
use Rattle.yd_origins.specs.Sorted.{origin_order, IsNext}
use Rattle.yd_origins.specs.Operations.{ListNames, OperationSet, list_by_origins, list_of_operation, parent_item, kept_right, with_rights, table_of_all, table_of_list, past_of, of_left, of_right, of_parent, of_clock, of_past, IsHonest, with_operation, HasParents, IsMade}
use Rattle.yd_origins.specs.Parts.{up_to, behind}
use Rattle.yd_origins.proofs.AddingLemmas.{added_is_table, old_left, old_right, new_left, new_right, new_lefts, new_rights}
use Rattle.yd_origins.proofs.NextLemmas.{next_there, next_place}
use Rattle.yd_origins.proofs.ListLemmas.{list_follows, kept_same, rights_alike, all_in}
use Rattle.yd_origins.proofs.ListTableLemmas.{where_alike, own_member, own_list, own_is_table}
use Rattle.yd_origins.proofs.HonestLemmas.{own_fits}
use Rattle.yd_origins.proofs.SharedSetLemmas.{ShareOperations, list_same, rights_same}

-- what is known where an operation is made
pub record Making {Name : Type 0} (names : ListNames Name) : Type 0 where
  pub set : OperationSet names
  pub is_table : IsTable set.origins
  pub honest : IsHonest set
  pub has_parents : HasParents set
  pub made : Row
  pub name : Name
  pub is_made : IsMade set made name

module _ {Name : Type 0} {names : ListNames Name} (k : Making names) where
  abbrev set : OperationSet names
  set = k.set

  abbrev t : IsTable set.origins
  t = k.is_table

  abbrev made : Row
  made = k.made

  abbrev name : Name
  name = k.name

  abbrev m : IsMade set made name
  m = k.is_made

  abbrev pub old : Id → Type 0
  old x = IsIn x (ids_of set.origins)

  abbrev pub own : OriginTable
  own = table_of_list set name

  abbrev pub larger : OperationSet names
  larger = with_operation set made name

  -- ---- the larger set is a table

  pub own_t : IsTable own
  own_t = own_is_table set t name

  pub own_f : Fits own
  own_f = own_fits set t k.honest name

  -- the new operation is the next row of its list
  pub next : IsNext own made
  next = record {
    is_new = λ i. m.is_new (own_member set t name made.id i);
    clocks = λ x i e. m.clocks x (own_member set t name x i) e;
    left_there = m.left_of_list;
    right_is_next = m.right_is_next;
  }

  pub right_of_list : IfSome made.right (λ y. IsIn y (ids_of own))
  right_of_list = subst (λ z. IfSome z (λ y. IsIn y (ids_of own))) (sym m.right_is_next) (next_there own own_t own_f made.left)

  pub left_old : IfSome made.left old
  left_old = if_some_map (λ y. IsIn y (ids_of own)) old made.left (own_member set t name) m.left_of_list

  pub right_old : IfSome made.right old
  right_old = if_some_map (λ y. IsIn y (ids_of own)) old made.right (own_member set t name) right_of_list

  pub larger_is_table : IsTable larger.origins
  larger_is_table = added_is_table set.origins t made m.is_new left_old right_old

  pub left_is : left_of larger.origins made.id ≡ made.left
  left_is = new_left set.origins t made m.is_new left_old right_old

  pub right_is : right_of larger.origins made.id ≡ made.right
  right_is = new_right set.origins t made m.is_new left_old right_old

  not_made : (x : Id) → old x → is_same made.id x ≡ false
  not_made x p = other_id made.id x (λ e. m.is_new (subst old (sym e) p))

  pub shares : ShareOperations set larger old
  shares = record {
    origins = record {
      in_one = λ x p. p;
      in_other = λ x p. inr p;
      has_left = t.has_left;
      has_right = t.has_right;
      left_same = λ x p. sym (old_left set.origins t made m.is_new left_old right_old x p);
      right_same = λ x p. sym (old_right set.origins t made m.is_new left_old right_old x p);
    };
    carried_same = λ x p. rw (not_made x p) refl;
  }

  -- ---- lists

  pub list_stays : (x : Id) → old x → list_of_operation set x ≡ list_of_operation larger x
  list_stays = list_same set larger t larger_is_table old shares

  pub own_name : (x : Id) → IsIn x (ids_of own) → list_of_operation larger x ≡ name
  own_name x i = sym (list_stays x (own_member set t name x i)) ∙ own_list set t name x i

  -- the new operation is of the list
  pub made_name : list_of_operation larger made.id ≡ name
  made_name = list_follows larger larger_is_table made.id (inl refl)
      ∙ (λ i. list_by_origins (left_is i) (right_is i) (carried_is i) (list_of_operation larger))
      ∙ go made.left made.right m.left_of_list right_of_list
    where
      carried_is : larger.carried made.id ≡ name
      carried_is = rw (same_itself made.id) refl

      go : (z w : Option Id) → IfSome z (λ y. IsIn y (ids_of own)) → IfSome w (λ y. IsIn y (ids_of own)) →
          list_by_origins z w name (list_of_operation larger) ≡ name
      go (Some a) w i j = own_name a i
      go None (Some b) i j = own_name b j
      go None None i j = refl

  -- ---- the table of the list

  made_right_kept : kept_right larger made.id (right_of larger.origins made.id) ≡ made.right
  made_right_kept = ap (λ z. kept_right larger made.id z) right_is ∙ go made.right right_of_list
    where
      go : (z : Option Id) → IfSome z (λ y. IsIn y (ids_of own)) → kept_right larger made.id z ≡ z
      go None i = refl
      go (Some r) i = kept_same larger larger_is_table made.id r (own_name r i ∙ sym made_name)

  -- the old operations of a list are as they were
  old_of_list : (other : Name) →
      filter (λ (row : Row). names.is_same (list_of_operation larger row.id) other)
      (with_rights (λ x. kept_right larger x (right_of larger.origins x)) set.origins) ≡ table_of_list set other
  old_of_list other = ap (λ rows. filter (λ (row : Row). names.is_same (list_of_operation larger row.id) other) rows)
      (rights_alike (λ x. kept_right larger x (right_of larger.origins x)) (λ x. kept_right set x (right_of set.origins x)) set.origins
      (λ x p. sym (rights_same set larger t larger_is_table old shares x p)))
      ∙ where_alike (λ x. names.is_same (list_of_operation larger x) other) (λ x. names.is_same (list_of_operation set x) other) (table_of_all set)
      (λ x i. ap (λ l. names.is_same l other) (sym (list_stays x (all_in set t x i))))

  -- the table of its list is the old one with the new row in front, and no other table has changed
  pub own_grows : table_of_list larger name ≡ made ∷ own
  own_grows = rw ((names.decides (list_of_operation larger made.id) name).1 made_name)
      (λ i. record { id = made.id; left = made.left; right = made_right_kept i } ∷ old_of_list name i)

  pub other_lists : (other : Name) → other ≢ name → table_of_list larger other ≡ table_of_list set other
  other_lists other differs = rw not_of_other (old_of_list other)
    where
      not_of_other : names.is_same (list_of_operation larger made.id) other ≡ false
      not_of_other = test_fails (names.is_same (list_of_operation larger made.id) other)
          (λ e. differs (sym ((names.decides (list_of_operation larger made.id) other).0 e) ∙ made_name))

  -- the new operation stands directly behind its left origin
  pub made_place : origin_order (table_of_list larger name) ≡ up_to made.left (origin_order own) ++ made.id ∷ behind made.left (origin_order own)
  made_place = ap origin_order own_grows ∙ next_place own own_t own_f made next

  -- ---- pasts

  no_smaller_clock : (x y : Id) → old x → y ≡ made.id → HasSmallerClock y x → ⊥
  no_smaller_clock x y p e c = omega (arith, c.1, m.clocks x p (sym c.0 ∙ ap (λ v. v.client) e), ap (λ v. v.clock) e)

  parent_old : (x : Id) → IsIn x (ids_of larger.origins) → IfSome (parent_item larger x) old
  parent_old x (inl e) = subst (λ v. IfSome (parent_item larger v) old) (sym e) (subst (λ l. IfSome (names.item_of l) old) (sym made_name) m.parent_there)
  parent_old x (inr p) = subst (λ l. IfSome (names.item_of l) old) (list_stays x p) (k.has_parents x p)

  pub parents_stay : HasParents larger
  parents_stay x i = if_some_map old (λ y. IsIn y (ids_of larger.origins)) (parent_item larger x) (λ y p. inr p) (parent_old x i)

  -- the past of each operation is old
  pub past_is_old : {x y : Id} → past_of larger x y → IsIn x (ids_of larger.origins) → old y
  past_is_old (of_left {x = x} e) i = rw e at (new_lefts set.origins t made m.is_new left_old right_old x i)
  past_is_old (of_right {x = x} e) i = rw e at (new_rights set.origins t made m.is_new left_old right_old x i)
  past_is_old (of_parent {x = x} e) i = rw e at (parent_old x i)
  past_is_old (of_clock {x = x} {y = y} j c) i = elim j [
    | inl e ↦ absurd (elim i [ inl g ↦ omega (arith, c.1, ap (λ v. v.clock) e, ap (λ v. v.clock) g) | inr p ↦ no_smaller_clock x y p e c ])
    | inr q ↦ q
  ]
  past_is_old (of_past r s) i = past_is_old s (inr (past_is_old r i))

  -- and that of an old one is what it was
  pub past_stays : {x y : Id} → past_of larger x y → old x → past_of set x y
  past_stays (of_left {x = x} e) p = of_left (shares.origins.left_same x p ∙ e)
  past_stays (of_right {x = x} e) p = of_right (shares.origins.right_same x p ∙ e)
  past_stays (of_parent {x = x} e) p = of_parent (ap names.item_of (list_stays x p) ∙ e)
  past_stays (of_clock {x = x} {y = y} j c) p = of_clock {y = y} (elim j [ inl e ↦ absurd (no_smaller_clock x y p e c) | inr q ↦ q ]) c
  past_stays (of_past r s) p = of_past (past_stays r p) (past_stays s (past_is_old r (inr p)))
