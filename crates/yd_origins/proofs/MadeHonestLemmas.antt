-- A made operation meets the edit rules, and so do all others as before.
use Rattle.std.proofs.Common.{◌≡◌, ◌∷◌, inl, inr, Some, Option, refl, sym, ◌∙◌, subst}
use Rattle.std.specs.Prelude.{IfSome}
use Rattle.yd_words.specs.Member.{IsIn}
use Rattle.yd_words.proofs.OptionLemmas.{if_some_map}
use Rattle.yd_ids.specs.declared.id.Id.{Id}
use Rattle.yd_ids.proofs.IdLemmas.{same_itself}
use Rattle.yd_origins.specs.Table.{Row, OriginTable, ids_of, left_of, right_of, IsTable}
use Rattle.yd_origins.specs.Before.{is_before, IsLeftFirst, IsBetween}
use Rattle.yd_origins.specs.Sorted.{origin_order}
use Rattle.yd_origins.specs.Operations.{ListNames, OperationSet, list_of_operation, table_of_all, table_of_list, MeetsRules, IsHonest, with_operation, IsMade}
use Rattle.yd_origins.specs.Parts.{first_of, behind}
use Rattle.yd_origins.proofs.SharingLemmas.{between_alike, left_first_alike}
use Rattle.yd_origins.proofs.NextLemmas.{next_there, next_fits, none_between_new}
use Rattle.yd_origins.proofs.ListTableLemmas.{in_own, own_order}
use Rattle.yd_origins.proofs.SharedSetLemmas.{all_order}
use Rattle.yd_origins.proofs.MadeLemmas.{Making, own_t, own_f, next, right_of_list, larger_is_table, left_is, right_is, shares, list_stays, own_name, made_name, own_grows, past_is_old, past_stays}

module _ {Name : Type 0} {names : ListNames Name} (k : Making names) where
  abbrev set : OperationSet names
  set = k.set

  abbrev t : IsTable set.origins
  t = k.is_table

  abbrev made : Row
  made = k.made

  abbrev name : Name
  name = k.name

  abbrev m : IsMade set made name
  m = k.is_made

  abbrev old : Id → Type 0
  old x = IsIn x (ids_of set.origins)

  abbrev own : OriginTable
  own = table_of_list set name

  abbrev larger : OperationSet names
  larger = with_operation set made name

  abbrev all_table : OriginTable
  all_table = table_of_all larger

  larger_t : IsTable larger.origins
  larger_t = larger_is_table k

  -- the order of all is that of the list's table with the new row, and on old operations the old one
  next_order : (a b : Id) → IsIn a (ids_of (made ∷ own)) → IsIn b (ids_of (made ∷ own)) → is_before (made ∷ own) a b ≡ is_before all_table a b
  next_order = subst (λ table. (a b : Id) → IsIn a (ids_of table) → IsIn b (ids_of table) → is_before table a b ≡ is_before all_table a b) (own_grows k)
      (own_order larger larger_t name)

  old_order : (a b : Id) → old a → old b → is_before (table_of_all set) a b ≡ is_before all_table a b
  old_order = all_order set larger t larger_t old (shares k)

  -- ---- the new operation

  left_in_next : IfSome made.left (λ y. IsIn y (ids_of (made ∷ own)))
  left_in_next = if_some_map (λ y. IsIn y (ids_of own)) (λ y. IsIn y (ids_of (made ∷ own))) made.left (λ y i. inr i) m.left_of_list

  right_in_next : IfSome made.right (λ y. IsIn y (ids_of (made ∷ own)))
  right_in_next = subst (λ z. IfSome z (λ y. IsIn y (ids_of (made ∷ own)))) (sym m.right_is_next)
      (if_some_map (λ y. IsIn y (ids_of own)) (λ y. IsIn y (ids_of (made ∷ own))) (first_of (behind made.left (origin_order own))) (λ y i. inr i)
      (next_there own (own_t k) (own_f k) made.left))

  -- its neighbours in the table of the list
  next_left_is : left_of (made ∷ own) made.id ≡ made.left
  next_left_is = rw (same_itself made.id) refl

  next_right_is : right_of (made ∷ own) made.id ≡ made.right
  next_right_is = rw (same_itself made.id) refl

  made_left_first : IsLeftFirst (is_before all_table) (left_of larger.origins made.id) (right_of larger.origins made.id)
  made_left_first = subst (λ z. IsLeftFirst (is_before all_table) z (right_of larger.origins made.id)) (sym (left_is k))
      (subst (λ w. IsLeftFirst (is_before all_table) made.left w) (sym (right_is k))
      (left_first_alike (is_before (made ∷ own)) (is_before all_table) (λ x. IsIn x (ids_of (made ∷ own))) next_order made.left made.right left_in_next right_in_next
      (subst (λ z. IsLeftFirst (is_before (made ∷ own)) z made.right) next_left_is
      (subst (λ w. IsLeftFirst (is_before (made ∷ own)) (left_of (made ∷ own) made.id) w) next_right_is
      ((next_fits own (own_t k) (own_f k) made (next k)).left_first made.id (inl refl))))))

  none_of_list_between : (y : Id) → IsIn y (ids_of own) → IsBetween (is_before all_table) made.left made.right y → ⊥
  none_of_list_between y i between = none_between_new own (own_t k) (own_f k) made (next k) y i
      (subst (λ z. IsBetween (is_before (made ∷ own)) z (right_of (made ∷ own) made.id) y) (sym next_left_is)
      (subst (λ w. IsBetween (is_before (made ∷ own)) made.left w y) (sym next_right_is)
      (between_alike (is_before all_table) (is_before (made ∷ own)) (λ x. IsIn x (ids_of (made ∷ own)))
      (λ a b i j. sym (next_order a b i j)) made.left made.right left_in_next right_in_next y (inr i) between)))

  made_one_list : (p r : Id) → left_of larger.origins made.id ≡ Some p → right_of larger.origins made.id ≡ Some r →
      list_of_operation larger p ≡ list_of_operation larger r
  made_one_list p r e g = own_name k p (there made.left p (sym (left_is k) ∙ e) m.left_of_list)
      ∙ sym (own_name k r (there made.right r (sym (right_is k) ∙ g) (right_of_list k)))
    where
      there : (z : Option Id) (q : Id) → z ≡ Some q → IfSome z (λ y. IsIn y (ids_of own)) → IsIn q (ids_of own)
      there z q e i = subst (λ v. IfSome v (λ y. IsIn y (ids_of own))) e i

  made_meets : MeetsRules larger made.id
  made_meets = record {
    one_list = made_one_list;
    left_first = made_left_first;
    past_outside = λ y j past e between. none_of_list_between y
        (in_own set t name y (past_is_old k past (inl refl)) (list_stays k y (past_is_old k past (inl refl)) ∙ e ∙ made_name k))
        (subst (λ z. IsBetween (is_before all_table) z made.right y) (left_is k)
        (subst (λ w. IsBetween (is_before all_table) (left_of larger.origins made.id) w y) (right_is k) between));
  }

  -- ---- the old operations

  left_same : (x : Id) → old x → left_of set.origins x ≡ left_of larger.origins x
  left_same = (shares k).origins.left_same

  right_same : (x : Id) → old x → right_of set.origins x ≡ right_of larger.origins x
  right_same = (shares k).origins.right_same

  between_before : (x y : Id) → old x → old y → IsBetween (is_before all_table) (left_of larger.origins x) (right_of larger.origins x) y →
      IsBetween (is_before (table_of_all set)) (left_of set.origins x) (right_of set.origins x) y
  between_before x y p q between = between_alike (is_before all_table) (is_before (table_of_all set)) old (λ a b i j. sym (old_order a b i j))
      (left_of set.origins x) (right_of set.origins x) (t.has_left x p) (t.has_right x p) y q
      (subst (λ z. IsBetween (is_before all_table) z (right_of set.origins x) y) (sym (left_same x p))
      (subst (λ w. IsBetween (is_before all_table) (left_of larger.origins x) w y) (sym (right_same x p)) between))

  old_meets : (x : Id) → old x → MeetsRules set x → MeetsRules larger x
  old_meets x p rules = record {
    one_list = λ q r e g. sym (list_stays k q (rw (left_same x p ∙ e) at (t.has_left x p)))
        ∙ rules.one_list q r (left_same x p ∙ e) (right_same x p ∙ g) ∙ list_stays k r (rw (right_same x p ∙ g) at (t.has_right x p));
    left_first = subst (λ z. IsLeftFirst (is_before all_table) z (right_of larger.origins x)) (left_same x p)
        (subst (λ w. IsLeftFirst (is_before all_table) (left_of set.origins x) w) (right_same x p)
        (left_first_alike (is_before (table_of_all set)) (is_before all_table) old old_order (left_of set.origins x) (right_of set.origins x) (t.has_left x p)
        (t.has_right x p) rules.left_first));
    past_outside = λ y j past e between. rules.past_outside y (past_is_old k past (inr p)) (past_stays k past p)
        (list_stays k y (past_is_old k past (inr p)) ∙ e ∙ sym (list_stays k x p)) (between_before x y p (past_is_old k past (inr p)) between);
  }

  -- with the new operation the set is honest
  pub made_honest : IsHonest larger
  made_honest x i = elim i [
    | inl e ↦ subst (λ v. MeetsRules larger v) (sym e) made_meets
    | inr p ↦ old_meets x p (k.honest x p)
  ]
