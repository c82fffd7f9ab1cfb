-- What stands last in a list of an honest set stands last in each closed part that has it, so a closed part deletes no more.
use Rattle.std.proofs.Common.{◌≡◌, ◌≢◌, Bool, true, List, [], ◌∷◌, ◌⊎◌, inl, inr, Some, None, Option, refl, sym, ap, ◌∙◌, subst, true≢false}
use Rattle.yd_words.specs.Member.{IsIn}
use Rattle.yd_words.proofs.OptionLemmas.{some_is}
use Rattle.yd_ids.specs.declared.id.Id.{Id}
use Rattle.yd_ids.proofs.IdLemmas.{same_says}
use Rattle.yd_origins.specs.Table.{OriginTable, ids_of, IsTable}
use Rattle.yd_origins.specs.Before.{is_before, IsInOrder, Fits}
use Rattle.yd_origins.specs.Sorted.{origin_order}
use Rattle.yd_origins.specs.Operations.{ListNames, OperationSet, list_of_operation, table_of_list, IsHonest, IsClosedPart}
use Rattle.yd_origins.specs.Deleted.{last_of, IsOverwritten, IsDeleted, by_name, by_key, by_item}
use Rattle.yd_origins.proofs.TableLemmas.{not_itself}
use Rattle.yd_origins.proofs.FittingLemmas.{one_way}
use Rattle.yd_origins.proofs.PartLemmas.{part_member}
use Rattle.yd_origins.proofs.SortedLemmas.{in_origin_order, origin_order_in, order_in_order}
use Rattle.yd_origins.proofs.ListTableLemmas.{own_member, own_list, in_own, own_is_table, own_order}
use Rattle.yd_origins.proofs.HonestLemmas.{own_fits}
use Rattle.yd_origins.proofs.PastLemmas.{closed_is_table, closed_list, closed_order, closed_honest}

-- ---- the last of a list in order

last_in : (list : List Id) (x : Id) → last_of list ≡ Some x → IsIn x list
last_in [] x e = absurd (none_some e)
  where
    none_some : ◌≡◌ {A = Option Id} None (Some x) → ⊥
    none_some f = cc
last_in (y ∷ []) x e = inl (some_is x y (sym e))
last_in (y ∷ z ∷ rest) x e = inr (last_in (z ∷ rest) x e)

-- each other member is before the last
before_last : (before : Id → Id → Bool) (list : List Id) (x y : Id) → IsInOrder before list → last_of list ≡ Some x → IsIn y list → y ≢ x → before y x ≡ true
before_last before [] x y sorted e i ne = absurd i
before_last before (z ∷ []) x y sorted e (inl g) ne = absurd (elim (last_in (z ∷ []) x e) [ inl f ↦ ne (g ∙ sym f) | inr j ↦ j ])
before_last before (z ∷ []) x y sorted e (inr i) ne = absurd i
before_last before (z ∷ w ∷ rest) x y sorted e (inl g) ne = subst (λ v. before v x ≡ true) (sym g) (sorted.0 x (last_in (w ∷ rest) x e)).1
before_last before (z ∷ w ∷ rest) x y sorted e (inr i) ne = before_last before (w ∷ rest) x y sorted.1 e i ne

-- and a member that is before none is the last
last_is : (before : Id → Id → Bool) (list : List Id) (x : Id) → IsInOrder before list → IsIn x list → ((y : Id) → IsIn y list → before x y ≡ true → ⊥) →
    last_of list ≡ Some x
last_is before [] x sorted i none = absurd i
last_is before (z ∷ []) x sorted (inl e) none = ap (λ (v : Id). Some v) (sym e)
last_is before (z ∷ []) x sorted (inr i) none = absurd i
last_is before (z ∷ w ∷ rest) x sorted (inl e) none = absurd (none w (inr (inl refl)) (subst (λ v. before v w ≡ true) (sym e) (sorted.0 w (inl refl)).1))
last_is before (z ∷ w ∷ rest) x sorted (inr i) none = last_is before (w ∷ rest) x sorted.1 i (λ y j less. none y (inr j) less)

-- ---- a closed part

module _ {Name : Type 0} {names : ListNames Name} (part set : OperationSet names) (t : IsTable set.origins) (honest : IsHonest set) (closed : IsClosedPart part set) where
  abbrev P : Id → Type 0
  P x = IsIn x (ids_of part.origins)

  abbrev part_t : IsTable part.origins
  part_t = closed_is_table part set t closed

  module _ (name : Name) where
    abbrev small : OriginTable
    small = table_of_list part name

    abbrev large : OriginTable
    large = table_of_list set name

    into_large : (x : Id) → IsIn x (ids_of small) → IsIn x (ids_of large)
    into_large x i = in_own set t name x (part_member part.origins set.origins t closed.rows x (own_member part part_t name x i))
        (sym (closed_list part set t closed x (own_member part part_t name x i)) ∙ own_list part part_t name x i)

    -- two operations of the part stand in one order
    small_order : (a b : Id) → IsIn a (ids_of small) → IsIn b (ids_of small) → is_before small a b ≡ is_before large a b
    small_order a b i j = own_order part part_t name a b i j
        ∙ closed_order part set t closed a b (own_member part part_t name a i) (own_member part part_t name b j)
        ∙ sym (own_order set t name a b (into_large a i) (into_large b j))

    -- so what stands last in the set stands last in the part
    last_stays : (x : Id) → IsIn x (ids_of small) → last_of (origin_order large) ≡ Some x → last_of (origin_order small) ≡ Some x
    last_stays x i last = last_is (is_before small) (origin_order small) x
        (order_in_order small (own_is_table part part_t name) (own_fits part part_t (closed_honest part set t closed honest) name)) (in_origin_order small x i)
        (λ y j less. not_before y (origin_order_in small y j) (sym (small_order x y i (origin_order_in small y j)) ∙ less))
      where
        large_t : IsTable large
        large_t = own_is_table set t name

        large_f : Fits large
        large_f = own_fits set t honest name

        not_before : (y : Id) → IsIn y (ids_of small) → is_before large x y ≡ true → ⊥
        not_before y j less = elim (same_says y x) [
          | inl e ↦ true≢false (sym less ∙ ap (λ v. is_before large x v) e.1 ∙ not_itself large x)
          | inr e ↦ true≢false (sym (before_last (is_before large) (origin_order large) x y (order_in_order large large_t large_f) last
              (in_origin_order large y (into_large y j)) e.1)
              ∙ one_way large large_t large_f x y (into_large x i) (into_large y j) less)
        ]

  overwritten_stays : (x : Id) → P x → IsOverwritten part x → IsOverwritten set x
  overwritten_stays x i over = record {
    keyed = subst (λ l. names.has_key l ≡ true) (closed_list part set t closed x i) over.keyed;
    not_last = λ last. over.not_last (last_stays (list_of_operation part x) x (in_own part part_t (list_of_operation part x) x i refl)
        (subst (λ l. last_of (origin_order (table_of_list set l)) ≡ Some x) (sym (closed_list part set t closed x i)) last));
  }

  -- what the part deletes the set deletes, where the part's deletions are among the set's
  pub deletes_no_more : (named all : Id → Bool) → ((x : Id) → named x ≡ true → all x ≡ true) → {x : Id} → P x → IsDeleted part named x → IsDeleted set all x
  deletes_no_more named all among i (by_name {x = x} e) = by_name (among x e)
  deletes_no_more named all among i (by_key {x = x} over) = by_key (overwritten_stays x i over)
  deletes_no_more named all among i (by_item {x = x} e deleted) = by_item (sym (ap names.item_of (closed_list part set t closed x i)) ∙ e)
      (deletes_no_more named all among (rw e at (closed.has_parent x i)) deleted)

  -- and to name what the part deletes changes nothing in the set
  pub naming_adds_none : (named all more : Id → Bool) → ((x : Id) → named x ≡ true → all x ≡ true) →
      ((x : Id) → more x ≡ true → (all x ≡ true) ⊎ (P x × IsDeleted part named x)) → {x : Id} → IsDeleted set more x → IsDeleted set all x
  naming_adds_none named all more among why (by_name {x = x} e) = elim (why x e) [ inl f ↦ by_name f | inr f ↦ deletes_no_more named all among f.0 f.1 ]
  naming_adds_none named all more among why (by_key over) = by_key over
  naming_adds_none named all more among why (by_item e deleted) = by_item e (naming_adds_none named all more among why deleted)

-- more names delete no less
pub deleted_still : {Name : Type 0} {names : ListNames Name} (set : OperationSet names) (all more : Id → Bool) → ((x : Id) → all x ≡ true → more x ≡ true) →
    {x : Id} → IsDeleted set all x → IsDeleted set more x
deleted_still set all more among (by_name {x = x} e) = by_name (among x e)
deleted_still set all more among (by_key over) = by_key over
deleted_still set all more among (by_item e deleted) = by_item e (deleted_still set all more among deleted)
