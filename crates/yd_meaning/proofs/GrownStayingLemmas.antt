-- What stays held is a closed part of what stands, so its lists grew as before.
use Rattle.std.proofs.Common.{◌≡◌, Bool, true, false, ◌&&◌, not, List, [], ◌∷◌, inl, inr, refl, sym, ap, ◌∙◌, subst, true≢false}
use Rattle.std.proofs.lemmas.Bool.{cases_Bool}
use Rattle.yd_words.specs.Member.{IsIn}
use Rattle.yd_words.proofs.OptionLemmas.{if_some_map}
use Rattle.yd_ids.specs.declared.id.Id.{Id}
use Rattle.yd_ids.specs.Ids.{HasSmallerClock}
use Rattle.yd_ops.specs.declared.lists.List.{List as DocList}
use Rattle.yd_ops.specs.Operation.{Operation}
use Rattle.yd_origins.specs.Table.{Row, ids_of, IsTable}
use Rattle.yd_origins.specs.Growing.{GrowsByScan}
use Rattle.yd_origins.specs.Operations.{IsClosedPart}
use Rattle.yd_origins.proofs.PastLemmas.{closed_list}
use Rattle.yd_ops.specs.Received.{has_operation, IsWritten}
use Rattle.yd_ops.proofs.OneOfLemmas.{ids_stay}
use Rattle.yd_meaning.specs.Names.{item_of_list}
use Rattle.yd_meaning.specs.Held.{standing, is_lost}
use Rattle.yd_meaning.specs.Order.{row_of, rows_of, list_or_root, list_carried, operation_set, list_of}
use Rattle.yd_meaning.proofs.NestingLemmas.{item_earlier}
use Rattle.yd_meaning.proofs.RowLemmas.{row_one, has_row, row_has, list_carried-one}
use Rattle.yd_meaning.proofs.StandingLemmas.{standing_in}
use Rattle.yd_meaning.proofs.StandingTableLemmas.{IsEarlier, standing_table}
use Rattle.yd_meaning.specs.Grown.{table_in, IsGrown}
use Rattle.yd_meaning.specs.Staying.{AreSeenAlike, StaysHeld}
use Rattle.yd_meaning.specs.GrowingLaw.{StaysGrown}
use Rattle.yd_meaning.proofs.GrowthLemmas.{grows_on, grown_within, IsFrontOf}
use Rattle.yd_meaning.proofs.GrownPartLemmas.{list_front}

-- ---- what stands and what is lost

-- what stands is held
pub stands_held : (held : List Operation) → IsWritten held → (x : Id) → has_operation (standing held) x ≡ true → has_operation held x ≡ true
stands_held held w x e = ids_stay (standing held) held x (λ o i. (standing_in held w o i).0) e

-- what is held and does not stand is lost
pub lost_is : (held : List Operation) (x : Id) → has_operation held x ≡ true → has_operation (standing held) x ≡ false → is_lost held x ≡ true
lost_is held x e none = rw (e, none) refl

-- what stands is not lost
pub stands_not_lost : (held : List Operation) (x : Id) → has_operation (standing held) x ≡ true → is_lost held x ≡ false
stands_not_lost held x e = go (has_operation held x) (has_operation (standing held) x) e
  where
    go : (s t : Bool) → t ≡ true → s && not t ≡ false
    go true t f = ap not f
    go false t f = refl

-- a row of operations is that of one
row_is : (os : List Operation) (row : Row) → IsIn row (rows_of os) → (o : Operation) × IsIn o os × (row ≡ row_of o)
row_is [] row i = absurd i
row_is (o ∷ os) row (inl e) = (o, inl refl, e)
row_is (o ∷ os) row (inr i) = let (p, j, e) = row_is os row i in (p, inr j, e)

is_row : (os : List Operation) (o : Operation) → IsIn o os → IsIn (row_of o) (rows_of os)
is_row [] o i = absurd i
is_row (p ∷ ps) o (inl e) = inl (ap row_of e)
is_row (p ∷ ps) o (inr i) = inr (is_row ps o i)

same_row : (o q : Operation) → AreSeenAlike o q → row_of q ≡ row_of o
same_row o q a = λ i. record { id = a.id i; left = a.left i; right = a.right i }

module _ (part held : List Operation) (w : IsWritten held) (stays : StaysHeld part held) where
  table : IsTable (rows_of (standing held))
  table = standing_table held w

  part_table : IsTable (rows_of (standing part))
  part_table = standing_table part stays.written

  -- what is in the part and stands in the whole stands in the part
  pub back : (x : Id) → has_operation part x ≡ true → has_operation (standing held) x ≡ true → has_operation (standing part) x ≡ true
  back x there up = elim (cases_Bool (has_operation (standing part) x)) [
    | inl e ↦ e
    | inr none ↦ absurd (true≢false (sym (stays.lost x (lost_is part x there none)) ∙ stands_not_lost held x up))
  ]

  clocks : (x y : Id) → IsIn x (ids_of (rows_of (standing part))) → IsIn y (ids_of (rows_of (standing held))) → HasSmallerClock y x →
      IsIn y (ids_of (rows_of (standing part)))
  clocks x y i j c =
      let there : has_operation part x ≡ true = stands_held part stays.written x (row_has (standing part) x i) in
      has_row (standing part) y (back y (stays.clocks x y there c) (row_has (standing held) y j))

  carried : (o : Operation) → IsIn o (standing part) → list_carried (standing part) o.id ≡ list_carried (standing held) o.id
  carried o i = let (q, j, a) = stays.stands o i in
      list_carried-one (standing part) part_table.distinct o i ∙ ap list_or_root (sym a.list)
      ∙ sym (subst (λ y. list_carried (standing held) y ≡ list_or_root q.list) a.id (list_carried-one (standing held) table.distinct q j))

  closed_part : IsClosedPart (operation_set (standing part)) (operation_set (standing held))
  closed_part = record {
    rows = record {
      within = λ row i.
          let (o, j, e) = row_is (standing part) row i in
          let (q, k, a) = stays.stands o j in subst (λ r. IsIn r (rows_of (standing held))) (same_row o q a ∙ sym e) (is_row (standing held) q k);
      distinct = part_table.distinct;
      has_left = part_table.has_left;
      has_right = part_table.has_right;
    };
    has_parent = λ x i. if_some_map (IsEarlier part stays.written x) (λ y. IsIn y (ids_of (rows_of (standing part))))
        (item_of_list (list_of (standing part) x)) (λ y c. c.0) (item_earlier part stays.written x i);
    has_clocks = clocks;
    same_carried = λ x i. let (o, j, e) = row_one (standing part) x i in subst (λ y. list_carried (standing part) y ≡ list_carried (standing held) y) e (carried o j);
  }

  -- ---- lemmas for callers

  pub same_list : (x : Id) → has_operation (standing part) x ≡ true → list_of (standing part) x ≡ list_of (standing held) x
  same_list x e = closed_list (operation_set (standing part)) (operation_set (standing held)) table closed_part x (has_row (standing part) x e)

  pub is_front : (list : DocList) → IsFrontOf (table_in (standing part) list) (table_in (standing held) list)
  is_front list = list_front (operation_set (standing part)) (operation_set (standing held)) table closed_part list

  pub lists_grown : (list : DocList) (old new : List Id) → IsGrown (standing part) list old → GrowsByScan (table_in (standing held) list) old new →
      IsGrown (standing held) list new
  lists_grown list old new grown more = grows_on (table_in (standing held) list) [] old new
      (grown_within (table_in (standing part) list) (table_in (standing held) list) (is_front list) old grown) more

  pub stays_grown : StaysGrown part held
  stays_grown = record {
    same = λ list ids grown. grown_within (table_in (standing part) list) (table_in (standing held) list) (is_front list) ids grown;
    further = lists_grown;
  }
