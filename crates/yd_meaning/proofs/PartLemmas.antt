-- Closed parts of what is held: they lose the same, are honest where the whole is, have the same lists and order, and delete no more.
use Rattle.std.proofs.Common.{◌≡◌, ◌≢◌, Bool, true, false, not, List, [], ◌∷◌, Option, Some, None, inl, inr, refl, sym, ap, ◌∙◌, subst, true≢false}
use Rattle.std.proofs.lemmas.Bool.{cases_Bool, false_from_ne_true, or_left}
use Rattle.std.specs.Prelude.{IfSome}
use Rattle.yd_words.specs.Member.{IsIn}
use Rattle.yd_words.proofs.OptionLemmas.{if_some_map}
use Rattle.yd_words.proofs.FilterLemmas.{kept_one, one_kept}
use Rattle.yd_ids.specs.declared.id.Id.{Id}
use Rattle.yd_ids.specs.Ids.{HasSmallerClock}
use Rattle.yd_ops.specs.Operation.{Operation}
use Rattle.yd_origins.specs.Table.{Row, ids_of, IsTable}
use Rattle.yd_origins.specs.Before.{is_before, IsLeftFirst}
use Rattle.yd_origins.specs.Deleted.{IsDeleted}
use Rattle.yd_origins.specs.Operations.{table_of_all, IsClosedPart}
use Rattle.yd_origins.proofs.PastLemmas.{closed_list, closed_order}
use Rattle.yd_origins.proofs.DeletedLemmas.{deletes_no_more}
use Rattle.yd_ops.specs.Received.{has_operation, IsWritten}
use Rattle.yd_ops.proofs.OneOfLemmas.{operation_with, id_is_there, ids_stay}
use Rattle.yd_meaning.specs.Names.{item_of_list}
use Rattle.yd_meaning.specs.Held.{sources, held_set, is_gone, standing, is_lost}
use Rattle.yd_meaning.specs.Order.{row_of, rows_of, list_carried, operation_set, list_of, IsPast, of_need, of_past, AreHonest}
use Rattle.yd_meaning.specs.Deleted.{is_deleted_among, is_deleted}
use Rattle.yd_meaning.specs.Law.{IsPartOf, StaysAsItIs}
use Rattle.yd_meaning.proofs.RowLemmas.{row_one, one_row, has_row, written_distinct, one_operation, left_of-row, right_of-row, list_carried-one}
use Rattle.yd_meaning.proofs.NeedLemmas.{source_needed}
use Rattle.yd_meaning.proofs.RoundLemmas.{last_least, asks_last}
use Rattle.yd_meaning.proofs.StandingTableLemmas.{IsEarlier, standing_table}
use Rattle.yd_meaning.proofs.HeldLemmas.{held_set-part}
use Rattle.yd_meaning.proofs.NestingLemmas.{item_earlier}
use Rattle.yd_meaning.proofs.VectorLemmas.{held_written, held_smaller}
use Rattle.yd_meaning.proofs.StandingLemmas.{remaining, standing_in, standing_one}
use Rattle.yd_meaning.proofs.HonestLemmas.{some_of, honest_set}
use Rattle.yd_meaning.proofs.DeletedTestLemmas.{deleted_is, is_deleted-true}

-- a row of operations is that of one
row_is : (os : List Operation) (row : Row) → IsIn row (rows_of os) → (o : Operation) × IsIn o os × (row ≡ row_of o)
row_is [] row i = absurd i
row_is (o ∷ os) row (inl e) = (o, inl refl, e)
row_is (o ∷ os) row (inr i) = let (p, j, e) = row_is os row i in (p, inr j, e)

is_row : (os : List Operation) (o : Operation) → IsIn o os → IsIn (row_of o) (rows_of os)
is_row [] o i = absurd i
is_row (p ∷ ps) o (inl e) = inl (ap row_of e)
is_row (p ∷ ps) o (inr i) = inr (is_row ps o i)

past_within : (part held : List Operation) → ((o : Operation) → IsIn o part → IsIn o held) → {x y : Id} → IsPast part x y → IsPast held x y
past_within part held within (of_need o i e j) = of_need o (within o i) e j
past_within part held within (of_past p q) = of_past (past_within part held within p) (past_within part held within q)

module _ (os : List Operation) (w : IsWritten os) (part : List Operation) (is : IsPartOf part (held_set os)) where
  abbrev held : List Operation
  held = held_set os

  -- what is held of the part is the part
  all_held : held_set part ≡ part
  all_held = held_set-part os part w is.within is.closed

  one_in : (o : Operation) → IsIn o held → has_operation part o.id ≡ true → IsIn o part
  one_in o i e = let (p, j, f) = operation_with part o.id e in
      subst (λ q. IsIn q part) (one_operation held (written_distinct held (held_written os w)) p o (is.within p j) i f) j

  -- ---- what stands

  stands_up : (o : Operation) → IsIn o (standing part) → has_operation (standing held) o.id ≡ true
  stands_up = last_least sources (remaining part) (λ x. has_operation (standing held) x ≡ true) (λ o i f.
      let (there, j) = kept_one (λ p. not (is_gone p)) part o i in
      id_is_there (standing held) o (asks_last sources (remaining held) o (one_kept (λ p. not (is_gone p)) held o there (is.within o j)) f))

  stands_down : (o : Operation) → IsIn o (standing held) → has_operation part o.id ≡ true → has_operation (standing part) o.id ≡ true
  stands_down = last_least sources (remaining held) (λ x. has_operation part x ≡ true → has_operation (standing part) x ≡ true) (λ o i f e.
      let (there, j) = kept_one (λ p. not (is_gone p)) held o i in
      let k : IsIn o part = one_in o j e in
      id_is_there (standing part) o (asks_last sources (remaining part) o (one_kept (λ p. not (is_gone p)) part o there k)
      (λ y l. f y l (is.closed o k y (source_needed o y l)))))

  -- what stands in the part stands in the whole
  pub stands_within : (o : Operation) → IsIn o (standing part) → IsIn o (standing held)
  stands_within o i = standing_one held (held_written os w) o (is.within o (standing_in part is.written o i).0) (stands_up o i)

  pub stands_alike : (x : Id) → has_operation part x ≡ true → has_operation (standing part) x ≡ has_operation (standing held) x
  stands_alike x e = elim (cases_Bool (has_operation (standing held) x)) [
    | inl f ↦ let (o, i, g) = operation_with (standing held) x f in
        subst (λ y. has_operation (standing part) y ≡ true) g (stands_down o i (subst (λ y. has_operation part y ≡ true) (sym g) e)) ∙ sym f
    | inr none ↦ false_from_ne_true (has_operation (standing part) x) (λ f.
        true≢false (sym (ids_stay (standing part) (standing held) x stands_within f) ∙ none)) ∙ sym none
  ]

  lost_alike : (x : Id) → has_operation part x ≡ true → is_lost part x ≡ is_lost held x
  lost_alike x e = rw (e, ids_stay part held x is.within e, stands_alike x e) refl

  -- ---- the laws of the order

  table : IsTable (rows_of (standing held))
  table = standing_table held (held_written os w)

  part_table : IsTable (rows_of (standing part))
  part_table = standing_table part is.written

  closed_part : IsClosedPart (operation_set (standing part)) (operation_set (standing held))
  closed_part = record {
    rows = record {
      within = λ row i. let (o, j, e) = row_is (standing part) row i in subst (λ r. IsIn r (rows_of (standing held))) (sym e) (is_row (standing held) o (stands_within o j));
      distinct = part_table.distinct;
      has_left = part_table.has_left;
      has_right = part_table.has_right;
    };
    has_parent = λ x i. if_some_map (IsEarlier part is.written x) (λ y. IsIn y (ids_of (rows_of (standing part))))
        (item_of_list (list_of (standing part) x)) (λ y c. c.0) (item_earlier part is.written x i);
    has_clocks = λ x y i j smaller. clocks x y i (row_one (standing held) y j) smaller;
    same_carried = λ x i. let (o, j, e) = row_one (standing part) x i in subst (λ y. list_carried (standing part) y ≡ list_carried (standing held) y) e
        (list_carried-one (standing part) part_table.distinct o j ∙ sym (list_carried-one (standing held) table.distinct o (stands_within o j)));
  }
    where
      clocks : (x y : Id) → IsIn x (ids_of (rows_of (standing part))) → (o : Operation) × IsIn o (standing held) × (o.id ≡ y) → HasSmallerClock y x →
          IsIn y (ids_of (rows_of (standing part)))
      clocks x y i (o, j, e) smaller =
          let (p, k, f) = row_one (standing part) x i in
          let there : has_operation part x ≡ true = subst (λ z. has_operation part z ≡ true) f (id_is_there part p (standing_in part is.written p k).0) in
          let below : has_operation part y ≡ true = subst (λ ps. has_operation ps y ≡ true) all_held
          (held_smaller part is.written x y (subst (λ ps. has_operation ps x ≡ true) (sym all_held) there) smaller) in
          has_row (standing part) y (subst (λ z. has_operation (standing part) z ≡ true) e (stands_down o j (subst (λ z. has_operation part z ≡ true) (sym e) below)))

  same_list : (x : Id) → IsIn x (ids_of (rows_of (standing part))) → list_of (standing part) x ≡ list_of (standing held) x
  same_list x i = closed_list (operation_set (standing part)) (operation_set (standing held)) table closed_part x i

  abbrev before_part : Id → Id → Bool
  before_part = is_before (table_of_all (operation_set (standing part)))

  abbrev before_held : Id → Id → Bool
  before_held = is_before (table_of_all (operation_set (standing held)))

  same_order : (a b : Id) → IsIn a (ids_of (rows_of (standing part))) → IsIn b (ids_of (rows_of (standing part))) → before_part a b ≡ before_held a b
  same_order a b i j = closed_order (operation_set (standing part)) (operation_set (standing held)) table closed_part a b i j

  -- ---- the edit rules

  stays_honest : AreHonest held → AreHonest part
  stays_honest honest o i = let meets = honest o (stands_within o i) in record {
    one_list = λ p r e f. same_list p (left_row p e) ∙ meets.one_list p r e f ∙ sym (same_list r (right_row r f));
    left_first = first o.left_origin o.right_origin left_row right_row meets.left_first;
    past_outside = λ y e past same between. meets.past_outside y (ids_stay (standing part) (standing held) y stands_within e) (past_within part held is.within past)
        (sym (same_list y (has_row (standing part) y e)) ∙ same ∙ same_list o.id (one_row (standing part) o i))
        (lefts o.left_origin y (has_row (standing part) y e) left_row between.0, rights o.right_origin y (has_row (standing part) y e) right_row between.1);
  }
    where
      left_row : (p : Id) → o.left_origin ≡ Some p → IsIn p (ids_of (rows_of (standing part)))
      left_row p e = some_of (λ y. IsIn y (ids_of (rows_of (standing part)))) o.left_origin p e
          (subst (λ z. IfSome z (λ y. IsIn y (ids_of (rows_of (standing part))))) (left_of-row (standing part) part_table.distinct o i) (part_table.has_left o.id (one_row (standing part) o i)))

      right_row : (r : Id) → o.right_origin ≡ Some r → IsIn r (ids_of (rows_of (standing part)))
      right_row r e = some_of (λ y. IsIn y (ids_of (rows_of (standing part)))) o.right_origin r e
          (subst (λ z. IfSome z (λ y. IsIn y (ids_of (rows_of (standing part))))) (right_of-row (standing part) part_table.distinct o i) (part_table.has_right o.id (one_row (standing part) o i)))

      first : (left right : Option Id) → ((p : Id) → left ≡ Some p → IsIn p (ids_of (rows_of (standing part)))) →
          ((r : Id) → right ≡ Some r → IsIn r (ids_of (rows_of (standing part)))) → IsLeftFirst before_held left right → IsLeftFirst before_part left right
      first None right a b h = tt
      first (Some p) None a b h = tt
      first (Some p) (Some r) a b h = (h.0, same_order p r (a p refl) (b r refl) ∙ h.1)

      lefts : (left : Option Id) (y : Id) → IsIn y (ids_of (rows_of (standing part))) → ((p : Id) → left ≡ Some p → IsIn p (ids_of (rows_of (standing part)))) →
          IfSome left (λ p. (p ≢ y) × (before_part p y ≡ true)) → IfSome left (λ p. (p ≢ y) × (before_held p y ≡ true))
      lefts None y i a h = tt
      lefts (Some p) y i a h = (h.0, sym (same_order p y (a p refl) i) ∙ h.1)

      rights : (right : Option Id) (y : Id) → IsIn y (ids_of (rows_of (standing part))) → ((r : Id) → right ≡ Some r → IsIn r (ids_of (rows_of (standing part)))) →
          IfSome right (λ r. (y ≢ r) × (before_part y r ≡ true)) → IfSome right (λ r. (y ≢ r) × (before_held y r ≡ true))
      rights None y i b h = tt
      rights (Some r) y i b h = (h.0, sym (same_order y r i (b r refl)) ∙ h.1)

  -- ---- what is deleted

  deletes : AreHonest held → (named all : Id → Bool) → ((x : Id) → named x ≡ true → all x ≡ true) → (x : Id) → has_operation part x ≡ true →
      is_deleted part named x ≡ true → is_deleted held all x ≡ true
  deletes honest named all among x there e = elim (cases_Bool (has_operation (standing part) x)) [
    | inl stands ↦ is_deleted-true os w all x (ids_stay (standing part) (standing held) x stands_within stands)
        (deletes_no_more (operation_set (standing part)) (operation_set (standing held)) table (honest_set os w honest) closed_part named all among (has_row (standing part) x stands)
        (subst (λ ps. has_operation (standing ps) x ≡ true → is_deleted ps named x ≡ true → IsDeleted (operation_set (standing ps)) named x) all_held (deleted_is part is.written named x) stands e))
    | inr lost ↦ or_left (is_lost held x) (is_deleted_among (standing held) all x) (sym (lost_alike x there) ∙ is_lost_there lost)
  ]
    where
      is_lost_there : has_operation (standing part) x ≡ false → is_lost part x ≡ true
      is_lost_there lost = rw (there, lost) refl

  -- ---- lemmas for callers

  pub part_stays : StaysAsItIs part held
  part_stays = record {
    lost = lost_alike;
    honest = stays_honest;
    same_list = λ x e. same_list x (has_row (standing part) x e);
    same_order = λ a b e f. same_order a b (has_row (standing part) a e) (has_row (standing part) b f);
    deletes = deletes;
  }
