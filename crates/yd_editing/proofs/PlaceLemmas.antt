-- One made operation: all stays honest, it stands directly behind its left origin, and no other list changes.
use Rattle.std.proofs.Common.{◌≡◌, ◌≢◌, ◌<◌, ◌≤◌, ℕ, true, false, not, List, ◌∷◌, ◌++◌, nat_eq, ◌⊎◌, inl, inr, refl, sym, ap, ◌∙◌, subst, arith, tests, true≢false}
use Rattle.std.proofs.lemmas.Bool.{cases_Bool}
use Rattle.std.specs.Prelude.{IfSome}
use Rattle.yd_words.specs.Member.{IsIn}
use Rattle.yd_words.proofs.TestLemmas.{split}
use Rattle.yd_words.proofs.OptionLemmas.{if_some_map}
use Rattle.yd_words.proofs.MemberLemmas.{in_parts}
use Rattle.yd_words.proofs.FilterLemmas.{one_kept}
use Rattle.yd_ids.specs.declared.id.Client.{Client}
use Rattle.yd_ids.specs.declared.id.Id.{Id}
use Rattle.yd_origins.specs.Parts.{behind, up_to}
use Rattle.yd_ids.proofs.IdLemmas.{same_itself, other_id}
use Rattle.yd_ops.specs.declared.lists.List.{List as DocList}
use Rattle.yd_ops.specs.Operation.{Operation, level_of}
use Rattle.yd_origins.specs.Table.{OriginTable, ids_of, left_of, right_of, IsTable}
use Rattle.yd_origins.specs.Sorted.{IsNext}
use Rattle.yd_origins.specs.Operations.{table_of_list}
use Rattle.yd_origins.proofs.NextLemmas.{next_there, next_is_table, next_fits, next_place}
use Rattle.yd_origins.proofs.ListTableLemmas.{own_member, own_list, in_own}
use Rattle.yd_origins.proofs.SortedLemmas.{origin_order_in}
use Rattle.yd_ops.specs.Received.{has_operation, IsWritten, taken_in}
use Rattle.yd_ops.proofs.OneOfLemmas.{operation_with, id_is_there, id_there, id_not_there, ids_stay}
use Rattle.yd_ops.proofs.WritingLemmas.{taken_is, taken_new, taken_stays, taken_written}
use Rattle.yd_meaning.specs.Held.{given, item_carried, sources, held_clock, is_gone, standing}
use Rattle.yd_meaning.specs.Order.{row_of, rows_of, operation_set, list_of, order_of, AreHonest}
use Rattle.yd_meaning.specs.Law.{StaysAsItIs, IsMade, StaysHonestWith, IsHonestList}
use Rattle.yd_meaning.proofs.NeedLemmas.{given_is}
use Rattle.yd_meaning.proofs.RowLemmas.{row_one, has_row, row_has}
use Rattle.yd_meaning.proofs.RoundLemmas.{asks_last}
use Rattle.yd_meaning.proofs.StandingLemmas.{remaining, standing_in}
use Rattle.yd_meaning.proofs.StandingTableLemmas.{standing_table}
use Rattle.yd_meaning.proofs.LostLemmas.{stands}
use Rattle.yd_meaning.proofs.HonestLemmas.{some_of}
use Rattle.yd_meaning.proofs.PartLemmas.{part_stays}
use Rattle.yd_meaning.proofs.MadeLemmas.{stays_honest_with}
use Rattle.yd_editing.specs.Law.{IsHonestHeld, StandsBehind}
use Rattle.yd_editing.proofs.UnitLemmas.{list_fits, needs_there, clocks_below}
use Rattle.yd_editing.proofs.TableLemmas.{orders_alike}

module _ (held : List Operation) (is : IsHonestHeld held) (made : Operation) (name : DocList) (m : IsMade held made name) where
  abbrev new : List Operation
  new = taken_in made held

  hw : IsWritten held
  hw = is.written

  nw : IsWritten new
  nw = taken_written made held hw

  law : StaysHonestWith held made name
  law = subst (λ h. AreHonest h → IsMade h made name → StaysHonestWith h made name) is.whole (λ honest k. stays_honest_with held hw honest made name k) is.honest m

  pub honest_with : IsHonestHeld new
  honest_with = record { written = nw; whole = law.all_held; honest = law.honest }

  -- ---- what is there

  pub new_is : (q : Operation) → IsIn q new → (q ≡ made) ⊎ IsIn q held
  new_is q i = elim (taken_is made held hw q i) [
    | inl b ↦ inl b.0
    | inr c ↦ elim c [ inl b ↦ inr b.0 | inr (p, j, id, e) ↦ absurd (id_not_there held made.id m.is_new p j id) ]
  ]

  pub made_there : IsIn made new
  made_there = taken_new made held m.is_new

  pub held_there : (q : Operation) → IsIn q held → IsIn q new
  held_there q i = taken_stays made held q i (id_not_there held made.id m.is_new q i)

  stay : StaysAsItIs held new
  stay = subst (λ h. StaysAsItIs held h) law.all_held (part_stays new nw held record {
    written = hw;
    within = λ o i. subst (λ ps. IsIn o ps) (sym law.all_held) (held_there o i);
    closed = needs_there held is;
  })

  pub stands_up : (o : Operation) → IsIn o (standing held) → IsIn o (standing new)
  stands_up o i = let b = (stands held hw o).0 i in (stands new nw o).1 (held_there o b.0, sym (stay.lost o.id (id_is_there held o b.0)) ∙ b.1)

  up : (y : Id) → has_operation (standing held) y ≡ true → has_operation (standing new) y ≡ true
  up y e = ids_stay (standing held) (standing new) y stands_up e

  pub stands_down : (o : Operation) → IsIn o (standing new) → (o ≡ made) ⊎ IsIn o (standing held)
  stands_down o i = let b = (stands new nw o).0 i in elim (new_is o b.0) [
    | inl e ↦ inl e
    | inr j ↦ inr ((stands held hw o).1 (j, stay.lost o.id (id_is_there held o j) ∙ b.1))
  ]

  pub list_stays : (y : Id) → has_operation (standing held) y ≡ true → list_of (standing held) y ≡ list_of (standing new) y
  list_stays = stay.same_list

  table : IsTable (rows_of (standing held))
  table = standing_table held hw

  new_table : IsTable (rows_of (standing new))
  new_table = standing_table new nw

  fits : (list : DocList) → IsHonestList held list
  fits = list_fits held is

  new_fits : (list : DocList) → IsHonestList new list
  new_fits = list_fits new honest_with

  abbrev own : DocList → OriginTable
  own list = table_of_list (operation_set (standing held)) list

  abbrev own_new : DocList → OriginTable
  own_new list = table_of_list (operation_set (standing new)) list

  -- ---- the made operation stands

  own_stands : (list : DocList) (y : Id) → IsIn y (ids_of (own list)) → (has_operation (standing held) y ≡ true) × (list_of (standing held) y ≡ list)
  own_stands list y i = (row_has (standing held) y (own_member (operation_set (standing held)) table list y i), own_list (operation_set (standing held)) table list y i)

  right_in : IfSome made.right_origin (λ y. IsIn y (ids_of (own name)))
  right_in = subst (λ z. IfSome z (λ y. IsIn y (ids_of (own name)))) (sym m.right_is_next) (next_there (own name) (fits name).is_table (fits name).fits made.left_origin)

  left_in : IfSome made.left_origin (λ y. IsIn y (ids_of (own name)))
  left_in = if_some_map (λ y. IsIn y (order_of (standing held) name)) (λ y. IsIn y (ids_of (own name))) made.left_origin (λ y i. origin_order_in (own name) y i) m.left_of_list

  sources_stand : (y : Id) → IsIn y (sources made) → has_operation (standing held) y ≡ true
  sources_stand y i = elim (in_parts y (given made.left_origin) (given made.right_origin ++ given (item_carried made.list)) i) [
    | inl j ↦ (own_stands name y (some_of (λ v. IsIn v (ids_of (own name))) made.left_origin y (given_is made.left_origin y j) left_in)).0
    | inr j ↦ elim (in_parts y (given made.right_origin) (given (item_carried made.list)) j) [
      | inl k ↦ (own_stands name y (some_of (λ v. IsIn v (ids_of (own name))) made.right_origin y (given_is made.right_origin y k) right_in)).0
      | inr k ↦ some_of (λ v. has_operation (standing held) v ≡ true) (item_carried made.list) y (given_is (item_carried made.list) y k) m.item
    ]
  ]

  pub made_stands : IsIn made (standing new)
  made_stands = asks_last sources (remaining new) made (one_kept (λ p. not (is_gone p)) new made (there (cases_Bool (is_gone made))) made_there) (λ y i. up y (sources_stand y i))
    where
      there : (is_gone made ≡ true) ⊎ (is_gone made ≡ false) → not (is_gone made) ≡ true
      there (inl e) = absurd (never (level_of made.content) m.not_gone e)
        where
          never : (n : ℕ) → 0 < n → nat_eq n 0 ≡ true → ⊥
          never n lt e = absurd (grind (arith, tests))
      there (inr e) = rw e refl

  -- ---- its list

  -- of an operation that stood and is of a list, the tables of the list have one left and one right
  old_in_new : (list : DocList) (x : Id) → IsIn x (ids_of (own list)) → IsIn x (ids_of (own_new list))
  old_in_new list x i = let b = own_stands list x i in
      in_own (operation_set (standing new)) new_table list x (has_row (standing new) x (up x b.0)) (sym (list_stays x b.0) ∙ b.1)

  old_left : (list : DocList) (x : Id) → IsIn x (ids_of (own list)) → left_of (own list) x ≡ left_of (own_new list) x
  old_left list x i = let b = own_stands list x i in let (o, j, e) = operation_with (standing held) x b.0 in
      subst (λ y. left_of (own list) y ≡ left_of (own_new list) y) e
      ((fits list).lefts o j (ap (list_of (standing held)) e ∙ b.1) ∙ sym ((new_fits list).lefts o (stands_up o j) (ap (list_of (standing new)) e ∙ sym (list_stays x b.0) ∙ b.1)))

  old_right : (list : DocList) (x : Id) → IsIn x (ids_of (own list)) → right_of (own list) x ≡ right_of (own_new list) x
  old_right list x i = let b = own_stands list x i in let (o, j, e) = operation_with (standing held) x b.0 in
      subst (λ y. right_of (own list) y ≡ right_of (own_new list) y) e
      ((fits list).rights o j (ap (list_of (standing held)) e ∙ b.1) ∙ sym ((new_fits list).rights o (stands_up o j)
      (ap (list_of (standing new)) e ∙ sym (list_stays x b.0) ∙ b.1)))

  new_in_old : (list : DocList) (x : Id) → IsIn x (ids_of (own_new list)) → ((x ≡ made.id) × (list ≡ name)) ⊎ IsIn x (ids_of (own list))
  new_in_old list x i =
      let e : list_of (standing new) x ≡ list = own_list (operation_set (standing new)) new_table list x i in
      let (o, j, f) = row_one (standing new) x (own_member (operation_set (standing new)) new_table list x i) in elim (stands_down o j) [
        | inl g ↦ let h : x ≡ made.id = sym f ∙ ap (λ (p : Operation). p.id) g in inl (h, sym e ∙ ap (list_of (standing new)) h ∙ law.of_list)
        | inr k ↦ let s : has_operation (standing held) x ≡ true = id_there (standing held) o x k f in
            inr (in_own (operation_set (standing held)) table list x (has_row (standing held) x s) (list_stays x s ∙ e))
      ]

  -- ---- lists of other names

  pub other_order : (other : DocList) → other ≢ name → order_of (standing new) other ≡ order_of (standing held) other
  other_order other differ = orders_alike (own other) (own_new other) (fits other).is_table (fits other).fits (new_fits other).is_table
      (λ x. (old_in_new other x, λ i. elim (new_in_old other x i) [ inl b ↦ absurd (differ b.1) | inr j ↦ j ])) (old_left other) (old_right other)

  -- ---- the list that it is made in

  is_next : IsNext (own name) (row_of made)
  is_next = record {
    is_new = λ i. true≢false (sym (held_of made.id (own_stands name made.id i).0) ∙ m.is_new);
    clocks = λ x i e. below x (held_of x (own_stands name x i).0) e;
    left_there = left_in;
    right_is_next = m.right_is_next;
  }
    where
      held_of : (y : Id) → has_operation (standing held) y ≡ true → has_operation held y ≡ true
      held_of y e = ids_stay (standing held) held y (λ o i. (standing_in held hw o i).0) e

      below : (x : Id) → has_operation held x ≡ true → x.client ≡ made.id.client → x.clock < made.id.clock
      below x e c = elim (split made.id.clock x.clock) [
        | inr lt ↦ lt
        | inl ge ↦ absurd (true≢false (sym ((clocks_below held is made.id.client made.id.clock).1
            (less ge ((clocks_below held is x.client x.clock).0 e))) ∙ m.is_new))
      ]
        where
          less : made.id.clock ≤ x.clock → x.clock < held_clock held x.client.0 → made.id.clock < held_clock held made.id.client.0
          less ge lt = omega (arith, ge, subst (λ (v : Client). x.clock < held_clock held v.0) c lt)

  abbrev larger : OriginTable
  larger = row_of made ∷ own name

  head_left : (x : Id) → IsIn x (ids_of (own name)) → left_of larger x ≡ left_of (own name) x
  head_left x i = rw (other_id made.id x (λ e. is_next.is_new (subst (λ y. IsIn y (ids_of (own name))) (sym e) i))) refl

  head_right : (x : Id) → IsIn x (ids_of (own name)) → right_of larger x ≡ right_of (own name) x
  head_right x i = rw (other_id made.id x (λ e. is_next.is_new (subst (λ y. IsIn y (ids_of (own name))) (sym e) i))) refl

  made_left : left_of larger made.id ≡ left_of (own_new name) made.id
  made_left = rw (same_itself made.id) (sym ((new_fits name).lefts made made_stands law.of_list))

  made_right : right_of larger made.id ≡ right_of (own_new name) made.id
  made_right = rw (same_itself made.id) (sym ((new_fits name).rights made made_stands law.of_list))

  made_in : IsIn made.id (ids_of (own_new name))
  made_in = in_own (operation_set (standing new)) new_table name made.id (has_row (standing new) made.id (id_is_there (standing new) made made_stands)) law.of_list

  pub made_order : order_of (standing new) name ≡ up_to made.left_origin (order_of (standing held) name) ++ made.id ∷ behind made.left_origin (order_of (standing held) name)
  made_order = orders_alike larger (own_new name) (next_is_table (own name) (fits name).is_table (fits name).fits (row_of made) is_next)
      (next_fits (own name) (fits name).is_table (fits name).fits (row_of made) is_next) (new_fits name).is_table
      (λ x. (
        (λ i. elim i [ inl e ↦ subst (λ y. IsIn y (ids_of (own_new name))) (sym e) made_in | inr j ↦ old_in_new name x j ]),
        λ i. elim (new_in_old name x i) [ inl b ↦ inl b.0 | inr j ↦ inr j ],
      ))
      (λ x i. elim i [ inl e ↦ subst (λ y. left_of larger y ≡ left_of (own_new name) y) (sym e) made_left | inr j ↦ head_left x j ∙ old_left name x j ])
      (λ x i. elim i [ inl e ↦ subst (λ y. right_of larger y ≡ right_of (own_new name) y) (sym e) made_right | inr j ↦ head_right x j ∙ old_right name x j ])
      ∙ next_place (own name) (fits name).is_table (fits name).fits (row_of made) is_next

  -- ---- lemmas for callers

  pub stands_behind : StandsBehind held made name
  stands_behind = record {
    all_held = honest_with;
    place = made_order;
    others = other_order;
    is_there = made_there;
    all_stay = held_there;
    no_other = new_is;
    stands = made_stands;
    stay_standing = stands_up;
    no_other_stands = stands_down;
    of_list = law.of_list;
    same_list = list_stays;
  }
