-- Whether an operation meets the edit rules is told by places in its list.
use Rattle.std.proofs.Common.{◌≡◌, ◌≢◌, ℕ, Bool, true, false, not, List, Option, Some, None, inl, inr, length, refl, sym, ap, ◌∙◌, subst, true≢false}
use Rattle.std.specs.Prelude.{Decides, IfSome, slice_get}
use Rattle.yd_words.specs.Member.{IsIn}
use Rattle.yd_ids.specs.declared.id.Id.{Id}
use Rattle.yd_ops.specs.Operation.{Operation}
use Rattle.yd_ops.specs.declared.lists.List.{List as DocList}
use Rattle.yd_origins.specs.Before.{is_before, IsLeftFirst, IsBetween}
use Rattle.yd_origins.specs.Operations.{OperationSet, table_of_all, table_of_list, kept_right}
use Rattle.yd_origins.specs.Table.{OriginTable, ids_of, left_of, right_of, IsTable}
use Rattle.yd_origins.proofs.ListLemmas.{list_of_left, list_of_right, kept_same}
use Rattle.yd_origins.proofs.ListTableLemmas.{in_own, own_list, own_left, own_right, own_member, own_order}
use Rattle.yd_origins.proofs.TableLemmas.{not_itself}
use Rattle.yd_ops.specs.Received.{has_operation}
use Rattle.yd_ops.proofs.OneOfLemmas.{operation_with, id_there}
use Rattle.yd_meaning.specs.ListNames.{list_names}
use Rattle.yd_meaning.specs.Held.{standing}
use Rattle.yd_meaning.specs.Order.{rows_of, operation_set, list_of, IsPast, of_past, MeetsRules}
use Rattle.yd_meaning.proofs.HonestLemmas.{some_of}
use Rattle.yd_meaning.proofs.RowLemmas.{one_row, has_row, row_has, left_of-row, right_of-row}
use Rattle.yd_meaning.proofs.StandingLemmas.{standing_in}
use Rattle.yd_meaning.proofs.StandingTableLemmas.{standing_table}
use Rattle.yd_order.specs.Comparing.{is_told_before}
use Rattle.yd_firsts.specs.Firsts.{HasFirst, ComparesFirsts}
use Rattle.yd_entries.specs.Entries.{is_held}
use Rattle.yd_received.specs.Received.{ReceivedValue, held_of, listed_of}
use Rattle.yd_held.proofs.HeldEntryLemmas.{chosen_written}
use Rattle.yd_honesty.specs.Judging.{IsKept, IsPlaceOf, IsApart, are_in_order, is_behind, is_ahead, IsParted}
use Rattle.yd_honesty.proofs.NotingLemmas.{there_is_in, up_to_past}
use Rattle.yd_honesty.proofs.PlacesLemmas.{place_in}

module _ (r : ReceivedValue) (kept : IsKept r) (ids lasts : List Id) (is_strict : Bool) (cells : List Bool) (name : DocList)
    (compares : ComparesFirsts (table_of_list (operation_set (listed_of r)) name) ids lasts is_strict cells) (o : Operation) (i : IsIn o (listed_of r)) (at : ℕ)
    (there : slice_get ids at ≡ Some o.id) (lp rp : Option ℕ) (left_is : IsPlaceOf lasts o.left_origin lp) (right_is : IsPlaceOf ids o.right_origin rp) where
  abbrev held : List Operation
  held = held_of r

  abbrev stands : List Operation
  stands = standing held

  abbrev set : OperationSet list_names
  set = operation_set stands

  abbrev own : OriginTable
  own = table_of_list set name

  abbrev before : Id → Id → Bool
  before = is_before (table_of_all set)

  abbrev told : ℕ → ℕ → Bool
  told = is_told_before is_strict cells (length ids)

  comp : ComparesFirsts own ids lasts is_strict cells
  comp = subst (λ os. ComparesFirsts (table_of_list (operation_set os) name) ids lasts is_strict cells) kept.stands compares

  o_in : IsIn o stands
  o_in = subst (λ os. IsIn o os) kept.stands i

  table : IsTable (rows_of stands)
  table = standing_table held (chosen_written is_held r kept.whole.in_order)

  own_of : (n : ℕ) (x : Id) → slice_get ids n ≡ Some x → IsIn x (ids_of own)
  own_of n x e = comp.member x (there_is_in ids n x e).0

  o_list : list_of stands o.id ≡ name
  o_list = own_list set table name o.id (own_of at o.id there)

  is_told : (a b : ℕ) (x y : Id) → slice_get ids a ≡ Some x → slice_get ids b ≡ Some y → before x y ≡ told a b
  is_told a b x y e f = sym (own_order set table name x y (own_of a x e) (own_of b y f)) ∙ comp.before a b x y e f

  -- ---- the origins in the list

  left_row : (a : Id) → o.left_origin ≡ Some a → IsIn a (ids_of (rows_of stands))
  left_row a e = some_of (λ y. IsIn y (ids_of (rows_of stands))) (left_of (rows_of stands) o.id) a (left_of-row stands table.distinct o o_in ∙ e) (table.has_left o.id (one_row stands o o_in))

  right_row : (b : Id) → o.right_origin ≡ Some b → IsIn b (ids_of (rows_of stands))
  right_row b e = some_of (λ y. IsIn y (ids_of (rows_of stands))) (right_of (rows_of stands) o.id) b (right_of-row stands table.distinct o o_in ∙ e) (table.has_right o.id (one_row stands o o_in))

  left_list : (a : Id) → o.left_origin ≡ Some a → list_of stands a ≡ name
  left_list a e = list_of_left set table o.id a (one_row stands o o_in) (left_of-row stands table.distinct o o_in ∙ e) ∙ o_list

  o_first : IsIn o.id ids
  o_first = (there_is_in ids at o.id there).0

  left_last : (a : Id) → o.left_origin ≡ Some a → IsIn a lasts
  left_last a e = comp.left o.id a o_first (own_left set table name o.id (own_of at o.id there) ∙ left_of-row stands table.distinct o o_in ∙ e)

  right_first : (b : Id) → o.right_origin ≡ Some b → list_of stands b ≡ name → IsIn b ids
  right_first b e same = comp.right o.id b o_first (own_right set table name o.id (own_of at o.id there) ∙ ap (λ z. kept_right set o.id z) (right_of-row stands table.distinct o o_in ∙ e)
      ∙ kept_same set table o.id b (same ∙ sym o_list))

  -- the left origin has a place
  left_found : (a : Id) → o.left_origin ≡ Some a → (p : ℕ) × (lp ≡ Some p) × (slice_get lasts p ≡ Some a)
  left_found a e = go lp refl (subst (λ z. IsPlaceOf lasts z lp) e left_is)
    where
      go : (z : Option ℕ) → lp ≡ z → IsPlaceOf lasts (Some a) lp → (p : ℕ) × (lp ≡ Some p) × (slice_get lasts p ≡ Some a)
      go None f is = absurd (subst (λ w. IsPlaceOf lasts (Some a) w) f is (left_last a e))
      go (Some p) f is = (p, f, subst (λ w. IsPlaceOf lasts (Some a) w) f is)

  left_told : (a : Id) → o.left_origin ≡ Some a → (p m : ℕ) (y : Id) → slice_get lasts p ≡ Some a → slice_get ids m ≡ Some y → before a y ≡ told p m
  left_told a e p m y f g = sym (own_order set table name a y (in_own set table name a (left_row a e) (left_list a e)) (own_of m y g)) ∙ comp.behind p m a y f g

  -- the right origin has one, where it is of the list
  right_found : (b : Id) → o.right_origin ≡ Some b → list_of stands b ≡ name → (q : ℕ) × (rp ≡ Some q) × (slice_get ids q ≡ Some b)
  right_found b e same = go rp refl (subst (λ z. IsPlaceOf ids z rp) e right_is)
    where
      go : (z : Option ℕ) → rp ≡ z → IsPlaceOf ids (Some b) rp → (q : ℕ) × (rp ≡ Some q) × (slice_get ids q ≡ Some b)
      go None f is = absurd (subst (λ w. IsPlaceOf ids (Some b) w) f is (right_first b e same))
      go (Some q) f is = (q, f, subst (λ w. IsPlaceOf ids (Some b) w) f is)

  right_placed : (b : Id) (q : ℕ) → o.right_origin ≡ Some b → rp ≡ Some q → slice_get ids q ≡ Some b
  right_placed b q e f = subst (λ w. IsPlaceOf ids (Some b) w) f (subst (λ z. IsPlaceOf ids z rp) e right_is)

  -- the right origin is of the list, where it is not apart
  right_list : (IsApart o.left_origin o.right_origin rp → ⊥) → (b : Id) → o.right_origin ≡ Some b → list_of stands b ≡ name
  right_list near b e = go o.left_origin refl rp refl
    where
      go : (z : Option Id) → o.left_origin ≡ z → (w : Option ℕ) → rp ≡ w → list_of stands b ≡ name
      go None f w g = list_of_right set table o.id b (one_row stands o o_in) (left_of-row stands table.distinct o o_in ∙ f) (right_of-row stands table.distinct o o_in ∙ e) ∙ o_list
      go (Some a) f None g = absurd (near (subst (λ u. IsApart u o.right_origin rp) (sym f) (subst (λ v. IsApart (Some a) v rp) (sym e) (subst (λ w. IsApart (Some a) (Some b) w) (sym g) tt))))
      go (Some a) f (Some q) g = own_list set table name b (own_of q b (right_placed b q e g))

  -- ---- what breaks the rules

  near_is : MeetsRules held o → IsApart o.left_origin o.right_origin rp → ⊥
  near_is meets = go o.left_origin refl o.right_origin refl rp refl
    where
      go : (z : Option Id) → o.left_origin ≡ z → (w : Option Id) → o.right_origin ≡ w → (u : Option ℕ) → rp ≡ u → IsApart z w u → ⊥
      go (Some a) f (Some b) g None h t = none (right_found b g (sym (meets.one_list a b f g) ∙ left_list a f))
        where
          none : (q : ℕ) × (rp ≡ Some q) × (slice_get ids q ≡ Some b) → ⊥
          none (q, e, is) = other (sym h ∙ e)
            where
              other : {q : ℕ} → None ≡ Some q → ⊥
              other e = cc
      go (Some a) f (Some b) g (Some q) h t = t
      go (Some a) f None g u h t = t
      go None f w g u h t = t

  in_order : MeetsRules held o → are_in_order is_strict cells (length ids) lp rp ≡ true
  in_order meets = go o.left_origin refl o.right_origin refl
    where
      go : (z : Option Id) → o.left_origin ≡ z → (w : Option Id) → o.right_origin ≡ w → are_in_order is_strict cells (length ids) lp rp ≡ true
      go None f w g = subst (λ u. are_in_order is_strict cells (length ids) u rp ≡ true) (none lp (subst (λ z. IsPlaceOf lasts z lp) f left_is)) refl
        where
          none : (u : Option ℕ) → IsPlaceOf ids None u → None ≡ u
          none None is = refl
          none (Some p) is = absurd is
      go (Some a) f None g = subst (λ u. are_in_order is_strict cells (length ids) lp u ≡ true) (none rp (subst (λ z. IsPlaceOf ids z rp) g right_is)) (first lp)
        where
          none : (u : Option ℕ) → IsPlaceOf ids None u → None ≡ u
          none None is = refl
          none (Some p) is = absurd is

          first : (u : Option ℕ) → are_in_order is_strict cells (length ids) u None ≡ true
          first None = refl
          first (Some p) = refl
      go (Some a) f (Some b) g =
          let (p, e, is) = left_found a f in
          let (q, h, other) = right_found b g (right_list (near_is meets) b g) in
          subst (λ u. are_in_order is_strict cells (length ids) u rp ≡ true) (sym e) (subst (λ u. are_in_order is_strict cells (length ids) (Some p) u ≡ true) (sym h)
          (sym (left_told a f p q b is other) ∙ (subst (λ z. IsLeftFirst before z (Some b)) f (subst (λ w. IsLeftFirst before o.left_origin w) g meets.left_first)).1))

  parted_not : MeetsRules held o → IsParted r ids is_strict cells o.id lp rp → ⊥
  parted_not meets parted = meets.past_outside parted.other (row_has stands parted.other (own_member set table name parted.other y_own)) parted.of_past
      (own_list set table name parted.other y_own ∙ sym o_list) (behind o.left_origin refl, ahead o.right_origin refl)
    where
      y_own : IsIn parted.other (ids_of own)
      y_own = own_of parted.at parted.other parted.there

      apart : (a b : Id) → before a b ≡ true → a ≢ b
      apart a b e one = true≢false (sym e ∙ subst (λ v. before a v ≡ false) one (not_itself (table_of_all set) a))

      behind : (z : Option Id) → o.left_origin ≡ z → IfSome z (λ a. (a ≢ parted.other) × (before a parted.other ≡ true))
      behind None f = tt
      behind (Some a) f = let (p, e, is) = left_found a f in
          let b : before a parted.other ≡ true = left_told a f p parted.at parted.other is parted.there ∙ subst (λ u. is_behind is_strict cells (length ids) u parted.at ≡ true) e parted.behind in
          (apart a parted.other b, b)

      ahead : (z : Option Id) → o.right_origin ≡ z → IfSome z (λ b. (parted.other ≢ b) × (before parted.other b ≡ true))
      ahead None f = tt
      ahead (Some b) f = let (q, e, is) = right_found b f (right_list (near_is meets) b f) in
          let c : before parted.other b ≡ true = is_told parted.at q parted.other b parted.there is ∙ subst (λ u. is_ahead is_strict cells (length ids) parted.at u ≡ true) e parted.ahead in
          (apart parted.other b c, c)

  -- ---- what keeps them

  meets_so : (IsApart o.left_origin o.right_origin rp → ⊥) → are_in_order is_strict cells (length ids) lp rp ≡ true → (IsParted r ids is_strict cells o.id lp rp → ⊥) → MeetsRules held o
  meets_so near order whole = record {
    one_list = λ a b e f. left_list a e ∙ sym (right_list near b f);
    left_first = first o.left_origin refl o.right_origin refl;
    past_outside = λ y there past same between. outside y there past same between;
  }
    where
      apart : (a b : Id) → before a b ≡ true → a ≢ b
      apart a b e one = true≢false (sym e ∙ subst (λ v. before a v ≡ false) one (not_itself (table_of_all set) a))

      first : (z : Option Id) → o.left_origin ≡ z → (w : Option Id) → o.right_origin ≡ w → IsLeftFirst before z w
      first None f w g = tt
      first (Some a) f None g = tt
      first (Some a) f (Some b) g =
          let (p, e, is) = left_found a f in
          let (q, h, other) = right_found b g (right_list near b g) in
          let c : before a b ≡ true = left_told a f p q b is other ∙ subst (λ u. are_in_order is_strict cells (length ids) (Some p) u ≡ true) h
          (subst (λ u. are_in_order is_strict cells (length ids) u rp ≡ true) e order) in
          (apart a b c, c)

      outside : (y : Id) → has_operation stands y ≡ true → IsPast held o.id y → list_of stands y ≡ list_of stands o.id → IsBetween before o.left_origin o.right_origin y → ⊥
      outside y y_there past same between = by_first (comp.first y y_own)
        where
          y_own : IsIn y (ids_of own)
          y_own = in_own set table name y (has_row stands y y_there) (same ∙ o_list)

          none : (ids : List Id) (u : Option ℕ) → IsPlaceOf ids None u → None ≡ u
          none ids None is = refl
          none ids (Some p) is = absurd is

          y_held : has_operation held y ≡ true
          y_held = let (p, j, e) = operation_with stands y y_there in id_there held p y (standing_in held (chosen_written is_held r kept.whole.in_order) p j).0 e

          first_past : (h : HasFirst own ids lasts y) → IsPast held o.id h.first
          first_past h = elim (up_to_past r kept.whole y h.first y_held (ap (λ c. c.0) h.client) h.clock) [
            | inl e ↦ subst (λ v. IsPast held o.id v) e past
            | inr more ↦ of_past past more
          ]

          by_first : HasFirst own ids lasts y → ⊥
          by_first h = let (m, lt, is) = place_in ids h.first h.there in
              whole (record { at = m; other = h.first; there = is; of_past = first_past h; behind = behind m is o.left_origin refl between.0; ahead = ahead m is o.right_origin refl between.1 })
            where
              behind : (m : ℕ) → slice_get ids m ≡ Some h.first → (z : Option Id) → o.left_origin ≡ z → IfSome z (λ a. (a ≢ y) × (before a y ≡ true)) → is_behind is_strict cells (length ids) lp m ≡ true
              behind m is None f b = subst (λ u. is_behind is_strict cells (length ids) u m ≡ true) (none lasts lp (subst (λ z. IsPlaceOf lasts z lp) f left_is)) refl
              behind m is (Some a) f b = let (p, e, at) = left_found a f in
                  rw e (sym (comp.behind p m a h.first at is) ∙ h.behind a (left_last a f) (own_order set table name a y (in_own set table name a (left_row a f) (left_list a f)) y_own ∙ b.1))

              ahead : (m : ℕ) → slice_get ids m ≡ Some h.first → (z : Option Id) → o.right_origin ≡ z → IfSome z (λ b. (y ≢ b) × (before y b ≡ true)) → is_ahead is_strict cells (length ids) m rp ≡ true
              ahead m is None f b = subst (λ u. is_ahead is_strict cells (length ids) m u ≡ true) (none ids rp (subst (λ z. IsPlaceOf ids z rp) f right_is)) refl
              ahead m is (Some c) f b = let (q, e, at) = right_found c f (right_list near c f) in
                  rw e (sym (comp.before m q h.first c is at) ∙ h.ahead c (there_is_in ids q c at).0 (own_order set table name y c y_own (own_of q c at) ∙ b.1))

  -- ---- lemmas for callers

  abbrev pub IsJudged : Bool → Type 0
  IsJudged told = Decides told (MeetsRules held o)

  pub judged_apart : IsApart o.left_origin o.right_origin rp → IsJudged false
  judged_apart apart = ((λ e. absurd (true≢false (sym e))), (λ meets. absurd (near_is meets apart)))

  pub judged_order : are_in_order is_strict cells (length ids) lp rp ≡ false → IsJudged false
  judged_order off = ((λ e. absurd (true≢false (sym e))), (λ meets. absurd (true≢false (sym (in_order meets) ∙ off))))

  pub judged_last : (IsApart o.left_origin o.right_origin rp → ⊥) → are_in_order is_strict cells (length ids) lp rp ≡ true → (parted told : Bool) →
      Decides parted (IsParted r ids is_strict cells o.id lp rp) → told ≡ not parted → IsJudged told
  judged_last near order true told parted e = (
    (λ f. absurd (true≢false (sym f ∙ e))),
    (λ meets. absurd (parted_not meets (parted.0 refl))),
  )
  judged_last near order false told parted e = (
    (λ f. meets_so near order (λ p. true≢false (sym (parted.1 p)))),
    (λ meets. e),
  )
