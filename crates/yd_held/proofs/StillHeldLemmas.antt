-- What was held is held still where less is told of it and all units stay at their places: with the same ids, clocks and lists.
use Rattle.std.proofs.Common.{◌≡◌, ℕ, suc, ◌+◌, ◌<◌, true, false, List, inl, inr, Option, Some, None, refl, sym, ap, ap₂, ◌∙◌, subst, arith, true≢false}
use Rattle.std.specs.Prelude.{◌↔◌, not, ◌&&◌, is_some}
use Rattle.std.proofs.lemmas.Bool.{false_from_ne_true}
use Rattle.yd_words.specs.Member.{IsIn}
use Rattle.yd_words.proofs.FilterLemmas.{filter-all}
use Rattle.yd_words.proofs.MemberLemmas.{in_each}
use Rattle.yd_ids.specs.declared.id.Id.{Id}
use Rattle.yd_ids.specs.Vector.{clock_of}
use Rattle.yd_ops.specs.declared.lists.List.{List as DocList}
use Rattle.yd_ops.specs.Operation.{Operation}
use Rattle.yd_ops.specs.Received.{has_operation, with_groups}
use Rattle.yd_ops.proofs.OneOfLemmas.{operation_with, id_is_there}
use Rattle.yd_meaning.specs.Held.{item_carried, sources, needs, has_all, held_set, is_gone, standing, is_lost}
use Rattle.yd_meaning.specs.Order.{list_or_root}
use Rattle.yd_meaning.specs.Staying.{AreSeenAlike, StaysHeld}
use Rattle.yd_meaning.proofs.HasAllLemmas.{has_each}
use Rattle.yd_meaning.proofs.HeldLemmas.{next_round-held, held_in, held_needs}
use Rattle.yd_meaning.proofs.NeedLemmas.{left_source, right_source, item_source, source_is}
use Rattle.yd_meaning.proofs.RowLemmas.{written_distinct, one_operation}
use Rattle.yd_meaning.proofs.VectorLemmas.{held_smaller}
use Rattle.yd_entries.specs.declared.entry.Entry.{Entry}
use Rattle.yd_entries.specs.declared.place.Place.{Place}
use Rattle.yd_entries.specs.declared.place.Place.TheVariants.{Waits, Lost, In}
use Rattle.yd_entries.specs.Entries.{operations_of_taken, carried_of, is_held, is_held_at, is_listed, is_listed_at}
use Rattle.yd_received.specs.Received.{ReceivedValue, IsReceived, taken_of, held_of, listed_of}
use Rattle.yd_entries.proofs.WrittenLemmas.{taken_written}
use Rattle.yd_entries.specs.Staying.{place_at, KeepsPlaces}
use Rattle.yd_held.specs.Held.{HeldValue, HoldsAll}
use Rattle.yd_held.specs.Holding.{IsHolding}
use Rattle.yd_held.specs.Numbered.{list_at_place, number_of}
use Rattle.yd_held.specs.Placed.{can_stand, HasNumber, IsPlaced, ArePlaced}
use Rattle.yd_held.specs.Readiness.{IsOriginOf}
use Rattle.yd_held.proofs.HeldEntryLemmas.{is_taken, entry_taken, chosen_written, chosen_entry, entry_chosen, chosen_received}
use Rattle.yd_held.proofs.HeldUnitLemmas.{IsFirst, id_at, unit_cases, unit_gone, covers_unit, covers_later, covers_first, first_unit}
use Rattle.yd_held.proofs.KeptLemmas.{with_received, holds_holding}
use Rattle.yd_held.proofs.LeftLemmas.{IsLeft, HasLeft, left_of_it, held_lesser}
use Rattle.yd_held.proofs.NumberOfLemmas.{number_of-one}
use Rattle.yd_held.proofs.PlaceAtLemmas.{number_of-place, place_at-one, place_entry, chosen_place}
use Rattle.yd_held.proofs.StandingLemmas.{can_is, is_can, placed_at, listed_number, number_listed, listed_sound, listed_whole, stands_all}

-- ---- the list of one unit

number_same_ids : (z w x y : Option Id) (a b : DocList) (ts us : List Entry) (names : List DocList) (n : ℕ) → z ≡ x → w ≡ y → a ≡ b → ((i : Id) → number_of us i ≡ number_of ts i) →
    HasNumber z w a ts names n → HasNumber x y b us names n
number_same_ids z w x y a b ts us names n e f g same number = subst (λ v. HasNumber v y b us names n) e (subst (λ v. HasNumber z v b us names n) f
    (subst (λ v. HasNumber z w v us names n) g (go z w number)))
  where
    go : (z w : Option Id) → HasNumber z w a ts names n → HasNumber z w a us names n
    go (Some i) w number = same i ∙ number
    go None (Some i) number = same i ∙ number
    go None None number = number

module _ (k : HeldValue) (h : IsHolding k) where
  abbrev r : ReceivedValue
  r = k.received

  -- each unit in a list has its number, as its entry has
  pub unit_number : (t : Entry) → IsIn t r.entries → (n : ℕ) → t.place ≡ In n → (o : Operation) → IsIn o (operations_of_taken r.runs t) →
      HasNumber o.left_origin o.right_origin (list_or_root o.list) r.entries k.names n
  unit_number t i n e o j =
      let (stands, number) = subst (IsPlaced r k.names t) e (placed_at k h t i) in
      let is = is_taken r h.in_order t i in
      elim (unit_cases r.runs t is o j) [
        | inl first ↦ number_same_ids t.left t.right o.left_origin o.right_origin (list_or_root (carried_of r.runs t)) (list_or_root o.list) r.entries r.entries k.names n
            (sym first.has_left) (sym first.has_right) (ap list_or_root (sym first.has_list)) (λ x. refl) number
        | inr (m, later) ↦ elim later.has_left [
          | inl left ↦ subst (λ z. HasNumber z o.right_origin (list_or_root o.list) r.entries k.names n) (sym left)
              (number_of-one r.entries h.in_order.in_order t (id_at t.id.client m) i (covers_later r.runs t is m later.above (below m later.below)) ∙ ap list_at_place e)
          | inr gone ↦ absurd (true≢false (sym gone.0 ∙ (can_is r t stands).told))
        ]
      ]
    where
      below : (m : ℕ) → suc m < t.id.clock + t.len → m < t.id.clock + t.len
      below m lt = omega (arith, lt)

-- ---- lemmas for callers

module _ (old : HeldValue) (mid : ReceivedValue) (holds : HoldsAll old) (is : IsReceived mid) (groups : List (List Operation))
    (same : taken_of mid ≡ with_groups groups (taken_of old.received)) (places : KeepsPlaces old.received.runs old.received.entries mid.runs mid.entries) where
  abbrev was : ReceivedValue
  was = old.received

  abbrev h : IsHolding old
  h = holds_holding old holds

  pub number_same : (x : Id) → number_of mid.entries x ≡ number_of was.entries x
  number_same x = number_of-place mid.entries x ∙ ap list_at_place (places.placed x) ∙ sym (number_of-place was.entries x)

  pub held_ids : (x : Id) → has_operation (held_of mid) x ≡ has_operation (held_of was) x
  held_ids x = chosen_place is_held_at refl mid is x ∙ ap is_held_at (places.placed x) ∙ sym (chosen_place is_held_at refl was holds.in_order x)

  pub listed_ids : (x : Id) → has_operation (listed_of mid) x ≡ has_operation (listed_of was) x
  listed_ids x = chosen_place is_listed_at refl mid is x ∙ ap is_listed_at (places.placed x) ∙ sym (chosen_place is_listed_at refl was holds.in_order x)

  pub left_of_one : (o q : Operation) → IsIn o (taken_of was) → IsIn q (taken_of mid) → q.id ≡ o.id → IsLeft o q
  left_of_one = left_of_it groups (taken_of was) (taken_of mid) same (taken_written was.runs was.entries holds.in_order) (taken_written mid.runs mid.entries is)

  -- each operation that was held is held, or what is left of it
  pub held_left : (o : Operation) → IsIn o (held_of was) → HasLeft (held_of mid) o
  held_left o i = let (q, j, e) = operation_with (held_of mid) o.id (held_ids o.id ∙ id_is_there (held_of was) o i) in
      (q, j, left_of_one o q (chosen_received is_held was holds.in_order o i) (chosen_received is_held mid is q j) e)

  pub left_held : (q : Operation) → IsIn q (held_of mid) → (o : Operation) × IsIn o (held_of was) × IsLeft o q
  left_held q j = let (o, i, e) = operation_with (held_of was) q.id (sym (held_ids q.id) ∙ id_is_there (held_of mid) q j) in
      (o, i, left_of_one o q (chosen_received is_held was holds.in_order o i) (chosen_received is_held mid is q j) (sym e))

  all_held : (q : Operation) → IsIn q (held_of mid) → IsIn q (held_set (held_of mid))
  all_held q j =
      let (o, i, left) = left_held q j in
      let there = held_lesser (held_of was) (held_of mid) held_left o.id (subst (λ hs. has_operation hs o.id ≡ true) h.own (id_is_there (held_of was) o i)) in
      let (p, k, e) = operation_with (held_set (held_of mid)) o.id there in
      subst (λ s. IsIn s (held_set (held_of mid)))
      (one_operation (held_of mid) (written_distinct (held_of mid) (chosen_written is_held mid is)) p q (held_in (held_of mid) p k) j (e ∙ sym left.id)) k

  own_still : held_of mid ≡ held_set (held_of mid)
  own_still = sym (sym (next_round-held (held_of mid)) ∙ filter-all (λ o. has_all (held_set (held_of mid)) (needs o)) (held_of mid)
      (λ q j. has_each (held_set (held_of mid)) (needs q) (λ x n. held_needs (held_of mid) q (all_held q j) x n)))

  -- the unit that an entry begins with, as it was: it stood at the entry's place
  record IsFirstOf (t : Entry) : Type 0 where
    first : Operation
    is_first : IsFirst mid.runs t first
    among : IsIn first (operations_of_taken mid.runs t)
    entry : Entry
    there : IsIn entry was.entries
    place : entry.place ≡ t.place
    unit : Operation
    of_entry : IsIn unit (operations_of_taken was.runs entry)
    left : IsLeft unit first

  first_of_one : (t : Entry) → IsIn t mid.entries → is_held t ≡ true → IsFirstOf t
  first_of_one t i held =
      let (q, j, first) = first_unit mid.runs t (is_taken mid is t i) in
      let here : place_at was.entries t.id ≡ t.place = sym (places.placed t.id) ∙ place_at-one mid.entries is.in_order t t.id i (covers_first mid.runs t (is_taken mid is t i)) in
      let (u, k, c, e) = place_entry is_held_at refl was.entries t.id (ap is_held_at here ∙ held) in
      let (o, l, f) = covers_unit was.runs u (is_taken was holds.in_order u k) t.id c in
      record {
        first = q;
        is_first = first;
        among = j;
        entry = u;
        there = k;
        place = sym e ∙ here;
        unit = o;
        of_entry = l;
        left = left_of_one o q (entry_taken was holds.in_order u k o l) (entry_taken mid is t i q j) (first.has_id ∙ sym f);
      }

  seen_alike : (o q : Operation) → IsLeft o q → is_gone q ≡ false → (is_gone o ≡ false) × AreSeenAlike o q
  seen_alike o q left there = elim left.rest [
    | inl gone ↦ absurd (true≢false (sym gone ∙ there))
    | inr alike ↦ (sym alike.1 ∙ there, alike.0)
  ]

  -- what the entry stands on is what its first unit stood on
  origin_source : (t : Entry) → (f : IsFirstOf t) → AreSeenAlike f.unit f.first → (x : Id) → IsOriginOf x t.left t.right (carried_of mid.runs t) → IsIn x (sources f.unit)
  origin_source t f alike x (inl e) = left_source f.unit x (sym alike.left ∙ f.is_first.has_left ∙ e)
  origin_source t f alike x (inr (inl e)) = right_source f.unit x (sym alike.right ∙ f.is_first.has_right ∙ e)
  origin_source t f alike x (inr (inr e)) = item_source f.unit x (ap item_carried (sym alike.list ∙ f.is_first.has_list) ∙ e)

  source_origin : (t : Entry) → (f : IsFirstOf t) → AreSeenAlike f.unit f.first → (x : Id) → IsIn x (sources f.unit) → IsOriginOf x t.left t.right (carried_of mid.runs t)
  source_origin t f alike x i = elim (source_is f.unit x i) [
    | inl e ↦ inl (sym (alike_left ∙ f.is_first.has_left) ∙ e)
    | inr (inl e) ↦ inr (inl (sym (sym alike.right ∙ f.is_first.has_right) ∙ e))
    | inr (inr e) ↦ inr (inr (ap item_carried (sym (sym alike.list ∙ f.is_first.has_list)) ∙ e))
  ]
    where
      alike_left : f.unit.left_origin ≡ f.first.left_origin
      alike_left = sym alike.left

  gone_first : (t : Entry) → IsIn t mid.entries → (f : IsFirstOf t) → is_gone f.first ≡ t.is_gone
  gone_first t i f = unit_gone mid.runs t (is_taken mid is t i) f.first f.among

  -- what is lost cannot stand
  lost_still : (t : Entry) → IsIn t mid.entries → t.place ≡ Lost → can_stand mid t ≡ false
  lost_still t i e = false_from_ne_true (can_stand mid t) (λ can.
      let f = first_of_one t i (ap is_held_at e) in
      let stands = can_is mid t can in
      let (told, alike) = seen_alike f.unit f.first f.left (gone_first t i f ∙ stands.told) in
      let held = entry_chosen is_held was holds.in_order f.entry f.there (ap is_held_at (f.place ∙ e)) f.unit f.of_entry in
      let listed = listed_whole old h f.unit held told (λ x s. number_listed old h x (ap is_some (sym (number_same x)) ∙ stands.origins x (source_origin t f alike x s))) in
      let number = listed_number old h f.unit.id (id_is_there (listed_of was) f.unit listed) in
      nowhere f.unit.id (number_same t.id ∙ ap (number_of was.entries) (sym f.is_first.has_id ∙ f.left.id)) number)
    where
      none : number_of mid.entries t.id ≡ None
      none = number_of-one mid.entries is.in_order t t.id i (covers_first mid.runs t (is_taken mid is t i)) ∙ ap list_at_place e

      nowhere : (y : Id) → number_of mid.entries t.id ≡ number_of was.entries y → is_some (number_of was.entries y) ≡ true → ⊥
      nowhere y e number = true≢false (sym number ∙ ap is_some (sym e ∙ none))

  module _ (none_gone : (t : Entry) → IsIn t mid.entries → is_listed t ≡ true → t.is_gone ≡ false) where
    -- what is in a list can stand, and has its number
    listed_still : (t : Entry) → IsIn t mid.entries → (n : ℕ) → t.place ≡ In n → IsPlaced mid old.names t (In n)
    listed_still t i n e =
        let f = first_of_one t i (ap is_held_at e) in
        let there = none_gone t i (ap is_listed_at e) in
        let (told, alike) = seen_alike f.unit f.first f.left (gone_first t i f ∙ there) in
        let listed = entry_chosen is_listed was holds.in_order f.entry f.there (ap is_listed_at (f.place ∙ e)) f.unit f.of_entry in (
          is_can mid t (record {
            told = there;
            origins = λ x origin. ap is_some (number_same x) ∙ listed_number old h x ((listed_sound old h f.unit listed).1 x (origin_source t f alike x origin));
          }),
          number_same_ids f.unit.left_origin f.unit.right_origin t.left t.right (list_or_root f.unit.list) (list_or_root (carried_of mid.runs t)) was.entries mid.entries old.names n
              (sym alike.left ∙ f.is_first.has_left) (sym alike.right ∙ f.is_first.has_right) (ap list_or_root (sym alike.list ∙ f.is_first.has_list)) number_same
              (unit_number old h f.entry f.there n (f.place ∙ e) f.unit f.of_entry),
        )

    placed_still : ArePlaced mid old.names
    placed_still = in_each (λ t. IsPlaced mid old.names t t.place) mid.entries (λ t i. go t i t.place refl)
      where
        go : (t : Entry) → IsIn t mid.entries → (p : Place) → t.place ≡ p → IsPlaced mid old.names t t.place
        go t i Waits e = subst (IsPlaced mid old.names t) (sym e) tt
        go t i Lost e = subst (IsPlaced mid old.names t) (sym e) (lost_still t i e)
        go t i (In n) e = subst (IsPlaced mid old.names t) (sym e) (listed_still t i n e)

    pub holding_still : IsHolding (with_received old mid)
    holding_still = record {
      in_order = is;
      own = own_still;
      tells = λ x. subst (λ t. t ≡ true ↔ x.clock < clock_of old.vector x.client.0) (sym (held_ids x)) (h.tells x);
      placed = placed_still;
      distinct = h.distinct;
      parents = λ n name y e item. let (m, less, number) = h.parents n name y e item in (m, less, number_same y ∙ number);
    }

    stands_still : (o : Operation) → IsIn o (standing (held_of was)) → (q : Operation) × IsIn q (standing (held_of mid)) × AreSeenAlike o q
    stands_still o i =
        let listed = subst (λ os. IsIn o os) (sym holds.stands) i in
        let (q, j, e) = operation_with (listed_of mid) o.id (listed_ids o.id ∙ id_is_there (listed_of was) o listed) in
        let (t, k, there, l) = chosen_entry is_listed mid is q j in
        let left = left_of_one o q (chosen_received is_listed was holds.in_order o listed) (chosen_received is_listed mid is q j) e in (
          q,
          subst (λ os. IsIn q os) (stands_all (with_received old mid) holding_still) j,
          (seen_alike o q left (unit_gone mid.runs t (is_taken mid is t k) q l ∙ none_gone t k there)).1,
        )

    lost_ids : (x : Id) → is_lost (held_of was) x ≡ is_lost (held_of mid) x
    lost_ids x = ap₂ (λ a b. a && not b) (sym (held_ids x)) (ap (λ os. has_operation os x) (sym holds.stands) ∙ sym (listed_ids x)
        ∙ ap (λ os. has_operation os x) (stands_all (with_received old mid) holding_still))

    pub still_held : StaysHeld (held_of was) (held_of mid)
    still_held = record {
      written = chosen_written is_held was holds.in_order;
      ids = λ x e. held_ids x ∙ e;
      clocks = λ x y e c. subst (λ hs. has_operation hs y ≡ true) (sym holds.held) (held_smaller (taken_of was) (taken_written was.runs was.entries holds.in_order) x y
          (subst (λ hs. has_operation hs x ≡ true) holds.held e) c);
      stands = stands_still;
      lost = λ x e. sym (lost_ids x) ∙ e;
    }
