-- The lists of what stands: each id in a list has a number, whose name is the list that the origins give.
use Rattle.std.proofs.Common.{◌≡◌, ℕ, Bool, true, false, List, inl, inr, Option, Some, None, refl, sym, ap, ◌∙◌, subst, arith, true≢false}
use Rattle.std.specs.Prelude.{slice_get, is_some, not, IfSome}
use Rattle.yd_words.specs.Member.{IsIn}
use Rattle.yd_words.proofs.FilterLemmas.{kept_one}
use Rattle.yd_words.proofs.MemberLemmas.{in_each}
use Rattle.yd_words.proofs.OptionLemmas.{some_is}
use Rattle.yd_ids.specs.declared.id.Id.{Id}
use Rattle.yd_origins.specs.Table.{IsTable}
use Rattle.yd_origins.specs.Operations.{list_by_origins}
use Rattle.yd_ops.specs.declared.lists.List.{List as DocList}
use Rattle.yd_ops.specs.Operation.{Operation}
use Rattle.yd_ops.specs.Received.{has_operation}
use Rattle.yd_ops.proofs.OneOfLemmas.{operation_with}
use Rattle.yd_meaning.specs.Held.{sources, is_gone}
use Rattle.yd_meaning.specs.Order.{rows_of, list_or_root, list_of}
use Rattle.yd_meaning.proofs.NeedLemmas.{left_source, right_source}
use Rattle.yd_meaning.proofs.RoundLemmas.{last_least}
use Rattle.yd_meaning.proofs.StandingLemmas.{remaining}
use Rattle.yd_meaning.proofs.StandingTableLemmas.{standing_table}
use Rattle.yd_meaning.proofs.HeldListLemmas.{list_of-one, list_of-left}
use Rattle.yd_entries.specs.declared.entry.Entry.{Entry}
use Rattle.yd_entries.specs.declared.place.Place.{Place}
use Rattle.yd_entries.specs.declared.place.Place.TheVariants.{Waits, Lost, In}
use Rattle.yd_entries.specs.Entries.{operations_of_taken, carried_of, covers, is_listed, is_listed_at}
use Rattle.yd_received.specs.Received.{ReceivedValue, listed_of, held_of}
use Rattle.yd_held.specs.Held.{HeldValue}
use Rattle.yd_held.specs.Holding.{IsHolding}
use Rattle.yd_held.specs.Numbered.{list_at_place, number_of, AreNumbered}
use Rattle.yd_held.specs.Placed.{HasNumber, IsPlaced}
use Rattle.yd_held.proofs.HeldUnitLemmas.{IsFirst, Follows, id_at, unit_cases, unit_gone, covers_first, covers_later, unit_covers}
use Rattle.yd_held.proofs.HeldEntryLemmas.{is_taken, chosen_entry, chosen_id}
use Rattle.yd_held.proofs.HoldingLemmas.{is_written}
use Rattle.yd_held.proofs.NumberOfLemmas.{number_of-one}
use Rattle.yd_held.proofs.StandingLemmas.{placed_at, listed_whole, number_listed, stands_all}

-- a place in a list has the number that the origins give
placed_number : (r : ReceivedValue) (names : List DocList) (t : Entry) (p : Place) → IsPlaced r names t p → is_listed_at p ≡ true →
    (n : ℕ) × (list_at_place p ≡ Some n) × HasNumber t.left t.right (list_or_root (carried_of r.runs t)) r.entries names n
placed_number r names t Waits is e = absurd (true≢false (sym e))
placed_number r names t Lost is e = absurd (true≢false (sym e))
placed_number r names t (In n) is e = (n, refl, is.1)

number_listed_at : (p : Place) (n : ℕ) → list_at_place p ≡ Some n → is_listed_at p ≡ true
number_listed_at Waits n e = absurd cc
number_listed_at Lost n e = absurd cc
number_listed_at (In m) n e = refl

module _ (k : HeldValue) (h : IsHolding k) where
  abbrev r : ReceivedValue
  r = k.received

  abbrev listed : List Operation
  listed = listed_of r

  -- what is in lists is a table of origins
  pub listed_table : IsTable (rows_of listed)
  listed_table = subst (λ os. IsTable (rows_of os)) (sym (stands_all k h)) (standing_table (held_of r) (is_written k h))

  -- the id has a number, whose name is its list
  abbrev pub IsNumbered : Id → Type 0
  IsNumbered x = (n : ℕ) × (number_of r.entries x ≡ Some n) × (slice_get k.names n ≡ Some (list_of listed x))

  some_number : (x : Id) → IsNumbered x → is_some (number_of r.entries x) ≡ true
  some_number x is = ap is_some is.1

  by_origin : (o : Operation) (y : Id) (n : ℕ) → IsNumbered y → number_of r.entries y ≡ Some n → list_of listed o.id ≡ list_of listed y →
      slice_get k.names n ≡ Some (list_of listed o.id)
  by_origin o y n is number same = let one : is.0 ≡ n = some_is is.0 n (sym is.1 ∙ number) in
      subst (λ m. slice_get k.names m ≡ Some (list_of listed y)) one is.2 ∙ ap Some (sym same)

  first_named : (o : Operation) → IsIn o listed → (t : Entry) → IsFirst r.runs t o → (n : ℕ) →
      HasNumber t.left t.right (list_or_root (carried_of r.runs t)) r.entries k.names n → ((x : Id) → IsIn x (sources o) → IsNumbered x) →
      slice_get k.names n ≡ Some (list_of listed o.id)
  first_named o i t first n number before = go t.left t.right number first.has_left first.has_right
    where
      by_list : (z w : Option Id) → o.left_origin ≡ z → o.right_origin ≡ w → list_of listed o.id ≡ list_by_origins z w (list_or_root o.list) (list_of listed)
      by_list z w e f = list_of-one listed listed_table o i ∙ ap (λ y. list_by_origins y o.right_origin (list_or_root o.list) (list_of listed)) e
          ∙ ap (λ y. list_by_origins z y (list_or_root o.list) (list_of listed)) f

      go : (z w : Option Id) → HasNumber z w (list_or_root (carried_of r.runs t)) r.entries k.names n → o.left_origin ≡ z → o.right_origin ≡ w →
          slice_get k.names n ≡ Some (list_of listed o.id)
      go (Some y) w number e f = by_origin o y n (before y (left_source o y e)) number (by_list (Some y) w e f)
      go None (Some y) number e f = by_origin o y n (before y (right_source o y f)) number (by_list None (Some y) e f)
      go None None number e f = number ∙ ap Some (ap list_or_root (sym first.has_list) ∙ sym (by_list None None e f))

  numbered_step : (o : Operation) → IsIn o (remaining (held_of r)) → ((x : Id) → IsIn x (sources o) → IsNumbered x) → IsNumbered o.id
  numbered_step o i before =
      let (told, held) = kept_one (λ p. not (is_gone p)) (held_of r) o i in
      let in_list = listed_whole k h o held (not_not (is_gone o) told) (λ x s. number_listed k h x (some_number x (before x s))) in
      let (t, j, l, m) = chosen_entry is_listed r h.in_order o in_list in
      let (n, place, number) = placed_number r k.names t t.place (placed_at k h t j) l in (
        n,
        number_of-one r.entries h.in_order.in_order t o.id j (unit_covers r.runs t (is_taken r h.in_order t j) o m) ∙ place,
        elim (unit_cases r.runs t (is_taken r h.in_order t j) o m) [
          | inl first ↦ first_named o in_list t first n number before
          | inr later ↦ of_later in_list t j m n place later.0 later.1
        ],
      )
    where
      not_not : (t : Bool) → not t ≡ true → t ≡ false
      not_not true e = sym e
      not_not false e = refl

      of_later : IsIn o listed → (t : Entry) → IsIn t r.entries → IsIn o (operations_of_taken r.runs t) → (n : ℕ) → list_at_place t.place ≡ Some n →
          (j : ℕ) → Follows t o j → slice_get k.names n ≡ Some (list_of listed o.id)
      of_later in_list t here m n place j later = elim later.has_left [
        | inl left ↦ by_origin o (id_at t.id.client j) n (before (id_at t.id.client j) (left_source o (id_at t.id.client j) left))
            (number_of-one r.entries h.in_order.in_order t (id_at t.id.client j) here
            (covers_later r.runs t (is_taken r h.in_order t here) j later.above (omega (arith, later.below))) ∙ place)
            (list_of-left listed listed_table o in_list (id_at t.id.client j) left)
        | inr gone ↦ absurd (true≢false (sym (unit_gone r.runs t (is_taken r h.in_order t here) o m ∙ gone.0) ∙ not_gone))
      ]
        where
          not_gone : is_gone o ≡ false
          not_gone = not_not (is_gone o) (kept_one (λ p. not (is_gone p)) (held_of r) o i).0

  -- ---- lemmas for callers

  -- each id in a list is so
  pub numbered_id : (x : Id) → has_operation listed x ≡ true → IsNumbered x
  numbered_id x e =
      let (o, i, f) = operation_with listed x e in
      subst IsNumbered f (last_least sources (remaining (held_of r)) IsNumbered numbered_step o (subst (λ os. IsIn o os) (stands_all k h) i))

  -- each unit of an entry in a list is of the list of the first
  pub units_list : (t : Entry) → IsIn t r.entries → is_listed t ≡ true → (x : Id) → covers t x ≡ true → list_of listed x ≡ list_of listed t.id
  units_list t i l x c =
      let (m, number, name) = numbered_id x (chosen_id is_listed r h.in_order t x i l c) in
      let first = covers_first r.runs t (is_taken r h.in_order t i) in
      let (n, own, own_name) = numbered_id t.id (chosen_id is_listed r h.in_order t t.id i l first) in
      let one : m ≡ n = some_is m n (sym number ∙ number_of-one r.entries h.in_order.in_order t x i c ∙ sym (number_of-one r.entries h.in_order.in_order t t.id i first) ∙ own) in
      some_is (list_of listed x) (list_of listed t.id) (sym name ∙ ap (slice_get k.names) one ∙ own_name)

  -- the numbers are those of the lists
  pub numbered_all : AreNumbered r k.names
  numbered_all = record {
    named = in_each (λ (t : Entry). IfSome (list_at_place t.place) (λ n. slice_get k.names n ≡ Some (list_of listed t.id))) r.entries (λ t i. named t i (list_at_place t.place) refl);
    distinct = h.distinct;
    parents = h.parents;
  }
    where
      named : (t : Entry) → IsIn t r.entries → (z : Option ℕ) → list_at_place t.place ≡ z → IfSome z (λ n. slice_get k.names n ≡ Some (list_of listed t.id))
      named t i None e = tt
      named t i (Some n) e =
          let first = covers_first r.runs t (is_taken r h.in_order t i) in
          let (m, number, name) = numbered_id t.id (chosen_id is_listed r h.in_order t t.id i (number_listed_at t.place n e) first) in
          let one : m ≡ n = some_is m n (sym number ∙ number_of-one r.entries h.in_order.in_order t t.id i first ∙ e) in
          subst (λ j. slice_get k.names j ≡ Some (list_of listed t.id)) one name
