-- The lists by their numbers: each id that stands is in a list with a number, whose name is the id's own list.
use Rattle.std.proofs.Common.{◌≡◌, ℕ, ◌^◌, ◌<◌, Bool, true, false, List, [], ◌∷◌, Some, inl, inr, take, drop, refl, sym, ap, ◌∙◌, subst, arith, true≢false}
use Rattle.std.specs.Prelude.{IfSome, if◌then◌else◌, slice_get}
use Rattle.std.proofs.lemmas.Bool.{cases_Bool}
use Rattle.yd_words.specs.Member.{IsIn}
use Rattle.yd_words.proofs.MemberLemmas.{each_in}
use Rattle.yd_ids.specs.declared.id.Id.{Id}
use Rattle.yd_ids.specs.declared.id.Span.{Span}
use Rattle.yd_ids.specs.Id.{IsId, IsSpan}
use Rattle.yd_ops.specs.declared.lists.List.{List as DocList}
use Rattle.yd_ops.specs.Operation.{Operation}
use Rattle.yd_origins.specs.Table.{IsTable}
use Rattle.yd_ops.specs.Received.{has_operation, IsWritten}
use Rattle.yd_meaning.specs.Names.{item_of_list}
use Rattle.yd_meaning.specs.Order.{rows_of, list_of}
use Rattle.yd_meaning.proofs.StandingTableLemmas.{standing_table}
use Rattle.yd_entries.specs.declared.entry.Entry.{Entry}
use Rattle.yd_entries.specs.declared.place.Place.{Place}
use Rattle.yd_entries.specs.declared.place.Place.TheVariants.{Waits, Lost, In}
use Rattle.yd_entries.specs.Entries.{units_of, list_at, operations_told, operations_of_taken, IsTakenOf, is_held, is_listed_at, is_listed, covers}
use Rattle.yd_received.specs.Received.{held_of, listed_of}
use Rattle.yd_held.specs.Held.{HeldValue, HoldsAll}
use Rattle.yd_held.specs.Numbered.{list_at_place, number_of}
use Rattle.yd_held.specs.Placed.{can_stand, IsPlaced}
use Rattle.yd_held.proofs.HeldUnitLemmas.{covers_less, covers_unit}
use Rattle.yd_held.proofs.HeldEntryLemmas.{is_taken, chosen_written, entry_chosen, id_chosen}
use Rattle.yd_stretches.proofs.OneListLemmas.{list_of-later}
use Rattle.yd_stretches.proofs.TakenRowLemmas.{IsOfRun}

-- ---- places

-- units in a list have its number
pub listed_number : (p : Place) → is_listed_at p ≡ true → (n : ℕ) × (list_at_place p ≡ Some n)
listed_number Waits e = absurd (true≢false (sym e))
listed_number Lost e = absurd (true≢false (sym e))
listed_number (In n) e = (n, refl)

pub number_listed : (p : Place) (n : ℕ) → list_at_place p ≡ Some n → is_listed_at p ≡ true
number_listed Waits n e = absurd cc
number_listed Lost n e = absurd cc
number_listed (In m) n e = refl

-- the number of an id is that of the entry that covers it
number_found : (ts : List Entry) (x : Id) (n : ℕ) → number_of ts x ≡ Some n → (t : Entry) × IsIn t ts × (covers t x ≡ true) × (list_at_place t.place ≡ Some n)
number_found [] x n e = absurd cc
number_found (t ∷ ts) x n e = go (covers t x) refl e (λ f. number_found ts x n f)
  where
    go : (u : Bool) → covers t x ≡ u → (if u then list_at_place t.place else number_of ts x) ≡ Some n →
        (number_of ts x ≡ Some n → (s : Entry) × IsIn s ts × (covers s x ≡ true) × (list_at_place s.place ≡ Some n)) →
        (s : Entry) × IsIn s (t ∷ ts) × (covers s x ≡ true) × (list_at_place s.place ≡ Some n)
    go true c f rest = (t, inl refl, c, f)
    go false c f rest = let (s, i, d, g) = rest f in (s, inr i, d, g)

-- ---- lemmas for callers

-- an id, as a span of one
abbrev pub span_of : Id → Span
span_of x = record { client = x.client; clock = x.clock; len = 1 }

module _ (k : HeldValue) (holds : HoldsAll k) where
  abbrev stands : List Operation
  stands = listed_of k.received

  pub stands_written : IsWritten stands
  stands_written = chosen_written is_listed k.received holds.in_order

  -- what is in lists is a table of origins
  pub stands_table : IsTable (rows_of stands)
  stands_table = subst (λ os. IsTable (rows_of os)) (sym holds.stands) (standing_table (held_of k.received) (chosen_written is_held k.received holds.in_order))

  -- no unit of it is gone
  pub entry_told : (t : Entry) → IsIn t k.received.entries → is_listed t ≡ true → t.is_gone ≡ false
  entry_told t i = go t.place (each_in (λ t. IsPlaced k.received k.names t t.place) k.received.entries holds.placed t i)
    where
      go : (p : Place) → IsPlaced k.received k.names t p → is_listed_at p ≡ true → t.is_gone ≡ false
      go Waits placed e = absurd (true≢false (sym e))
      go Lost placed e = absurd (true≢false (sym e))
      go (In n) placed e = elim (cases_Bool t.is_gone) [
        | inl gone ↦ absurd (true≢false (sym placed.0 ∙ cannot gone))
        | inr told ↦ told
      ]
        where
          cannot : t.is_gone ≡ true → can_stand k.received t ≡ false
          cannot gone = rw gone refl

  pub entry_is : (t : Entry) → IsIn t k.received.entries → is_listed t ≡ true → IsOfRun k.received.runs t
  entry_is t i e = record { taken = is_taken k.received holds.in_order t i; told = entry_told t i e }

  -- each unit of an entry in a list is of the list of the first
  pub unit_list : (t : Entry) → IsIn t k.received.entries → is_listed t ≡ true → (o : Operation) → IsIn o (operations_of_taken k.received.runs t) →
      list_of stands o.id ≡ list_of stands t.id
  unit_list t i e o j = go t.is_gone (entry_told t i e) (entry_chosen is_listed k.received holds.in_order t i e) j
    where
      go : (b : Bool) → b ≡ false → ((p : Operation) → IsIn p (operations_told b k.received.runs t) → IsIn p stands) → IsIn o (operations_told b k.received.runs t) →
          list_of stands o.id ≡ list_of stands t.id
      go true f within l = absurd (true≢false f)
      go false f within l = list_of-later stands stands_table t.id t.left t.right (list_at (slice_get k.received.runs t.run) t.offset)
          (take t.len (drop t.offset (units_of (slice_get k.received.runs t.run)))) within o l

  -- an id of an entry is in the list with the entry's number, and is in range with the clock behind it
  covered_list : (t : Entry) → IsIn t k.received.entries → (n : ℕ) → list_at_place t.place ≡ Some n → (x : Id) → covers t x ≡ true →
      (slice_get k.names n ≡ Some (list_of stands x)) × IsSpan (span_of x)
  covered_list t i n e x c =
      let (o, j, f) = covers_unit k.received.runs t is x c in
      (named ∙ ap Some (sym (sym (ap (list_of stands) f) ∙ unit_list t i (number_listed t.place n e) o j)), span)
    where
      is : IsTakenOf k.received.runs t
      is = is_taken k.received holds.in_order t i

      named : slice_get k.names n ≡ Some (list_of stands t.id)
      named = subst (λ z. IfSome z (λ m. slice_get k.names m ≡ Some (list_of stands t.id))) e
          (each_in (λ (t : Entry). IfSome (list_at_place t.place) (λ n. slice_get k.names n ≡ Some (list_of stands t.id))) k.received.entries holds.numbered.named t i)

      span : IsSpan (span_of x)
      span = let less = covers_less t x c in record {
        client = subst (λ c. c < 2 ^ 53) less.0 is.id.client;
        end = omega (arith, is.end, less.2);
      }

  -- each id that stands is in a list with a number, and is in range with the clock behind it
  pub id_listed : (x : Id) → has_operation stands x ≡ true → (n : ℕ) × (slice_get k.names n ≡ Some (list_of stands x)) × IsSpan (span_of x)
  id_listed x e =
      let (t, i, passes, c) = id_chosen is_listed k.received holds.in_order x e in
      let (n, there) = listed_number t.place passes in
      let (name, span) = covered_list t i n there x c in
      (n, name, span)

  -- the item of a list with a number is in a list with a smaller one, and in range
  pub item_before : (n : ℕ) (list : DocList) → slice_get k.names n ≡ Some list → (y : Id) → item_of_list list ≡ Some y →
      (m : ℕ) × (m < n) × (slice_get k.names m ≡ Some (list_of stands y)) × IsId y
  item_before n list there y item =
      let (m, lt, number) = holds.numbered.parents n list y there item in
      let (t, i, c, at) = number_found k.received.entries y m number in
      let (name, span) = covered_list t i m at y c in
      (m, lt, name, record { client = span.client; clock = omega (arith, span.end) })
