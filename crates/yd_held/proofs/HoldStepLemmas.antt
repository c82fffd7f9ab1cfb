-- One entry more is held: what is held is its own held set again, with the ids below the raised vector.
use Rattle.std.proofs.Common.{◌≡◌, ℕ, ◌+◌, ◌<◌, true, false, List, ◌⊎◌, inl, inr, Some, set, sym, ap, ◌∙◌, subst, arith, true≢false}
use Rattle.std.specs.Prelude.{◌↔◌, slice_get}
use Rattle.std.proofs.lemmas.Bool.{false_from_ne_true}
use Rattle.yd_words.specs.Member.{IsIn}
use Rattle.yd_words.proofs.TestLemmas.{split, same_or_other}
use Rattle.yd_ids.specs.declared.id.Client.{Client}
use Rattle.yd_ids.specs.declared.id.Id.{Id}
use Rattle.yd_ids.specs.Vector.{clock_of, RaisesOnly}
use Rattle.yd_ops.specs.Operation.{Operation}
use Rattle.yd_ops.specs.Received.{has_operation, IsWritten}
use Rattle.yd_ops.proofs.OneOfLemmas.{operation_with, id_is_there, id_there, ids_stay}
use Rattle.yd_meaning.specs.Held.{needs, held_set}
use Rattle.yd_meaning.proofs.HeldLemmas.{held_set-part}
use Rattle.yd_meaning.proofs.ClockLemmas.{AreReached, AreReady, raise_reached, below_held}
use Rattle.yd_entries.specs.declared.entry.Entry.{Entry}
use Rattle.yd_entries.specs.declared.place.Place.{Place}
use Rattle.yd_entries.specs.Entries.{operations_of_taken, covers, carried_of, is_held, is_held_at, IsTakenOf}
use Rattle.yd_received.specs.Received.{ReceivedValue, IsReceived, taken_of, held_of, with_place}
use Rattle.yd_entries.proofs.ChangeLemmas.{entry_got, set_has_new, set_has, set_is}
use Rattle.yd_received.proofs.PlacingLemmas.{are_taken-place, operations-placed, operations-place}
use Rattle.yd_entries.proofs.EntryLemmas.{covers_in}
use Rattle.yd_entries.proofs.WrittenLemmas.{taken_written}
use Rattle.yd_held.specs.Held.{HeldValue}
use Rattle.yd_held.specs.Holding.{IsHolding}
use Rattle.yd_held.specs.Readiness.{IsOriginOf}
use Rattle.yd_held.proofs.HeldEntryLemmas.{is_taken, entry_taken, chosen_entry, entry_chosen, chosen_received, covers_chosen}
use Rattle.yd_held.proofs.HeldUnitLemmas.{id_at, covers_less, covers_later, covers_unit, unit_covers}
use Rattle.yd_held.proofs.HoldingLemmas.{unit_needs, IsReady, has_needs, id_of_all, reached}

-- what is known where an entry is held
pub record Setting (k : HeldValue) (at : ℕ) (t : Entry) : Type 0 where
  pub holding : IsHolding k
  pub got : slice_get k.received.entries at ≡ Some t
  pub ready : IsReady k.vector k.received.runs t

module _ (k : HeldValue) (at : ℕ) (t : Entry) (s : Setting k at t) (p : Place) (held : is_held_at p ≡ true) where
  abbrev r : ReceivedValue
  r = k.received

  -- what is received then
  abbrev pub then_received : ReceivedValue
  then_received = record { runs = r.runs; entries = set r.entries at (with_place t p) }

  abbrev before : List Operation
  before = held_of r

  abbrev after : List Operation
  after = held_of then_received

  in_order : IsReceived r
  in_order = s.holding.in_order

  here : IsIn t r.entries
  here = entry_got r.entries at t s.got

  pub this_taken : IsTakenOf r.runs t
  this_taken = is_taken r in_order t here

  pub taken_after : IsReceived then_received
  taken_after = are_taken-place t p r.runs r.entries at s.got in_order

  pub received_after : taken_of then_received ≡ taken_of r
  received_after = operations-place t p r.runs r.entries at s.got

  -- ---- what is held then

  pub stays_held : (o : Operation) → IsIn o before → IsIn o after
  stays_held o i =
      let (u, j, u_held, l) = chosen_entry is_held r in_order o i in
      elim (set_has t (with_place t p) r.entries at s.got u j) [
        | inl e ↦ absurd (true≢false (sym u_held ∙ ap is_held e ∙ s.ready.waits))
        | inr m ↦ entry_chosen is_held then_received taken_after u m u_held o l
      ]

  is_held_now : (o : Operation) → IsIn o (operations_of_taken r.runs t) → IsIn o after
  is_held_now o i = entry_chosen is_held then_received taken_after (with_place t p) (set_has_new t (with_place t p) r.entries at s.got) held o
      (subst (λ os. IsIn o os) (sym (operations-placed t p r.runs)) i)

  held_now : (o : Operation) → IsIn o after → IsIn o before ⊎ IsIn o (operations_of_taken r.runs t)
  held_now o i =
      let (u, j, u_held, l) = chosen_entry is_held then_received taken_after o i in
      elim (set_is t (with_place t p) r.entries at u j) [
        | inl e ↦ inr (subst (λ os. IsIn o os) (operations-placed t p r.runs) (subst (λ v. IsIn o (operations_of_taken r.runs v)) e l))
        | inr m ↦ inl (entry_chosen is_held r in_order u m u_held o l)
      ]

  -- what the entry stands on is held before, and no id of its own
  pub origin_held : (x : Id) → IsOriginOf x t.left t.right (carried_of r.runs t) → has_operation before x ≡ true
  origin_held x o = (s.holding.tells x).1 (s.ready.origins x o)

  pub held_elsewhere : (x : Id) → has_operation before x ≡ true → covers t x ≡ false
  held_elsewhere x e = false_from_ne_true (covers t x) (λ c. true≢false (sym (covers_chosen is_held r in_order t x here c e) ∙ s.ready.waits))

  -- ---- with the vector raised

  module _ (raised : List (Client × ℕ)) (raises : RaisesOnly k.vector raised t.id.client.0 (t.id.clock + t.len)) where
    this_clock : clock_of raised t.id.client.0 ≡ t.id.clock + t.len
    this_clock = omega (arith, raises.this_client, s.ready.begins)

    clock_of_same : (x : Id) → t.id.client.0 ≡ x.client.0 → clock_of raised x.client.0 ≡ t.id.clock + t.len
    clock_of_same x e = subst (λ c. clock_of raised c ≡ t.id.clock + t.len) e this_clock

    -- the held ids are those below it
    pub tells_after : (x : Id) → has_operation after x ≡ true ↔ x.clock < clock_of raised x.client.0
    tells_after x = (below, there)
      where
        below : has_operation after x ≡ true → x.clock < clock_of raised x.client.0
        below e = let (o, i, f) = operation_with after x e in subst (λ y. y.clock < clock_of raised y.client.0) f (elim (held_now o i) [
          | inl j ↦ let lt = (s.holding.tells o.id).0 (id_is_there before o j) in
              elim (same_or_other o.id.client.0 t.id.client.0) [
                | inl same ↦ rw (clock_of_same o.id (sym same)) (omega (arith, lt, ap (λ c. clock_of k.vector c) same, s.ready.begins))
                | inr other ↦ rw (raises.other_clients o.id.client.0 other) lt
              ]
          | inr j ↦ let (client, low, high) = covers_less t o.id (unit_covers r.runs t this_taken o j) in
              rw (clock_of_same o.id client) high
        ])

        there : x.clock < clock_of raised x.client.0 → has_operation after x ≡ true
        there lt = elim (same_or_other t.id.client.0 x.client.0) [
          | inl same ↦ elim (split t.id.clock x.clock) [
            | inl low ↦ let (o, i, f) = covers_unit r.runs t this_taken x (covers_in t x same low (omega (arith, lt, clock_of_same x same))) in
                id_there after o x (is_held_now o i) f
            | inr less ↦ ids_stay before after x stays_held ((s.holding.tells x).1
                (omega (arith, less, s.ready.begins, ap (λ c. clock_of k.vector c) same)))
          ]
          | inr other ↦ ids_stay before after x stays_held ((s.holding.tells x).1
              (subst (λ n. x.clock < n) (raises.other_clients x.client.0 (λ e. other (sym e))) lt))
        ]

    ready_units : AreReady (taken_of r) t.id.client (clock_of k.vector t.id.client.0) (t.id.clock + t.len)
    ready_units n low high =
        let (o, i, e) = covers_unit r.runs t this_taken (id_at t.id.client n) (covers_later r.runs t this_taken n (omega (arith, low, s.ready.begins)) high) in (
          o,
          entry_taken r in_order t here o i,
          e,
          (λ x j. elim (unit_needs r.runs t this_taken o i x j) [
            | inl smaller ↦ inr smaller
            | inr origin ↦ inl (id_of_all k s.holding x (origin_held x origin))
          ]),
        )

    reached_after : AreReached (taken_of r) (clock_of raised)
    reached_after = raise_reached (taken_of r) k.vector raised t.id.client (t.id.clock + t.len) raises (reached k s.holding) ready_units

    -- what is held is its own held set
    pub own_after : held_set after ≡ after
    own_after = held_set-part (taken_of r) after written within closed
      where
        written : IsWritten (taken_of r)
        written = taken_written r.runs r.entries in_order

        within : (o : Operation) → IsIn o after → IsIn o (held_set (taken_of r))
        within o i = below_held (taken_of r) written (clock_of raised) reached_after o
            (subst (λ os. IsIn o os) received_after (chosen_received is_held then_received taken_after o i)) ((tells_after o.id).0 (id_is_there after o i))

        closed : (o : Operation) → IsIn o after → (x : Id) → IsIn x (needs o) → has_operation after x ≡ true
        closed o i x j = elim (held_now o i) [
          | inl l ↦ ids_stay before after x stays_held (has_needs k s.holding o l x j)
          | inr l ↦ elim (unit_needs r.runs t this_taken o l x j) [
            | inl smaller ↦ (tells_after x).1 (omega (arith, smaller.1, (tells_after o.id).0 (id_is_there after o i), ap (λ (c : Client). clock_of raised c.0) smaller.0))
            | inr origin ↦ ids_stay before after x stays_held (origin_held x origin)
          ]
        ]
