-- While units are held: the vector tells which ids are, and which ids an entry needs.
use Rattle.std.proofs.Common.{◌≡◌, ℕ, zero, suc, ◌<◌, ◌≤◌, Bool, true, false, List, ◌⊎◌, inl, inr, Option, Some, None, refl, sym, ap, ◌∙◌, subst, arith, tests, nat_eq, true≢false}
use Rattle.std.specs.Prelude.{not, ◌&&◌}
use Rattle.yd_words.specs.Member.{IsIn}
use Rattle.yd_words.proofs.MemberLemmas.{in_parts}
use Rattle.yd_words.proofs.TestLemmas.{both_hold}
use Rattle.yd_ids.specs.declared.id.Client.{Client}
use Rattle.yd_ids.specs.declared.id.Id.{Id}
use Rattle.yd_ids.specs.Vector.{clock_of}
use Rattle.yd_ids.specs.Ids.{HasSmallerClock}
use Rattle.yd_ops.specs.declared.runs.Run.{Run}
use Rattle.yd_ops.specs.Operation.{Operation}
use Rattle.yd_ops.specs.Received.{has_operation, IsWritten}
use Rattle.yd_meaning.specs.Held.{id_before, item_carried, sources, needs, held_set}
use Rattle.yd_meaning.proofs.HeldLemmas.{held_needs, held_id_grows}
use Rattle.yd_meaning.proofs.NeedLemmas.{left_source, right_source, item_source, source_is, source_needed}
use Rattle.yd_meaning.proofs.ClockLemmas.{AreReached}
use Rattle.yd_entries.specs.declared.entry.Entry.{Entry}
use Rattle.yd_entries.specs.Entries.{operations_of_taken, is_held, IsTakenOf, carried_of}
use Rattle.yd_received.specs.Received.{is_below, taken_of, held_of}
use Rattle.yd_held.specs.Held.{HeldValue}
use Rattle.yd_held.specs.Holding.{IsHolding}
use Rattle.yd_held.specs.Readiness.{IsOriginOf, is_none_or_below, is_ready}
use Rattle.yd_held.proofs.HeldEntryLemmas.{is_taken, entry_chosen, chosen_written, chosen_received}
use Rattle.yd_held.proofs.HeldUnitLemmas.{Follows, id_at, unit_cases, first_unit}

-- ---- what an operation needs

before_is : (client : Client) (clock : ℕ) (x : Id) → IsIn x (id_before client clock) → (x.client ≡ client) × (x.clock < clock)
before_is client zero x i = absurd i
before_is client (suc k) x (inl e) = (ap (λ (y : Id). y.client) e, omega (arith, ap (λ (y : Id). y.clock) e))
before_is client (suc k) x (inr i) = absurd i

module _ (runs : List Run) (t : Entry) (k : IsTakenOf runs t) where
  later_is : (o : Operation) (j : ℕ) → Follows t o j → (x : Id) → IsOriginOf x o.left_origin o.right_origin o.list →
      (x ≡ id_at t.id.client j) ⊎ IsOriginOf x t.left t.right (carried_of runs t)
  later_is o j later x (inl f) = elim later.has_left [
    | inl before ↦ inl (of_some (sym f ∙ before))
    | inr gone ↦ absurd (none_some (sym gone.1 ∙ f))
  ]
    where
      of_some : {a b : Id} → Some a ≡ Some b → a ≡ b
      of_some e = cc

      none_some : None ≡ Some x → ⊥
      none_some e = cc
  later_is o j later x (inr (inl f)) = inr (inr (inl (sym later.has_right ∙ f)))
  later_is o j later x (inr (inr f)) = absurd (no_item (subst (λ z. item_carried z ≡ Some x) later.has_list f))
    where
      no_item : None ≡ Some x → ⊥
      no_item e = cc

  -- an operation of an entry stands on the unit before it and on what the entry stands on
  pub unit_sources : (o : Operation) → IsIn o (operations_of_taken runs t) → (x : Id) → IsIn x (sources o) →
      ((j : ℕ) × Follows t o j × (x ≡ id_at t.id.client j)) ⊎ IsOriginOf x t.left t.right (carried_of runs t)
  unit_sources o i x j = elim (unit_cases runs t k o i) [
    | inl first ↦ inr (subst (λ z. IsOriginOf x z t.right (carried_of runs t)) first.has_left
        (subst (λ z. IsOriginOf x o.left_origin z (carried_of runs t)) first.has_right
        (subst (λ z. IsOriginOf x o.left_origin o.right_origin z) first.has_list (source_is o x j))))
    | inr later ↦ elim (later_is o later.0 later.1 x (source_is o x j)) [
      | inl before ↦ inl (later.0, later.1, before)
      | inr origin ↦ inr origin
    ]
  ]

  -- and needs smaller clocks of its client
  pub unit_needs : (o : Operation) → IsIn o (operations_of_taken runs t) → (x : Id) → IsIn x (needs o) →
      HasSmallerClock x o.id ⊎ IsOriginOf x t.left t.right (carried_of runs t)
  unit_needs o i x j = elim (in_parts x (id_before o.id.client o.id.clock) (sources o) j) [
    | inl before ↦ inl (before_is o.id.client o.id.clock x before)
    | inr source ↦ elim (unit_sources o i x source) [
      | inl (n, later, is) ↦ inl (smaller n later is)
      | inr origin ↦ inr origin
    ]
  ]
    where
      smaller : (n : ℕ) → Follows t o n → x ≡ id_at t.id.client n → HasSmallerClock x o.id
      smaller n later is = (
        ap (λ (y : Id). y.client) is ∙ sym (ap (λ (y : Id). y.client) later.has_id),
        omega (arith, ap (λ (y : Id). y.clock) is, ap (λ (y : Id). y.clock) later.has_id),
      )

-- ---- what the tests say

pub below_less : (vector : List (Client × ℕ)) (x : Id) → is_below vector x ≡ true → x.clock < clock_of vector x.client.0
below_less vector x e = grind (arith, tests)

pub less_below : (vector : List (Client × ℕ)) (x : Id) → x.clock < clock_of vector x.client.0 → is_below vector x ≡ true
less_below vector x lt = grind (arith, tests)

pub above_not : (vector : List (Client × ℕ)) (x : Id) → clock_of vector x.client.0 ≤ x.clock → is_below vector x ≡ false
above_not vector x le = grind (arith, tests)

pub below_some : (vector : List (Client × ℕ)) (z : Option Id) → is_none_or_below vector z ≡ true → (x : Id) → z ≡ Some x → x.clock < clock_of vector x.client.0
below_some vector z e x f = below_less vector x (subst (λ w. is_none_or_below vector w ≡ true) f e)

pub some_below : (vector : List (Client × ℕ)) (z : Option Id) → ((x : Id) → z ≡ Some x → x.clock < clock_of vector x.client.0) → is_none_or_below vector z ≡ true
some_below vector None f = refl
some_below vector (Some x) f = less_below vector x (f x refl)

-- the entry waits, begins at its client's clock, and has what its first unit needs below the vector
pub record IsReady (vector : List (Client × ℕ)) (runs : List Run) (t : Entry) : Type 0 where
  pub waits : is_held t ≡ false
  pub begins : t.id.clock ≡ clock_of vector t.id.client.0
  pub origins : (x : Id) → IsOriginOf x t.left t.right (carried_of runs t) → x.clock < clock_of vector x.client.0

same_clock : (m n : ℕ) → nat_eq m n ≡ true → m ≡ n
same_clock m n e = grind (arith, tests)

waits_is : (b : Bool) → not b ≡ true → b ≡ false
waits_is false e = refl
waits_is true e = absurd (true≢false (sym e))

pub ready_is : (vector : List (Client × ℕ)) (runs : List Run) (t : Entry) → is_ready vector runs t ≡ true → IsReady vector runs t
ready_is vector runs t e =
    let (waits, a) = both_hold (not (is_held t)) (nat_eq t.id.clock (clock_of vector t.id.client.0) && (is_none_or_below vector t.left
    && (is_none_or_below vector t.right && is_none_or_below vector (item_carried (carried_of runs t))))) e in
    let (begins, b) = both_hold (nat_eq t.id.clock (clock_of vector t.id.client.0)) (is_none_or_below vector t.left
    && (is_none_or_below vector t.right && is_none_or_below vector (item_carried (carried_of runs t)))) a in
    let (left, d) = both_hold (is_none_or_below vector t.left) (is_none_or_below vector t.right && is_none_or_below vector (item_carried (carried_of runs t))) b in
    let (right, item) = both_hold (is_none_or_below vector t.right) (is_none_or_below vector (item_carried (carried_of runs t))) d in
    record {
      waits = waits_is (is_held t) waits;
      begins = same_clock t.id.clock (clock_of vector t.id.client.0) begins;
      origins = λ x o. elim o [
        | inl f ↦ below_some vector t.left left x f
        | inr (inl f) ↦ below_some vector t.right right x f
        | inr (inr f) ↦ below_some vector (item_carried (carried_of runs t)) item x f
      ];
    }

-- ---- lemmas for callers

module _ (k : HeldValue) (h : IsHolding k) where
  abbrev held : List Operation
  held = held_of k.received

  pub is_written : IsWritten held
  is_written = chosen_written is_held k.received h.in_order

  pub has_needs : (o : Operation) → IsIn o held → (x : Id) → IsIn x (needs o) → has_operation held x ≡ true
  has_needs o i x j = subst (λ hs. has_operation hs x ≡ true) (sym h.own) (held_needs held o (subst (λ hs. IsIn o hs) h.own i) x j)

  pub has_sources : (o : Operation) → IsIn o held → (x : Id) → IsIn x (sources o) → has_operation held x ≡ true
  has_sources o i x j = has_needs o i x (source_needed o x j)

  -- what is held is held of all that is received
  pub id_of_all : (x : Id) → has_operation held x ≡ true → has_operation (held_set (taken_of k.received)) x ≡ true
  id_of_all x e = held_id_grows held (taken_of k.received) (chosen_received is_held k.received h.in_order) x (subst (λ hs. has_operation hs x ≡ true) h.own e)

  pub reached : AreReached (taken_of k.received) (clock_of k.vector)
  reached x lt = id_of_all x ((h.tells x).1 lt)

  -- what a held entry stands on is held
  pub origins_held : (t : Entry) → IsIn t k.received.entries → is_held t ≡ true → (x : Id) → IsOriginOf x t.left t.right (carried_of k.received.runs t) →
      has_operation held x ≡ true
  origins_held t i t_held x origin =
      let (o, j, first) = first_unit k.received.runs t (is_taken k.received h.in_order t i) in
      has_sources o (entry_chosen is_held k.received h.in_order t i t_held o j) x (elim origin [
        | inl e ↦ left_source o x (first.has_left ∙ e)
        | inr (inl e) ↦ right_source o x (first.has_right ∙ e)
        | inr (inr e) ↦ item_source o x (ap item_carried first.has_list ∙ e)
      ])
