-- The smallest clock of a client that waits, entry by entry.
use Rattle.std.proofs.Common.{◌≡◌, ◌<◌, ◌≤◌, ℕ, zero, suc, Bool, true, false, ◌&&◌, ◌||◌, not, nat_eq, nat_lt, tests, List, [], ◌∷◌, ◌++◌, Option, Some, None, inl, inr, length, get_or, take, drop, refl, sym, ap, ap₂, ◌∙◌, subst, arith, true≢false}
use Rattle.std.specs.List.Sorted.{IsPartitionedBy}
use Rattle.std.specs.Prelude.{◌↔◌, slice_get, if◌then◌else◌}
use Rattle.yd_words.specs.Each.{Each}
use Rattle.yd_words.specs.Member.{IsIn}
use Rattle.yd_ids.specs.declared.id.Client.{Client}
use Rattle.yd_ids.specs.declared.id.Id.{Id}
use Rattle.yd_ids.specs.Vector.{clock_of}
use Rattle.yd_ops.specs.declared.runs.Run.{Run}
use Rattle.yd_ops.specs.Operation.{UnitContent, Operation, operations_from, gone_from}
use Rattle.yd_ops.specs.Received.{has_operation}
use Rattle.yd_editing.specs.Basis.{first_waiting}
use Rattle.yd_entries.specs.declared.entry.Entry.{Entry}
use Rattle.yd_entries.specs.Entries.{units_of, list_at, operations_told, operations_of_taken, operations_in, IsTakenOf, TellsRight, is_held, covers, StandsBefore, AreInOrder}
use Rattle.yd_received.specs.Received.{ReceivedValue, IsReceived, taken_of, held_of}
use Rattle.yd_entries.proofs.EntriesLemmas.{one_entry}
use Rattle.yd_entries.proofs.TakenLemmas.{units_taken}
use Rattle.yd_held.specs.Held.{HeldValue, HoldsAll}
use Rattle.yd_held.proofs.KeptLemmas.{holds_holding}
use Rattle.yd_held.proofs.HeldUnitLemmas.{covers_less, unit_covers}
use Rattle.yd_held.proofs.HeldEntryLemmas.{is_taken, chosen_id, id_chosen}
use Rattle.yd_making.specs.Waiting.{first_clock, is_passed, clock_if_of, IsHeldBelow}

-- whether an operation is one of the client's that waits
abbrev asked : List Operation → ℕ → Operation → Bool
asked held client o = nat_eq o.id.client.0 client && not (has_operation held o.id)

skipped : (held : List Operation) (client : ℕ) (os rest : List Operation) → ((o : Operation) → IsIn o os → asked held client o ≡ false) →
    first_waiting held client (os ++ rest) ≡ first_waiting held client rest
skipped held client [] rest none = refl
skipped held client (o ∷ os) rest none = ap (λ t. if t then Some o.id.clock else first_waiting held client (os ++ rest)) (none o (inl refl))
    ∙ skipped held client os rest (λ p i. none p (inr i))

-- the first operation of an entry has its id
pub record BeginsAt (os : List Operation) (id : Id) : Type 0 where
  pub first : Operation
  pub others : List Operation
  pub are : os ≡ first ∷ others
  pub is_first : first.id ≡ id

begins : (runs : List Run) (t : Entry) → IsTakenOf runs t → BeginsAt (operations_of_taken runs t) t.id
begins runs t is = go t.is_gone is.told
  where
    with_gone : (n : ℕ) → 0 < n → BeginsAt (gone_from t.id n) t.id
    with_gone zero some = absurd (omega (arith, some))
    with_gone (suc n) some = record { first = _; others = _; are = refl; is_first = refl }

    with_units : (us : List UnitContent) → 0 < length us → BeginsAt (operations_from t.id t.left t.right (list_at (slice_get runs t.run) t.offset) us) t.id
    with_units [] some = absurd (omega (arith, some))
    with_units (u ∷ us) some = record { first = _; others = _; are = refl; is_first = refl }

    go : (b : Bool) → TellsRight b runs t → BeginsAt (operations_told b runs t) t.id
    go true untold = with_gone t.len is.has_units
    go false told = with_units (take t.len (drop t.offset (units_of (slice_get runs t.run)))) (omega (arith, units_taken runs t told, is.has_units))

module _ (r : ReceivedValue) (is : IsReceived r) (client : ℕ) where
  abbrev held : List Operation
  held = held_of r

  -- a unit is held exactly where its entry is
  unit_held : (t : Entry) → IsIn t r.entries → (o : Operation) → IsIn o (operations_of_taken r.runs t) → has_operation held o.id ≡ is_held t
  unit_held t i o j = go (is_held t) refl (has_operation held o.id) refl
    where
      own : covers t o.id ≡ true
      own = unit_covers r.runs t (is_taken r is t i) o j

      go : (b : Bool) → is_held t ≡ b → (u : Bool) → has_operation held o.id ≡ u → u ≡ b
      go true e u f = sym f ∙ chosen_id is_held r is t o.id i e own
      go false e true f = let (s, k, passes, c) = id_chosen is_held r is o.id f in
          absurd (true≢false (sym passes ∙ ap is_held (one_entry r.entries is.in_order s t o.id k i c own) ∙ e))
      go false e false f = refl

  unit_asked : (t : Entry) → IsIn t r.entries → (o : Operation) → IsIn o (operations_of_taken r.runs t) →
      asked held client o ≡ (nat_eq t.id.client.0 client && not (is_held t))
  unit_asked t i o j = ap₂ (λ c h. nat_eq c client && not h) (sym (covers_less t o.id (unit_covers r.runs t (is_taken r is t i) o j)).0) (unit_held t i o j)

  waiting_in : (ts : List Entry) → ((t : Entry) → IsIn t ts → IsIn t r.entries) → first_waiting held client (operations_in r.runs ts) ≡ first_clock client ts
  waiting_in [] among = refl
  waiting_in (t ∷ ts) among = go (nat_eq t.id.client.0 client && not (is_held t)) refl (waiting_in ts (λ s i. among s (inr i)))
    where
      there : IsIn t r.entries
      there = among t (inl refl)

      front : BeginsAt (operations_of_taken r.runs t) t.id
      front = begins r.runs t (is_taken r is t there)

      go : (b : Bool) → (nat_eq t.id.client.0 client && not (is_held t)) ≡ b → first_waiting held client (operations_in r.runs ts) ≡ first_clock client ts →
          first_waiting held client (operations_of_taken r.runs t ++ operations_in r.runs ts) ≡ (if b then Some t.id.clock else first_clock client ts)
      go true e rest = ap (λ os. first_waiting held client (os ++ operations_in r.runs ts)) front.are
          ∙ ap (λ u. if u then Some front.first.id.clock else first_waiting held client (front.others ++ operations_in r.runs ts))
          (unit_asked t there front.first (subst (IsIn front.first) (sym front.are) (inl refl)) ∙ e)
          ∙ ap (λ (x : Id). Some x.clock) front.is_first
      go false e rest = skipped held client (operations_of_taken r.runs t) (operations_in r.runs ts) (λ o j. unit_asked t there o j ∙ e) ∙ rest

  -- the first of the client's entries that waits
  pub waiting_is : first_waiting held client (taken_of r) ≡ first_clock client r.entries
  waiting_is = waiting_in r.entries (λ t i. i)

-- ---- the entry that is found

-- behind an entry of a smaller client stands none of the client
none_after : (client : ℕ) (t : Entry) (ts : List Entry) → Each (StandsBefore t) ts → t.id.client.0 < client → None ≡ first_clock client ts
none_after client t [] before less = refl
none_after client t (s ∷ ss) before less =
    none_after client t ss before.1 less ∙ sym (ap (λ b. if b && not (is_held s) then Some s.id.clock else first_clock client ss) (other before.0))
  where
    other : StandsBefore t s → nat_eq s.id.client.0 client ≡ false
    other (inl lt) = grind (arith, tests)
    other (inr same) = let e = ap (λ (c : Client). c.0) same.0 in grind (arith, tests)

-- the first that is not passed has the clock, if it is the client's
pub first_not_passed : (client reached : ℕ) (ts : List Entry) (at : ℕ) → AreInOrder ts → Each (IsHeldBelow client reached) ts →
    Each (λ t. is_passed client reached t ≡ true) (take at ts) → Each (λ t. is_passed client reached t ≡ false) (drop at ts) →
    clock_if_of client (slice_get ts at) ≡ first_clock client ts
first_not_passed client reached [] at order held before behind = refl
first_not_passed client reached (t ∷ ts) zero order held before behind = go (nat_eq t.id.client.0 client) refl
  where
    go : (b : Bool) → nat_eq t.id.client.0 client ≡ b →
        (if b then Some t.id.clock else None) ≡ (if b && not (is_held t) then Some t.id.clock else first_clock client ts)
    go true e =
        let same : t.id.client.0 ≡ client = grind (arith, tests) in
        let past : nat_lt t.id.clock reached ≡ false = passed_not (nat_lt client t.id.client.0) (nat_eq t.id.client.0 client) (nat_lt t.id.clock reached) e behind.0 in
        sym (ap (λ h. if not h then Some t.id.clock else first_clock client ts) (held.0 same ∙ past))
      where
        passed_not : (a b c : Bool) → b ≡ true → (a || (b && c)) ≡ false → c ≡ false
        passed_not true b c f g = absurd (true≢false g)
        passed_not false true c f g = g
        passed_not false false c f g = absurd (true≢false (sym f))
    go false e = none_after client t ts order.0 (less (nat_lt client t.id.client.0) refl)
      where
        less : (a : Bool) → nat_lt client t.id.client.0 ≡ a → t.id.client.0 < client
        less true f = absurd (true≢false (sym (ap (λ a. a || (nat_eq t.id.client.0 client && nat_lt t.id.clock reached)) f) ∙ behind.0))
        less false f = grind (arith, tests)
first_not_passed client reached (t ∷ ts) (suc at) order held before behind =
    first_not_passed client reached ts at order.1 held.1 before.1 behind ∙ sym (ap (λ b. if b then Some t.id.clock else first_clock client ts) (off (nat_eq t.id.client.0 client) refl))
  where
    off : (b : Bool) → nat_eq t.id.client.0 client ≡ b → (nat_eq t.id.client.0 client && not (is_held t)) ≡ false
    off true e =
        let same : t.id.client.0 ≡ client = grind (arith, tests) in
        let low : nat_lt t.id.clock reached ≡ true = passed_low (nat_lt client t.id.client.0) (nat_lt t.id.clock reached) refl before.0 in
        ap (λ b. b && not (is_held t)) e ∙ ap not (held.0 same ∙ low)
      where
        passed_low : (a c : Bool) → nat_lt client t.id.client.0 ≡ a → (a || (nat_eq t.id.client.0 client && c)) ≡ true → c ≡ true
        passed_low true c f g = (let le : t.id.client.0 ≡ client = grind (arith, tests) in absurd (grind (arith, tests)))
        passed_low false true f g = refl
        passed_low false false f g = absurd (true≢false (sym g ∙ ap (λ b. b && false) e))
    off false e = ap (λ b. b && not (is_held t)) e

-- an entry is held where it begins below what its client has reached
pub held_below : (k : HeldValue) → HoldsAll k → (client : ℕ) (t : Entry) → IsIn t k.received.entries → IsHeldBelow client (clock_of k.vector client) t
held_below k all client t i same =
    let front = begins k.received.runs t (is_taken k.received all.in_order t i) in
    let u : has_operation (held_of k.received) t.id ≡ is_held t =
    ap (has_operation (held_of k.received)) (sym front.is_first)
    ∙ unit_held k.received all.in_order client t i front.first (subst (IsIn front.first) (sym front.are) (inl refl)) in
    sym u ∙ go (nat_lt t.id.clock (clock_of k.vector client)) refl (has_operation (held_of k.received) t.id) refl
  where
    tells : has_operation (held_of k.received) t.id ≡ true ↔ t.id.clock < clock_of k.vector t.id.client.0
    tells = (holds_holding k all).tells t.id

    go : (b : Bool) → nat_lt t.id.clock (clock_of k.vector client) ≡ b → (h : Bool) → has_operation (held_of k.received) t.id ≡ h → h ≡ b
    go true e true f = refl
    go true e false f =
        let less : t.id.clock < clock_of k.vector client = grind (arith, tests) in
        sym f ∙ tells.1 (subst (λ c. t.id.clock < clock_of k.vector c) (sym same) less)
    go false e true f =
        let less : t.id.clock < clock_of k.vector client = subst (λ c. t.id.clock < clock_of k.vector c) same (tells.0 f) in
        absurd (grind (arith, tests))
    go false e false f = refl

-- ---- those that are passed come first

passed_through : (client reached : ℕ) (s t : Entry) → StandsBefore s t → is_passed client reached t ≡ true → is_passed client reached s ≡ true
passed_through client reached s t (inl lt) e = grind (arith, tests)
passed_through client reached s t (inr same) e = let f = ap (λ (c : Client). c.0) same.0 in grind (arith, tests)

parted_from : (client reached : ℕ) (s : Entry) (ts : List Entry) → Each (StandsBefore s) ts → (j : ℕ) (d : Entry) → j < length ts →
    is_passed client reached (get_or ts j d) ≡ true → is_passed client reached s ≡ true
parted_from client reached s [] each j d lt e = absurd (omega (arith, lt))
parted_from client reached s (t ∷ ts) each zero d lt e = passed_through client reached s t each.0 e
parted_from client reached s (t ∷ ts) each (suc j) d lt e = parted_from client reached s ts each.1 j d (omega (arith, lt)) e

pub passed_parted : (client reached : ℕ) (ts : List Entry) → AreInOrder ts → IsPartitionedBy (is_passed client reached) ts
passed_parted client reached [] order i j d le lt e = absurd (omega (arith, lt))
passed_parted client reached (t ∷ ts) order zero zero d le lt e = e
passed_parted client reached (t ∷ ts) order zero (suc j) d le lt e = parted_from client reached t ts order.0 j d (omega (arith, lt)) e
passed_parted client reached (t ∷ ts) order (suc i) zero d le lt e = absurd (omega (arith, le))
passed_parted client reached (t ∷ ts) order (suc i) (suc j) d le lt e = passed_parted client reached ts order.1 i j d (omega (arith, le)) (omega (arith, lt)) e
