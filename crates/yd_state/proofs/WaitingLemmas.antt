-- How much waits, entry by entry and span by span; and the counts of ids in maximal spans are in range.
use Rattle.std.proofs.Common.{◌≡◌, ℕ, zero, suc, ◌+◌, ◌-◌, ◌*◌, ◌^◌, ◌≤◌, Bool, true, false, List, [], ◌∷◌, ◌++◌, inl, inr, length, take, drop, refl, sym, ap, ◌∙◌, subst, arith}
use Rattle.std.specs.Prelude.{filter, slice_get, if◌then◌else◌}
use Rattle.std.specs.List.{sum_by}
use Rattle.std.proofs.lemmas.List.{length-append}
use Rattle.std.proofs.lemmas.List.Sums.{sum_by-cons}
use Rattle.yd_words.specs.Each.{Each}
use Rattle.yd_ids.specs.declared.id.Client.{Client}
use Rattle.yd_ids.specs.declared.id.Id.{Id}
use Rattle.yd_ids.specs.declared.id.Span.{Span}
use Rattle.yd_ids.specs.Id.{IsSpan}
use Rattle.yd_ids.specs.Span.{EndsBefore}
use Rattle.yd_ids.specs.Set.{AreMaximal}
use Rattle.yd_ids.specs.Vector.{clock_of}
use Rattle.yd_ops.specs.declared.runs.Run.{Run}
use Rattle.yd_ops.specs.Operation.{Operation, later_id, gone_from}
use Rattle.yd_ops.proofs.OperationLemmas.{length-operations_from}
use Rattle.yd_ops.specs.Received.{IsWritten}
use Rattle.yd_meaning.specs.Held.{held_set, held_clock, count_of_ids, named_count}
use Rattle.yd_entries.specs.declared.entry.Entry.{Entry}
use Rattle.yd_entries.specs.Entries.{units_of, list_at, operations_told, operations_of_taken, operations_in, TellsRight, IsTakenOf, is_held}
use Rattle.yd_received.specs.Received.{taken_of}
use Rattle.yd_held.specs.Held.{HeldValue, HoldsAll}
use Rattle.yd_state.specs.Waiting.{waiting_units, waiting_ids}
use Rattle.yd_entries.proofs.TakenLemmas.{units_taken}
use Rattle.yd_entries.proofs.WrittenLemmas.{taken_written}
use Rattle.yd_state.proofs.CountLemmas.{count_in, count_named}

-- ---- units

length-gone : (id : Id) (count : ℕ) → length (gone_from id count) ≡ count
length-gone id zero = refl
length-gone id (suc count) = ap suc (length-gone (later_id id 1) count)

length-taken : (runs : List Run) (t : Entry) → IsTakenOf runs t → length (operations_of_taken runs t) ≡ t.len
length-taken runs t is = go t.is_gone is.told
  where
    go : (b : Bool) → TellsRight b runs t → length (operations_told b runs t) ≡ t.len
    go true untold = length-gone t.id t.len
    go false told = length-operations_from t.id t.left t.right (list_at (slice_get runs t.run) t.offset) (take t.len (drop t.offset (units_of (slice_get runs t.run))))
        ∙ units_taken runs t told

-- the units that wait and those that are held are all units
units_parted : (runs : List Run) (ts : List Entry) → Each (IsTakenOf runs) ts →
    sum_by waiting_units ts + length (operations_in runs (filter is_held ts)) ≡ length (operations_in runs ts)
units_parted runs [] each = refl
units_parted runs (t ∷ ts) each = ap (λ n. n + length (operations_in runs (filter is_held (t ∷ ts)))) (sum_by-cons waiting_units t ts)
    ∙ go (is_held t) (units_parted runs ts each.1)
  where
    whole : length (operations_of_taken runs t ++ operations_in runs ts) ≡ t.len + length (operations_in runs ts)
    whole = length-append (operations_of_taken runs t) (operations_in runs ts) ∙ ap (λ n. n + length (operations_in runs ts)) (length-taken runs t each.0)

    go : (s : Bool) → sum_by waiting_units ts + length (operations_in runs (filter is_held ts)) ≡ length (operations_in runs ts) →
        ((if s then 0 else t.len) + sum_by waiting_units ts) + length (operations_in runs (if s then t ∷ filter is_held ts else filter is_held ts))
        ≡ length (operations_of_taken runs t ++ operations_in runs ts)
    go true e = omega (arith, e, whole, length-append (operations_of_taken runs t) (operations_in runs (filter is_held ts)), length-taken runs t each.0)
    go false e = omega (arith, e, whole)

-- ---- ids of spans

-- the ids that wait and those that are held are all ids
ids_parted : (vector : List (Client × ℕ)) (os : List Operation) → IsWritten os → ((client : ℕ) → clock_of vector client ≡ held_clock (held_set os) client) →
    (spans : List Span) → AreMaximal spans → sum_by (waiting_ids vector) spans + named_count spans (held_set os) ≡ count_of_ids spans
ids_parted vector os w clocks [] m = omega (arith, none (held_set os))
  where
    none : (ps : List Operation) → named_count [] ps ≡ 0
    none [] = refl
    none (p ∷ ps) = none ps
ids_parted vector os w clocks (span ∷ spans) m =
    let clock = clocks span.client.0 in
    let rest = ids_parted vector os w clocks spans m.3 in
    let one = count_in os w span in
    omega (arith, sum_by-cons (waiting_ids vector) span spans, count_named span spans m (held_set os), clock, rest, one)

-- ---- how many ids there can be

-- where a span begins, among all ids
position : Span → ℕ
position span = span.client.0 * 2 ^ 53 + span.clock

ends_by : (span next : Span) → IsSpan span → EndsBefore span next → position span + span.len ≤ position next
unfolding position
ends_by span next is (inl lt) = omega (arith, is.end)
ends_by span next is (inr b) = omega (arith, b.0, b.1)

ids_from : (span : Span) (spans : List Span) → AreMaximal (span ∷ spans) → position span + count_of_ids (span ∷ spans) ≤ 2 ^ 106
unfolding position
ids_from span [] m = omega (arith, m.0.client, m.0.end)
ids_from span (next ∷ spans) m = omega (arith, ids_from next spans m.3, ends_by span next m.0 m.2.0)

ids_bound : (spans : List Span) → AreMaximal spans → count_of_ids spans ≤ 2 ^ 106
ids_bound [] m = omega arith
ids_bound (span ∷ spans) m = omega (arith, ids_from span spans m)

ids_of_parts : (front back : List Span) → count_of_ids (front ++ back) ≡ count_of_ids front + count_of_ids back
ids_of_parts [] back = omega arith
ids_of_parts (span ∷ front) back = omega (arith, ids_of_parts front back)

waiting_most : (vector : List (Client × ℕ)) (spans : List Span) → sum_by (waiting_ids vector) spans ≤ count_of_ids spans
waiting_most vector [] = omega arith
waiting_most vector (span ∷ spans) = omega (arith, sum_by-cons (waiting_ids vector) span spans, waiting_most vector spans)

-- ---- lemmas for callers

-- the ids of the first spans that wait, and those of the next span, are not many
pub few_ids : (vector : List (Client × ℕ)) (spans front back rest : List Span) (span : Span) → AreMaximal spans → front ++ back ≡ spans → back ≡ span ∷ rest →
    sum_by (waiting_ids vector) front + span.len ≤ 2 ^ 106
few_ids vector spans front back rest span m all next = omega (
  arith,
  waiting_most vector front,
  ids_of_parts front (span ∷ rest),
  ids_bound (front ++ span ∷ rest) (subst AreMaximal (sym all ∙ ap (λ (behind : List Span). front ++ behind) next) m),
)

module _ (k : HeldValue) (holds : HoldsAll k) where
  -- entries that are not held are what waits of the operations
  pub units_wait : sum_by waiting_units k.received.entries ≡ length (taken_of k.received) - length (held_set (taken_of k.received))
  units_wait = omega (arith, units_parted k.received.runs k.received.entries holds.in_order.each, ap length holds.held)

  -- and the parts of spans that are not below the clocks, of the deletions
  pub ids_wait : (named : List Span) → AreMaximal named → sum_by (waiting_ids k.vector) named ≡ count_of_ids named - named_count named (held_set (taken_of k.received))
  ids_wait named m = omega (
    arith,
    ids_parted k.vector (taken_of k.received) (taken_written k.received.runs k.received.entries holds.in_order)
        (λ client. holds.counted client ∙ ap (λ h. held_clock h client) holds.held) named m,
  )
