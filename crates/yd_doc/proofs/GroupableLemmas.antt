-- What was received can be grouped.
use Rattle.std.proofs.Common.{◌≡◌, ℕ, zero, suc, ◌+◌, ◌<◌, ◌≤◌, Bool, true, false, List, [], ◌∷◌, Option, Some, None, length, take, drop, arith}
use Rattle.std.specs.Prelude.{IfSome, slice_get}
use Rattle.std.proofs.lemmas.List.{length-take-le, length-drop}
use Rattle.yd_words.specs.Each.{Each}
use Rattle.yd_words.specs.Member.{IsIn}
use Rattle.yd_words.proofs.EachLemmas.{each_append, each_front}
use Rattle.yd_words.proofs.MemberLemmas.{in_left_part, in_right_part}
use Rattle.yd_ids.specs.Id.{IsClient, IsClock, IsId}
use Rattle.yd_ops.specs.declared.runs.Run.{Run}
use Rattle.yd_ops.specs.Operation.{Operation, UnitContent, gone_operation, level_of, operations_from, units_of_content}
use Rattle.yd_ops.specs.Valid.{CarriesList, IsValidContent}
use Rattle.yd_ops.specs.View.{content_value}
use Rattle.yd_grouping.specs.Groupable.{AreGroupable, IsValidOperation, IsValidUnitContent}
use Rattle.yd_grouping.proofs.ValidLemmas.{content_valid, from_valid, gone_valid}
use Rattle.yd_entries.specs.declared.entry.Entry.{Entry}
use Rattle.yd_entries.specs.Entries.{IsTakenOf, TellsRight, list_at, operations_in, operations_of_taken, operations_told, units_of}
use Rattle.yd_state.specs.State.{IsSound, StateValue, received_in}

-- what is gone has its id alone
abbrev AreBare : List Operation → Type 0
AreBare os = (o : Operation) → IsIn o os → level_of o.content ≡ 0 → o ≡ gone_operation o.id

each_behind : {X : Type 0} (P : X → Type 0) (n : ℕ) (xs : List X) → Each P xs → Each P (drop n xs)
each_behind P zero xs each = each
each_behind P (suc n) [] each = tt
each_behind P (suc n) (x ∷ xs) each = each_behind P n xs each.1

-- units that are told of a run
told_valid : (t : Entry) (run : Option Run) → 0 < t.len → IsClient t.id.client → IsClock (t.id.clock + t.len) → IfSome t.left IsId → IfSome t.right IsId → t.offset + t.len ≤ length (units_of run) →
    CarriesList t.left t.right (list_at run t.offset) → IfSome run (λ (r : Run). IsValidContent (content_value r.content)) →
    AreBare (operations_from t.id t.left t.right (list_at run t.offset) (take t.len (drop t.offset (units_of run)))) →
    Each IsValidOperation (operations_from t.id t.left t.right (list_at run t.offset) (take t.len (drop t.offset (units_of run))))
told_valid t None some client end left right le list valid bare = absurd (omega (arith, some, le))
told_valid t (Some run) some client end left right le list valid bare =
    from_valid t.id t.left t.right (list_at (Some run) t.offset) (take t.len (drop t.offset units)) client (omega (arith, end, long)) left right list
    (each_front IsValidUnitContent (drop t.offset units) t.len (each_behind IsValidUnitContent t.offset units (content_valid (content_value run.content) valid))) bare
  where
    units : List UnitContent
    units = units_of_content (content_value run.content)

    long : length (take t.len (drop t.offset units)) ≡ t.len
    long = length-take-le t.len (drop t.offset units) (omega (arith, le, length-drop t.offset units))

entry_valid : (runs : List Run) (t : Entry) → IsTakenOf runs t → AreBare (operations_of_taken runs t) → Each IsValidOperation (operations_of_taken runs t)
entry_valid runs t is bare = go t.is_gone is.told bare
  where
    go : (gone : Bool) → TellsRight gone runs t → AreBare (operations_told gone runs t) → Each IsValidOperation (operations_told gone runs t)
    go true told b = gone_valid t.len t.id is.id.client is.end
    go false told b = told_valid t (slice_get runs t.run) is.has_units is.id.client is.end is.left is.right told.within told.list told.content b

entries_valid : (runs : List Run) (ts : List Entry) → Each (IsTakenOf runs) ts → AreBare (operations_in runs ts) → Each IsValidOperation (operations_in runs ts)
entries_valid runs [] each bare = tt
entries_valid runs (t ∷ ts) each bare = each_append IsValidOperation (operations_of_taken runs t) (operations_in runs ts)
    (entry_valid runs t each.0 (λ o i. bare o (in_left_part o (operations_of_taken runs t) (operations_in runs ts) i)))
    (entries_valid runs ts each.1 (λ o i. bare o (in_right_part o (operations_of_taken runs t) (operations_in runs ts) i)))

-- ---- lemmas for callers

-- what a sound state received can be grouped
pub state_groupable : (s : StateValue) → IsSound s → AreGroupable (received_in s).operations
state_groupable s sound = record {
  written = sound.received.written;
  valid = entries_valid s.held.received.runs s.held.received.entries sound.holds.in_order.each sound.received.bare;
  paired = sound.received.paired;
  rights = sound.received.rights;
}
