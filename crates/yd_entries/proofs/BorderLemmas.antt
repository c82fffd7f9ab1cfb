-- Where no entry has units on both sides of an id, a cut there parts no pair.
use Rattle.std.proofs.Common.{◌≡◌, ℕ, ◌+◌, ◌<◌, Bool, true, false, List, [], ◌∷◌, take, drop, map, Option, Some, None, ◌⊎◌, inl, inr, refl, sym, ap, ap₂, ◌∙◌, subst, arith}
use Rattle.std.specs.Prelude.{slice_get, IfSome}
use Rattle.yd_words.specs.Each.{Each}
use Rattle.yd_words.specs.Member.{IsIn}
use Rattle.yd_ids.specs.declared.id.Id.{Id}
use Rattle.yd_ops.specs.declared.runs.Run.{Run}
use Rattle.yd_ops.specs.Operation.{UnitContent, Operation, later_id, IsHighUnit, IsLowUnit}
use Rattle.yd_ops.specs.Valid.{IsValidContent}
use Rattle.yd_ops.specs.View.{content_value}
use Rattle.yd_ops.proofs.PartnerLemmas.{IsHalf}
use Rattle.yd_entries.specs.declared.entry.Entry.{Entry}
use Rattle.yd_entries.specs.Entries.{units_of, list_at, PartsPair, operations_told, operations_of_taken, operations_in, TellsRight, IsTakenOf}
use Rattle.yd_entries.specs.Lowering.{torn_at, IsBeside}
use Rattle.yd_entries.proofs.CutLemmas.{low_cut, high_cut}
use Rattle.yd_entries.proofs.PieceLemmas.{get_in_take, get_in_drop}
use Rattle.yd_entries.proofs.StepLemmas.{gone_no_half}
use Rattle.yd_entries.proofs.TakenLemmas.{units_taken}
use Rattle.yd_entries.proofs.TornLemmas.{IsBorder, border_half, torn_at_other}
use Rattle.yd_entries.proofs.UnitLemmas.{from_unit, from_gone}
use Rattle.yd_entries.proofs.WrittenLemmas.{each_operation}

-- a function that changes none of the operations
pub map_alike : (f : Operation → Operation) (os : List Operation) → ((o : Operation) → IsIn o os → f o ≡ o) → map f os ≡ os
map_alike f [] same = refl
map_alike f (o ∷ os) same = ap₂ (λ p ps. p ∷ ps) (same o (inl refl)) (map_alike f os (λ p i. same p (inr i)))

-- ---- one entry

-- the last unit is no high half, and the first no low one
by_place : (t : Entry) (x : Id) (o : Operation) (k : ℕ) → IsBeside x t → k < t.len → o.id ≡ later_id t.id k → IsBorder x o →
    (IsHighUnit o.content × (k + 1 ≡ t.len)) ⊎ (IsLowUnit o.content × (k ≡ 0))
by_place t x o k beside lt e (inl (high, next)) =
    let client = ap (λ (y : Id). y.client.0) e in let clock = ap (λ (y : Id). y.clock) e in let also = ap (λ (y : Id). y.client.0) next in let then = ap (λ (y : Id). y.clock) next in
    elim beside [
      | inl ends ↦ inl (high, elim ends [ inl other ↦ absurd (omega (arith, other, client, also)) | inr (one, le) ↦ omega (arith, le, clock, then, lt) ])
      | inr begins ↦ absurd (elim begins [ inl other ↦ omega (arith, other, client, also) | inr (one, le) ↦ omega (arith, le, clock, then) ])
    ]
by_place t x o k beside lt e (inr (low, here)) =
    let client = ap (λ (y : Id). y.client.0) e in let clock = ap (λ (y : Id). y.clock) e in let also = ap (λ (y : Id). y.client.0) here in let then = ap (λ (y : Id). y.clock) here in
    elim beside [
      | inl ends ↦ absurd (elim ends [ inl other ↦ omega (arith, other, client, also) | inr (one, le) ↦ omega (arith, le, clock, then, lt) ])
      | inr begins ↦ inr (low, elim begins [ inl other ↦ absurd (omega (arith, other, client, also)) | inr (one, le) ↦ omega (arith, le, clock, then) ])
    ]

unit_of : (t : Entry) (r : Option Run) (k : ℕ) (unit : UnitContent) → slice_get (take t.len (drop t.offset (units_of r))) k ≡ Some unit →
    slice_get (units_of r) (t.offset + k) ≡ Some unit
unit_of t r k unit u = sym (get_in_drop t.offset (units_of r) k) ∙ get_in_take t.len (drop t.offset (units_of r)) k unit u

in_run : (t : Entry) (r : Option Run) (k : ℕ) (unit : UnitContent) → IfSome r (λ (run : Run). IsValidContent (content_value run.content)) →
    IfSome r (λ (run : Run). PartsPair (content_value run.content) t.offset → ⊥) → IfSome r (λ (run : Run). PartsPair (content_value run.content) (t.offset + t.len) → ⊥) →
    slice_get (units_of r) (t.offset + k) ≡ Some unit → (IsHighUnit unit × (k + 1 ≡ t.len)) ⊎ (IsLowUnit unit × (k ≡ 0)) → ⊥
in_run t None k unit valid begins ends u side = none_there u
  where
    none_there : slice_get {X = UnitContent} [] (t.offset + k) ≡ Some unit → ⊥
    none_there e = absurd cc
in_run t (Some run) k unit valid begins ends u (inl (high, last)) =
    let same : t.offset + k + 1 ≡ t.offset + t.len = omega (arith, last) in
    ends (subst (PartsPair (content_value run.content)) same (high_cut (content_value run.content) (t.offset + k) unit valid u high))
in_run t (Some run) k unit valid begins ends u (inr (low, first)) =
    let same : t.offset + k ≡ t.offset = omega (arith, first) in
    begins (subst (PartsPair (content_value run.content)) same (low_cut (content_value run.content) (t.offset + k) unit valid u low))

not_border : (runs : List Run) (t : Entry) (x : Id) → IsTakenOf runs t → IsBeside x t → (o : Operation) → IsIn o (operations_of_taken runs t) → IsBorder x o → ⊥
not_border runs t x is beside o i border = go t.is_gone is.told i
  where
    go : (gone : Bool) → TellsRight gone runs t → IsIn o (operations_told gone runs t) → ⊥
    go true told i = let (k, lt, e) = from_gone t.id t.len o i in
        gone_no_half (later_id t.id k) (subst (λ (q : Operation). IsHalf q.content) e (border_half x o border))
    go false told i =
        let (k, lt, e, u) = from_unit t.id t.left t.right (list_at (slice_get runs t.run) t.offset) (take t.len (drop t.offset (units_of (slice_get runs t.run)))) o i in
        in_run t (slice_get runs t.run) k o.content told.content told.begins_whole told.ends_whole (unit_of t (slice_get runs t.run) k o.content u)
        (by_place t x o k beside (omega (arith, lt, units_taken runs t told)) e border)

-- ---- all of them

-- a cut where no entry has units on both sides tears nothing
pub torn_none : (runs : List Run) (ts : List Entry) (x : Id) → Each (IsTakenOf runs) ts → Each (IsBeside x) ts → map (torn_at x) (operations_in runs ts) ≡ operations_in runs ts
torn_none runs ts x each beside = map_alike (torn_at x) (operations_in runs ts) (each_operation runs (λ o. torn_at x o ≡ o) ts (both ts each beside))
  where
    both : (ts : List Entry) → Each (IsTakenOf runs) ts → Each (IsBeside x) ts → Each (λ (t : Entry). (o : Operation) → IsIn o (operations_of_taken runs t) → torn_at x o ≡ o) ts
    both [] each beside = tt
    both (t ∷ ts) each beside = ((λ o i. torn_at_other x o (not_border runs t x each.0 beside.0 o i)), both ts each.1 beside.1)
