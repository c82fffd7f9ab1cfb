-- What was taken of kept runs: its ids, its order, and that more runs behind the others change nothing.
use Rattle.std.proofs.Common.{◌≡◌, ℕ, zero, suc, ◌+◌, ◌<◌, ◌≤◌, Bool, true, false, ◌||◌, ◌&&◌, nat_eq, nat_le, nat_lt, List, [], ◌∷◌, ◌++◌, length, take, drop, min, Option, Some, None, inl, inr, refl, sym, ap, ◌∙◌, subst, arith, tests, append_assoc, append-nil, length-append, length-drop, length-take}
use Rattle.std.specs.Prelude.{slice_get, IfSome}
use Rattle.yd_words.specs.Each.{Each}
use Rattle.yd_words.specs.Member.{IsIn}
use Rattle.yd_words.proofs.EachLemmas.{each_weaker}
use Rattle.yd_words.proofs.MemberLemmas.{in_parts}
use Rattle.yd_ids.specs.declared.id.Id.{Id}
use Rattle.yd_ids.specs.Ids.{is_written_before}
use Rattle.yd_ops.specs.declared.lists.List.{List as DocList}
use Rattle.yd_ops.specs.declared.runs.Run.{Run}
use Rattle.yd_ops.specs.Valid.{CarriesList, IsValidContent}
use Rattle.yd_ops.specs.View.{content_value}
use Rattle.yd_ops.specs.Operation.{UnitContent, Operation, later_id, operations_from}
use Rattle.yd_ops.specs.Received.{has_operation, IsWritten}
use Rattle.yd_entries.specs.declared.entry.Entry.{Entry}
use Rattle.yd_entries.specs.Entries.{units_of, list_at, PartsPair, operations_told, operations_of_taken, operations_in, IsTold, TellsRight, IsTakenOf, StandsBefore, AreInOrder, covers, GrowBy}
use Rattle.yd_entries.specs.Taking.{is_covered, HasUnits}
use Rattle.yd_ops.proofs.SpellingLemmas.{gone_written}
use Rattle.yd_entries.proofs.UnitLemmas.{from_unit, has_from, has_parts, from_gone, has_gone}

-- ---- its ids

-- an entry of a run has as many units as it says
pub units_taken : (runs : List Run) (t : Entry) → IsTold runs t → length (take t.len (drop t.offset (units_of (slice_get runs t.run)))) ≡ t.len
units_taken runs t told =
    length-take t.len (drop t.offset (units_of (slice_get runs t.run)))
    ∙ ap (λ n. min t.len n) (length-drop t.offset (units_of (slice_get runs t.run)))
    ∙ omega (arith, told.within)

-- the ids of an entry are those of its operations
pub has_taken : (runs : List Run) (t : Entry) (x : Id) → IsTakenOf runs t → has_operation (operations_of_taken runs t) x ≡ covers t x
has_taken runs t x is = go t.is_gone is.told
  where
    go : (gone : Bool) → TellsRight gone runs t → has_operation (operations_told gone runs t) x ≡ covers t x
    go true told = has_gone t.id t.len x
    go false told =
        has_from t.id t.left t.right (list_at (slice_get runs t.run) t.offset) (take t.len (drop t.offset (units_of (slice_get runs t.run)))) x
        ∙ ap (λ n. nat_eq t.id.client.0 x.client.0 && (nat_le t.id.clock x.clock && nat_lt x.clock (t.id.clock + n))) (units_taken runs t told)

-- an operation of an entry has one of its ids
pub taken_id : (runs : List Run) (t : Entry) (o : Operation) → IsTakenOf runs t → IsIn o (operations_of_taken runs t) → (i : ℕ) × (i < t.len) × (o.id ≡ later_id t.id i)
taken_id runs t o is j = go t.is_gone is.told j
  where
    go : (gone : Bool) → TellsRight gone runs t → IsIn o (operations_told gone runs t) → (i : ℕ) × (i < t.len) × (o.id ≡ later_id t.id i)
    go true told j = let (i, lt, e) = from_gone t.id t.len o j in (i, lt, ap (λ (q : Operation). q.id) e)
    go false told j =
        let (i, lt, e, u) = from_unit t.id t.left t.right (list_at (slice_get runs t.run) t.offset) (take t.len (drop t.offset (units_of (slice_get runs t.run)))) o j in
        (i, omega (arith, units_taken runs t told), e)

-- the ids that entries have are those of their operations
pub has_covered : (runs : List Run) (ts : List Entry) (x : Id) → Each (IsTakenOf runs) ts → has_operation (operations_in runs ts) x ≡ is_covered ts x
has_covered runs [] x each = refl
has_covered runs (t ∷ ts) x each =
    has_parts (operations_of_taken runs t) (operations_in runs ts) x
    ∙ ap (λ a. a || has_operation (operations_in runs ts) x) (has_taken runs t x each.0)
    ∙ ap (λ a. covers t x || a) (has_covered runs ts x each.1)

pub taken_units : (runs : List Run) (ts : List Entry) → Each (IsTakenOf runs) ts → Each HasUnits ts
taken_units runs ts each = each_weaker (IsTakenOf runs) HasUnits (λ t is. is.has_units) ts each

-- ---- its order

before_in : (s t : Entry) (i j : ℕ) → StandsBefore s t → i < s.len → is_written_before (later_id s.id i) (later_id t.id j) ≡ true
before_in s t i j (inl lt) less = grind (arith, tests)
before_in s t i j (inr (same, le)) less = let e : s.id.client.0 ≡ t.id.client.0 = ap (λ c. c.0) same in grind (arith, tests)

before_all : (runs : List Run) (s : Entry) (ts : List Entry) (o p : Operation) → IsTakenOf runs s → Each (IsTakenOf runs) ts → Each (StandsBefore s) ts →
    IsIn o (operations_of_taken runs s) → IsIn p (operations_in runs ts) → is_written_before o.id p.id ≡ true
before_all runs s [] o p is each before i j = absurd j
before_all runs s (t ∷ ts) o p is each before i j = elim (in_parts p (operations_of_taken runs t) (operations_in runs ts) j) [
  | inl k ↦
      let (m, lt, e) = taken_id runs s o is i in
      let (n, less, f) = taken_id runs t p each.0 k in
      subst (λ x. is_written_before x p.id ≡ true) (sym e) (subst (λ y. is_written_before (later_id s.id m) y ≡ true) (sym f) (before_in s t m n before.0 lt))
  | inr k ↦ before_all runs s ts o p is each.1 before.1 i k
]

written_both : (os ps : List Operation) → IsWritten os → IsWritten ps → ((o p : Operation) → IsIn o os → IsIn p ps → is_written_before o.id p.id ≡ true) → IsWritten (os ++ ps)
written_both [] ps v w before = w
written_both (o ∷ os) ps v w before = (
  (λ p i. elim (in_parts p os ps i) [ inl j ↦ v.0 p j | inr j ↦ before o p (inl refl) j ]),
  written_both os ps v.1 w (λ q p i j. before q p (inr i) j),
)

first_written : (id : Id) (i : ℕ) → is_written_before id (later_id (later_id id 1) i) ≡ true
first_written id i = grind (arith, tests)

from_written : (id : Id) (left right : Option Id) (list : Option DocList) (units : List UnitContent) → IsWritten (operations_from id left right list units)
from_written id left right list [] = tt
from_written id left right list (unit ∷ units) = (
  (λ p j. let (i, lt, e, u) = from_unit (later_id id 1) (Some id) right None units p j in subst (λ x. is_written_before id x ≡ true) (sym e) (first_written id i)),
  from_written (later_id id 1) (Some id) right None units,
)

-- those of an entry are in the order of writing
pub entry_written : (runs : List Run) (t : Entry) → IsWritten (operations_of_taken runs t)
entry_written runs t = go t.is_gone
  where
    go : (gone : Bool) → IsWritten (operations_told gone runs t)
    go true = gone_written t.len t.id
    go false = from_written t.id t.left t.right (list_at (slice_get runs t.run) t.offset) (take t.len (drop t.offset (units_of (slice_get runs t.run))))

-- entries in order have their operations in the order of writing
pub in_written : (runs : List Run) (ts : List Entry) → Each (IsTakenOf runs) ts → AreInOrder ts → IsWritten (operations_in runs ts)
in_written runs [] each order = tt
in_written runs (t ∷ ts) each order =
    written_both (operations_of_taken runs t) (operations_in runs ts)
    (entry_written runs t)
    (in_written runs ts each.1 order.1)
    (λ o p i j. before_all runs t ts o p each.0 each.1 order.0 i j)

-- ---- entries one behind another

pub operations_in-append : (runs : List Run) (ss ts : List Entry) → operations_in runs (ss ++ ts) ≡ operations_in runs ss ++ operations_in runs ts
operations_in-append runs [] ts = refl
operations_in-append runs (s ∷ ss) ts =
    ap (λ os. operations_of_taken runs s ++ os) (operations_in-append runs ss ts)
    ∙ sym (append_assoc (operations_of_taken runs s) (operations_in runs ss) (operations_in runs ts))

-- ---- more runs

pub slice_get-append : {X : Type 0} (xs ys : List X) (i : ℕ) → i < length xs → slice_get (xs ++ ys) i ≡ slice_get xs i
slice_get-append [] ys i lt = absurd (omega arith)
slice_get-append (x ∷ xs) ys zero lt = refl
slice_get-append (x ∷ xs) ys (suc i) lt = slice_get-append xs ys i (omega arith)

pub grown_get : (old new : List Run) (i : ℕ) → GrowBy old new → i < length old → slice_get new i ≡ slice_get old i
grown_get old new i (more, e) lt = ap (λ runs. slice_get runs i) e ∙ slice_get-append old more i lt

pub grown_operations : (old new : List Run) (t : Entry) → GrowBy old new → t.run < length old → operations_of_taken new t ≡ operations_of_taken old t
grown_operations old new t grow lt = go t.is_gone
  where
    go : (gone : Bool) → operations_told gone new t ≡ operations_told gone old t
    go true = refl
    go false = ap (λ run. operations_from t.id t.left t.right (list_at run t.offset) (take t.len (drop t.offset (units_of run)))) (grown_get old new t.run grow lt)

pub grown_taken : (old new : List Run) (t : Entry) → GrowBy old new → IsTakenOf old t → IsTakenOf new t
grown_taken old new t (more, e) is = record {
  run_there = omega (arith, is.run_there, ap length e, length-append old more);
  client = subst (λ run. IfSome run (λ (r : Run). r.id.client ≡ t.id.client)) (sym same) is.client;
  has_units = is.has_units;
  id = is.id;
  end = is.end;
  left = is.left;
  right = is.right;
  told = told t.is_gone is.told;
}
  where
    same : slice_get new t.run ≡ slice_get old t.run
    same = grown_get old new t.run (more, e) is.run_there

    told : (gone : Bool) → TellsRight gone old t → TellsRight gone new t
    told true k = record { left = k.left; right = k.right }
    told false k = record {
      within = subst (λ run. t.offset + t.len ≤ length (units_of run)) (sym same) k.within;
      fits = k.fits;
      list = subst (λ run. CarriesList t.left t.right (list_at run t.offset)) (sym same) k.list;
      content = subst (λ run. IfSome run (λ (r : Run). IsValidContent (content_value r.content))) (sym same) k.content;
      begins_whole = subst (λ run. IfSome run (λ (r : Run). PartsPair (content_value r.content) t.offset → ⊥)) (sym same) k.begins_whole;
      ends_whole = subst (λ run. IfSome run (λ (r : Run). PartsPair (content_value r.content) (t.offset + t.len) → ⊥)) (sym same) k.ends_whole;
    }

pub grown_each : (old new : List Run) (ts : List Entry) → GrowBy old new → Each (IsTakenOf old) ts → Each (IsTakenOf new) ts
grown_each old new ts grow each = each_weaker (IsTakenOf old) (IsTakenOf new) (λ t is. grown_taken old new t grow is) ts each

pub grown_in : (old new : List Run) (ts : List Entry) → GrowBy old new → Each (IsTakenOf old) ts → operations_in new ts ≡ operations_in old ts
grown_in old new [] grow each = refl
grown_in old new (t ∷ ts) grow each =
    ap (λ os. os ++ operations_in new ts) (grown_operations old new t grow each.0.run_there)
    ∙ ap (λ os. operations_of_taken old t ++ os) (grown_in old new ts grow each.1)

pub grow_none : (runs : List Run) → GrowBy runs runs
grow_none runs = ([], sym (append-nil runs))

pub grow_more : (a b c : List Run) → GrowBy a b → GrowBy b c → GrowBy a c
grow_more a b c (more, e) (others, f) = (more ++ others, f ∙ ap (λ xs. xs ++ others) e ∙ append_assoc a more others)
