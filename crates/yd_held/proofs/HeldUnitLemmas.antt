-- The operations of an entry: their ids are those that it covers, and each but the first has the one before it as its left origin, unless it is gone.
use Rattle.std.proofs.Common.{◌≡◌, ℕ, zero, suc, ◌+◌, ◌<◌, ◌≤◌, Bool, true, false, List, [], ◌∷◌, ◌⊎◌, inl, inr, Option, Some, None, length, take, drop, refl, sym, ap, ◌∙◌, arith, tests}
use Rattle.std.specs.Prelude.{slice_get, nat_eq}
use Rattle.std.proofs.lemmas.Bool.{cases_Bool}
use Rattle.yd_words.specs.Member.{IsIn}
use Rattle.yd_ids.specs.declared.id.Client.{Client}
use Rattle.yd_ids.specs.declared.id.Id.{Id}
use Rattle.yd_ids.proofs.IdLemmas.{same_numbers}
use Rattle.yd_ops.specs.declared.lists.List.{List as DocList}
use Rattle.yd_ops.specs.declared.runs.Run.{Run}
use Rattle.yd_ops.specs.Operation.{UnitContent, Operation, later_id, operations_from, gone_operation, gone_from}
use Rattle.yd_ops.specs.Value.{ContentValue, json, binary, string, embed, format, nested, any, deleted}
use Rattle.yd_ops.specs.View.{content_value}
use Rattle.yd_ops.proofs.OneOfLemmas.{id_is_there}
use Rattle.yd_meaning.specs.Held.{is_gone}
use Rattle.yd_entries.specs.declared.entry.Entry.{Entry}
use Rattle.yd_entries.specs.declared.place.Place.{Place}
use Rattle.yd_entries.specs.Entries.{units_of, list_at, operations_told, operations_of_taken, carried_of, covers, IsTakenOf, TellsRight}
use Rattle.yd_received.specs.Received.{with_place}
use Rattle.yd_entries.proofs.EntryLemmas.{covers_in}
use Rattle.yd_entries.proofs.ScanLemmas.{taken_level, taken_at}
use Rattle.yd_entries.proofs.TakenLemmas.{has_taken}
use Rattle.yd_entries.specs.Lowering.{level_of_content, level_of_run, level_told}

abbrev pub id_at : Client → ℕ → Id
id_at client k = record { client = client; clock = k }

-- the operation is the first of the entry
pub record IsFirst (runs : List Run) (t : Entry) (o : Operation) : Type 0 where
  pub has_id : o.id ≡ t.id
  pub has_left : o.left_origin ≡ t.left
  pub has_right : o.right_origin ≡ t.right
  pub has_list : o.list ≡ carried_of runs t

-- the operation is a later one, and follows the clock
pub record Follows (t : Entry) (o : Operation) (k : ℕ) : Type 0 where
  pub above : t.id.clock ≤ k
  pub below : suc k < t.id.clock + t.len
  pub has_id : o.id ≡ id_at t.id.client (suc k)
  pub has_left : (o.left_origin ≡ Some (id_at t.id.client k)) ⊎ ((t.is_gone ≡ true) × (o.left_origin ≡ None))
  pub has_right : o.right_origin ≡ t.right
  pub has_list : o.list ≡ None

-- ---- units that are told, from an id on

-- the operation is one behind the first, and follows the clock
record IsBehind (id : Id) (right : Option Id) (o : Operation) (k : ℕ) : Type 0 where
  above : id.clock ≤ k
  has_id : o.id ≡ id_at id.client (suc k)
  has_left : o.left_origin ≡ Some (id_at id.client k)
  has_right : o.right_origin ≡ right
  has_list : o.list ≡ None

from_first : (id : Id) (left right : Option Id) (list : Option DocList) (units : List UnitContent) (o : Operation) → IsIn o (operations_from id left right list units) →
    ((content : UnitContent) × (o ≡ record { id = id; left_origin = left; right_origin = right; list = list; content = content })) ⊎ ((k : ℕ) × IsBehind id right o k)
from_first id left right list [] o i = absurd i
from_first id left right list (unit ∷ units) o (inl e) = inl (unit, e)
from_first id left right list (unit ∷ units) o (inr i) = inr (elim (from_first (later_id id 1) (Some id) right None units o i) [
  | inl (content, e) ↦ (
    id.clock,
    record {
      above = omega arith;
      has_id = ap (λ (p : Operation). p.id) e ∙ same_numbers (later_id id 1) (id_at id.client (suc id.clock)) refl (omega arith);
      has_left = ap (λ (p : Operation). p.left_origin) e;
      has_right = ap (λ (p : Operation). p.right_origin) e;
      has_list = ap (λ (p : Operation). p.list) e;
    },
  )
  | inr (k, behind) ↦ (
    k,
    record {
      above = omega (arith, behind.above);
      has_id = behind.has_id;
      has_left = behind.has_left;
      has_right = behind.has_right;
      has_list = behind.has_list;
    },
  )
])

-- ---- units that are gone

gone_is : (id : Id) (count : ℕ) (o : Operation) → IsIn o (gone_from id count) → o ≡ gone_operation o.id
gone_is id zero o i = absurd i
gone_is id (suc count) o (inl e) = e ∙ ap gone_operation (sym (ap (λ (p : Operation). p.id) e))
gone_is id (suc count) o (inr i) = gone_is (later_id id 1) count o i

-- the first of some clocks, or one that follows another
first_or_later : (low clock : ℕ) → low ≤ clock → (clock ≡ low) ⊎ ((k : ℕ) × (low ≤ k) × (clock ≡ suc k))
first_or_later zero zero le = inl refl
first_or_later (suc low) zero le = absurd (omega arith)
first_or_later zero (suc k) le = inr (k, omega arith, refl)
first_or_later (suc low) (suc k) le = elim (first_or_later low k (omega arith)) [ inl e ↦ inl (ap suc e) | inr (j, above, e) ↦ inr (suc j, omega (arith, above), ap suc e) ]

-- ---- units of runs are not gone

content_told : (content : ContentValue) → nat_eq (level_of_content content) 0 ≡ false
content_told (json values) = refl
content_told (binary blob) = refl
content_told (string units) = refl
content_told (embed t) = refl
content_told (format key t) = refl
content_told (nested kind) = refl
content_told (any ts) = refl
content_told (deleted n) = refl

pub none_there : (runs : List Run) (k : ℕ) → k < length runs → slice_get runs k ≡ None → ⊥
none_there [] k lt e = absurd (omega arith)
none_there (r ∷ rs) zero lt e = absurd cc
none_there (r ∷ rs) (suc k) lt e = none_there rs k (omega arith) e

-- ---- the operations of an entry

pub covers_less : (t : Entry) (x : Id) → covers t x ≡ true → (t.id.client.0 ≡ x.client.0) × (t.id.clock ≤ x.clock) × (x.clock < t.id.clock + t.len)
covers_less t x e = (grind (arith, tests), grind (arith, tests), grind (arith, tests))

module _ (runs : List Run) (t : Entry) (is_taken : IsTakenOf runs t) where
  -- their ids are those that it covers
  pub unit_covers : (o : Operation) → IsIn o (operations_of_taken runs t) → covers t o.id ≡ true
  unit_covers o i = sym (has_taken runs t o.id is_taken) ∙ id_is_there (operations_of_taken runs t) o i

  pub covers_unit : (x : Id) → covers t x ≡ true → (o : Operation) × IsIn o (operations_of_taken runs t) × (o.id ≡ x)
  covers_unit x e = taken_at runs t x is_taken e

  pub covers_first : covers t t.id ≡ true
  covers_first = covers_in t t.id refl (omega arith) (omega (arith, is_taken.has_units))

  pub covers_later : (k : ℕ) → t.id.clock ≤ k → k < t.id.clock + t.len → covers t (id_at t.id.client k) ≡ true
  covers_later k low high = covers_in t (id_at t.id.client k) refl low high

  -- an operation is the first or a later one
  pub unit_cases : (o : Operation) → IsIn o (operations_of_taken runs t) → IsFirst runs t o ⊎ ((k : ℕ) × Follows t o k)
  unit_cases o i = go t.is_gone refl is_taken.told i (covers_less t o.id (unit_covers o i))
    where
      go : (b : Bool) → t.is_gone ≡ b → TellsRight b runs t → IsIn o (operations_told b runs t) →
          (t.id.client.0 ≡ o.id.client.0) × (t.id.clock ≤ o.id.clock) × (o.id.clock < t.id.clock + t.len) → IsFirst runs t o ⊎ ((k : ℕ) × Follows t o k)
      go true e untold j (client, low, high) = let gone = gone_is t.id t.len o j in elim (first_or_later t.id.clock o.id.clock low) [
        | inl clock ↦ inl (record {
          has_id = same_numbers o.id t.id (sym client) clock;
          has_left = ap (λ (p : Operation). p.left_origin) gone ∙ sym untold.left;
          has_right = ap (λ (p : Operation). p.right_origin) gone ∙ sym untold.right;
          has_list = ap (λ (p : Operation). p.list) gone ∙ sym (rw e refl);
        })
        | inr (k, above, clock) ↦ inr (
          k,
          record {
            above = above;
            below = omega (arith, clock, high);
            has_id = same_numbers o.id (id_at t.id.client (suc k)) (sym client) clock;
            has_left = inr (e, ap (λ (p : Operation). p.left_origin) gone);
            has_right = ap (λ (p : Operation). p.right_origin) gone ∙ sym untold.right;
            has_list = ap (λ (p : Operation). p.list) gone;
          },
        )
      ]
      go false e told j (client, low, high) = elim (from_first t.id t.left t.right (list_at (slice_get runs t.run) t.offset)
          (take t.len (drop t.offset (units_of (slice_get runs t.run)))) o j) [
            | inl (content, is) ↦ inl (record {
              has_id = ap (λ (p : Operation). p.id) is;
              has_left = ap (λ (p : Operation). p.left_origin) is;
              has_right = ap (λ (p : Operation). p.right_origin) is;
              has_list = ap (λ (p : Operation). p.list) is ∙ sym (rw e refl);
            })
            | inr (k, behind) ↦ inr (
              k,
              record {
                above = behind.above;
                below = omega (arith, ap (λ (x : Id). x.clock) behind.has_id, high);
                has_id = behind.has_id;
                has_left = inl behind.has_left;
                has_right = behind.has_right;
                has_list = behind.has_list;
              },
            )
          ]

  -- the first unit is an operation
  pub first_unit : (o : Operation) × IsIn o (operations_of_taken runs t) × IsFirst runs t o
  first_unit = let (o, i, e) = covers_unit t.id covers_first in elim (unit_cases o i) [
    | inl first ↦ (o, i, first)
    | inr later ↦ absurd (omega (arith, later.1.above, ap (λ (x : Id). x.clock) e, ap (λ (x : Id). x.clock) later.1.has_id))
  ]

  -- whether it is gone tells the entry
  pub unit_gone : (o : Operation) → IsIn o (operations_of_taken runs t) → is_gone o ≡ t.is_gone
  unit_gone o i = ap (λ n. nat_eq n 0) (taken_level runs t o is_taken i) ∙ go t.is_gone
    where
      by_run : (r : Option Run) → slice_get runs t.run ≡ r → nat_eq (level_of_run r) 0 ≡ false
      by_run None e = absurd (none_there runs t.run is_taken.run_there e)
      by_run (Some run) e = content_told (content_value run.content)

      go : (b : Bool) → nat_eq (level_told b runs t) 0 ≡ b
      go true = refl
      go false = by_run (slice_get runs t.run) refl

-- an entry carries the same list at another place
pub carried_at_place : (runs : List Run) (t : Entry) (p : Place) → carried_of runs (with_place t p) ≡ carried_of runs t
carried_at_place runs t p = elim (cases_Bool t.is_gone) [ inl e ↦ rw e refl | inr e ↦ rw e refl ]
