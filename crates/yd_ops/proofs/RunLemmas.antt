-- The operations of a run: in the order of writing, each half has its partner, and all have one right origin.
use Rattle.std.proofs.Common.{◌≡◌, ℕ, zero, suc, ◌≤◌, true, List, [], ◌∷◌, map, inl, inr, Option, Some, None, refl, sym, ap, ◌∙◌, subst, arith, tests}
use Rattle.yd_words.specs.Each.{Each}
use Rattle.yd_words.specs.Member.{IsIn}
use Rattle.yd_units.specs.Half.{IsLow}
use Rattle.yd_units.proofs.HalfLemmas.{WholeAfter, whole_after}
use Rattle.yd_any.specs.Tree.{AnyTree, AnyTrees, no_trees, tree}
use Rattle.yd_ids.specs.declared.id.Id.{Id}
use Rattle.yd_ids.specs.Ids.{is_written_before}
use Rattle.yd_ops.specs.declared.lists.List.{List as DocList}
use Rattle.yd_ops.specs.Value.{ContentValue, json, binary, string, embed, format, nested, any, deleted, RunValue}
use Rattle.yd_ops.specs.Operation.{UnitContent, text_unit, json_unit, units_of_trees, deleted_units, units_of_content, Operation, later_id, operations_from, operations_of_run, IsHighUnit, IsLowUnit, ArePartners}
use Rattle.yd_ops.specs.Valid.{IsValidContent}
use Rattle.yd_ops.specs.Received.{IsWritten}
use Rattle.yd_ops.specs.Pairs.{is_half}
use Rattle.yd_ops.proofs.PartnerLemmas.{IsHalf}
use Rattle.yd_ops.proofs.MendingLemmas.{HasPartners}

-- ---- the order of writing

-- an operation from an id on has that id or a later one
pub from_id : (id : Id) (left right : Option Id) (list : Option DocList) (units : List UnitContent) (o : Operation) → IsIn o (operations_from id left right list units) →
    (o.id.client.0 ≡ id.client.0) × (id.clock ≤ o.id.clock)
from_id id left right list [] o i = absurd i
from_id id left right list (unit ∷ units) o (inl e) = (ap (λ (r : Operation). r.id.client.0) e, omega (arith, ap (λ (r : Operation). r.id.clock) e))
from_id id left right list (unit ∷ units) o (inr i) =
    let (client, clock) = from_id (later_id id 1) (Some id) right None units o i in
    (client, omega arith)

from_written : (id : Id) (left right : Option Id) (list : Option DocList) (units : List UnitContent) → IsWritten (operations_from id left right list units)
from_written id left right list [] = tt
from_written id left right list (unit ∷ units) = (first, from_written (later_id id 1) (Some id) right None units)
  where
    first : (p : Operation) → IsIn p (operations_from (later_id id 1) (Some id) right None units) → is_written_before id p.id ≡ true
    first p i = let (client, clock) = from_id (later_id id 1) (Some id) right None units p i in grind (arith, tests)

-- ---- what its units hold

-- what holds of each unit holds of what each operation holds
pub from_content : (P : UnitContent → Type 0) (id : Id) (left right : Option Id) (list : Option DocList) (units : List UnitContent) → Each P units →
    (o : Operation) → IsIn o (operations_from id left right list units) → P o.content
from_content P id left right list [] each o i = absurd i
from_content P id left right list (unit ∷ units) each o (inl e) = subst (λ (r : Operation). P r.content) (sym e) each.0
from_content P id left right list (unit ∷ units) each o (inr i) = from_content P (later_id id 1) (Some id) right None units each.1 o i

-- no unit is a half
abbrev NoHalves : List UnitContent → Type 0
NoHalves units = Each (λ unit. IsHalf unit → ⊥) units

json_no_halves : (values : List (Option AnyTree)) → NoHalves (map json_unit values)
json_no_halves [] = tt
json_no_halves (value ∷ values) = ((λ h. elim h [ inl i ↦ i | inr i ↦ i ]), json_no_halves values)

trees_no_halves : (ts : AnyTrees) → NoHalves (units_of_trees ts)
trees_no_halves no_trees = tt
trees_no_halves (tree t ts) = ((λ h. elim h [ inl i ↦ i | inr i ↦ i ]), trees_no_halves ts)

deleted_no_halves : (count : ℕ) → NoHalves (deleted_units count)
deleted_no_halves zero = tt
deleted_no_halves (suc count) = ((λ h. elim h [ inl i ↦ i | inr i ↦ i ]), deleted_no_halves count)

quiet_partners : (id : Id) (left right : Option Id) (list : Option DocList) (units : List UnitContent) → NoHalves units → HasPartners (operations_from id left right list units)
quiet_partners id left right list units none o i is_half = absurd (from_content (λ unit. IsHalf unit → ⊥) id left right list units none o i is_half)

-- ---- whole units

-- behind a unit of whole ones each high half has its partner
high_behind : (id : Id) (left right : Option Id) (list : Option DocList) (unit : ℕ) (units : List ℕ) → WholeAfter unit units →
    (o : Operation) → IsIn o (operations_from id left right list (map text_unit (unit ∷ units))) → IsHighUnit o.content →
    (p : Operation) × IsIn p (operations_from id left right list (map text_unit (unit ∷ units))) × ArePartners o p
high_behind id left right list unit [] whole o (inl e) high = absurd (whole (subst (λ (r : Operation). IsHighUnit r.content) e high))
high_behind id left right list unit [] whole o (inr i) high = absurd i
high_behind id left right list unit (next ∷ units) whole o (inl e) high = (
  record { id = later_id id 1; left_origin = Some id; right_origin = right; list = None; content = text_unit next },
  inr (inl refl),
  record {
    high_half = high;
    low_half = whole.0.0 (subst (λ (r : Operation). IsHighUnit r.content) e high);
    next_clock = ap (λ (r : Operation). later_id r.id 1) (sym e);
    behind = ap (λ (r : Operation). Some r.id) (sym e);
  },
)
high_behind id left right list unit (next ∷ units) whole o (inr i) high =
    let (p, j, pair) = high_behind (later_id id 1) (Some id) right None next units whole.1 o i high in
    (p, inr j, pair)

-- and each low one that stands behind it
low_behind : (id : Id) (left right : Option Id) (list : Option DocList) (unit : ℕ) (units : List ℕ) → WholeAfter unit units →
    (o : Operation) → IsIn o (operations_from (later_id id 1) (Some id) right None (map text_unit units)) → IsLowUnit o.content →
    (p : Operation) × IsIn p (operations_from id left right list (map text_unit (unit ∷ units))) × ArePartners p o
low_behind id left right list unit [] whole o i low = absurd i
low_behind id left right list unit (next ∷ units) whole o (inl e) low = (
  record { id = id; left_origin = left; right_origin = right; list = list; content = text_unit unit },
  inl refl,
  record {
    high_half = whole.0.1 (subst (λ (r : Operation). IsLowUnit r.content) e low);
    low_half = low;
    next_clock = ap (λ (r : Operation). r.id) e;
    behind = ap (λ (r : Operation). r.left_origin) e;
  },
)
low_behind id left right list unit (next ∷ units) whole o (inr i) low =
    let (p, j, pair) = low_behind (later_id id 1) (Some id) right None next units whole.1 o i low in
    (p, inr j, pair)

whole_partners : (id : Id) (left right : Option Id) (list : Option DocList) (units : List ℕ) → WholeAfter 0 units → HasPartners (operations_from id left right list (map text_unit units))
whole_partners id left right list [] whole o i is_half = absurd i
whole_partners id left right list (unit ∷ units) whole o i (inl high) = let (p, j, pair) = high_behind id left right list unit units whole.1 o i high in (p, j, inl pair)
whole_partners id left right list (unit ∷ units) whole o (inl e) (inr low) = absurd (not_first (subst (λ (r : Operation). IsLowUnit r.content) e low))
  where
    not_first : IsLow unit → ⊥
    not_first low = absurd (omega (arith, whole.0.1 low))
whole_partners id left right list (unit ∷ units) whole o (inr i) (inr low) = let (p, j, pair) = low_behind id left right list unit units whole.1 o i low in (p, j, inr pair)

content_partners : (id : Id) (left right : Option Id) (list : Option DocList) (content : ContentValue) → IsValidContent content → HasPartners (operations_from id left right list (units_of_content content))
content_partners id left right list (json values) valid = quiet_partners id left right list (map json_unit values) (json_no_halves values)
content_partners id left right list (binary blob) valid = quiet_partners id left right list (units_of_content (binary blob)) ((λ h. elim h [ inl i ↦ i | inr i ↦ i ]), tt)
content_partners id left right list (string units) valid = whole_partners id left right list units (whole_after units valid.1)
content_partners id left right list (embed t) valid = quiet_partners id left right list (units_of_content (embed t)) ((λ h. elim h [ inl i ↦ i | inr i ↦ i ]), tt)
content_partners id left right list (format key t) valid = quiet_partners id left right list (units_of_content (format key t)) ((λ h. elim h [ inl i ↦ i | inr i ↦ i ]), tt)
content_partners id left right list (nested kind) valid = quiet_partners id left right list (units_of_content (nested kind)) ((λ h. elim h [ inl i ↦ i | inr i ↦ i ]), tt)
content_partners id left right list (any ts) valid = quiet_partners id left right list (units_of_trees ts) (trees_no_halves ts)
content_partners id left right list (deleted count) valid = quiet_partners id left right list (deleted_units count) (deleted_no_halves count)

-- ---- lemmas for callers

pub run_written : (run : RunValue) → IsWritten (operations_of_run run)
run_written run = from_written run.id run.left run.right run.list (units_of_content run.content)

-- in a run with a valid content each half stands with its partner
pub run_partners : (run : RunValue) → IsValidContent run.content → HasPartners (operations_of_run run)
run_partners run valid = content_partners run.id run.left run.right run.list run.content valid

from_right : (id : Id) (left right : Option Id) (list : Option DocList) (units : List UnitContent) (o : Operation) → IsIn o (operations_from id left right list units) → o.right_origin ≡ right
from_right id left right list [] o i = absurd i
from_right id left right list (unit ∷ units) o (inl e) = ap (λ (p : Operation). p.right_origin) e
from_right id left right list (unit ∷ units) o (inr i) = from_right (later_id id 1) (Some id) right None units o i

pub run_rights : (run : RunValue) (o p : Operation) → IsIn o (operations_of_run run) → IsIn p (operations_of_run run) → o.right_origin ≡ p.right_origin
run_rights run o p i j = from_right run.id run.left run.right run.list (units_of_content run.content) o i
    ∙ sym (from_right run.id run.left run.right run.list (units_of_content run.content) p j)
