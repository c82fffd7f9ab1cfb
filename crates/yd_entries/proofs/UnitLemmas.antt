-- The operations of units in a row, or of units that are gone: a part of them, and their ids.
use Rattle.std.proofs.Common.{◌≡◌, ℕ, zero, suc, ◌+◌, ◌<◌, ◌≤◌, Bool, true, false, ◌||◌, ◌&&◌, nat_eq, nat_le, nat_lt, List, [], ◌∷◌, ◌++◌, length, take, drop, Option, Some, None, inl, inr, refl, sym, ap, ◌∙◌, arith, tests}
use Rattle.std.specs.Prelude.{slice_get}
use Rattle.yd_words.specs.Member.{IsIn}
use Rattle.yd_ids.specs.declared.id.Id.{Id}
use Rattle.yd_ids.specs.Ids.{is_same}
use Rattle.yd_ops.specs.declared.lists.List.{List as DocList}
use Rattle.yd_ops.specs.Operation.{UnitContent, Operation, later_id, gone_operation, gone_from, operations_from}
use Rattle.yd_ops.proofs.OperationLemmas.{later_none, later_later}
use Rattle.yd_ops.specs.Received.{has_operation}
use Rattle.yd_entries.specs.Taking.{left_at, list_from}

-- ---- ids in a row

pub later_same : (id : Id) (i k : ℕ) → i ≡ k → later_id id i ≡ later_id id k
later_same id i k e = ap (λ (n : ℕ). later_id id n) e

pub later_one : (id : Id) (i k : ℕ) → later_id id i ≡ later_id id k → i ≡ k
later_one id i k e = omega (arith, ap (λ (x : Id). x.clock) e)

-- ---- a part of them

pub take_from : (n : ℕ) (id : Id) (left right : Option Id) (list : Option DocList) (units : List UnitContent) →
    take n (operations_from id left right list units) ≡ operations_from id left right list (take n units)
take_from zero id left right list units = refl
take_from (suc n) id left right list [] = refl
take_from (suc n) id left right list (unit ∷ units) =
    ap (λ os. record { id = id; left_origin = left; right_origin = right; list = list; content = unit } ∷ os) (take_from n (later_id id 1) (Some id) right None units)

left_behind : (id : Id) (n : ℕ) → left_at (later_id id 1) (Some id) n ≡ Some (later_id id n)
left_behind id zero = ap (λ x. Some x) (sym (later_none id))
left_behind id (suc n) = ap (λ x. Some x) (later_later id 1 n ∙ later_same id (1 + n) (suc n) (omega arith))

list_behind : (n : ℕ) → list_from None n ≡ None
list_behind zero = refl
list_behind (suc n) = refl

pub drop_from : (n : ℕ) (id : Id) (left right : Option Id) (list : Option DocList) (units : List UnitContent) →
    drop n (operations_from id left right list units) ≡ operations_from (later_id id n) (left_at id left n) right (list_from list n) (drop n units)
drop_from zero id left right list units = ap (λ x. operations_from x left right list units) (sym (later_none id))
drop_from (suc n) id left right list [] = refl
drop_from (suc n) id left right list (unit ∷ units) =
    drop_from n (later_id id 1) (Some id) right None units
    ∙ ap (λ x. operations_from x (left_at (later_id id 1) (Some id) n) right (list_from None n) (drop n units)) (later_later id 1 n ∙ later_same id (1 + n) (suc n) (omega arith))
    ∙ ap (λ x. operations_from (later_id id (suc n)) x right (list_from None n) (drop n units)) (left_behind id n)
    ∙ ap (λ x. operations_from (later_id id (suc n)) (Some (later_id id n)) right x (drop n units)) (list_behind n)

-- so many of them from unit n on
pub part_from : (n count : ℕ) (id : Id) (left right : Option Id) (list : Option DocList) (units : List UnitContent) →
    take count (drop n (operations_from id left right list units)) ≡ operations_from (later_id id n) (left_at id left n) right (list_from list n) (take count (drop n units))
part_from n count id left right list units =
    ap (λ os. take count os) (drop_from n id left right list units)
    ∙ take_from count (later_id id n) (left_at id left n) right (list_from list n) (drop n units)

-- ---- each of them

-- an operation is that of a unit
pub from_unit : (id : Id) (left right : Option Id) (list : Option DocList) (units : List UnitContent) (o : Operation) → IsIn o (operations_from id left right list units) →
    (i : ℕ) × (i < length units) × (o.id ≡ later_id id i) × (slice_get units i ≡ Some o.content)
from_unit id left right list [] o j = absurd j
from_unit id left right list (unit ∷ units) o (inl e) = (0, omega arith, ap (λ (r : Operation). r.id) e ∙ sym (later_none id), ap (λ (r : Operation). Some r.content) (sym e))
from_unit id left right list (unit ∷ units) o (inr j) =
    let (i, lt, x, u) = from_unit (later_id id 1) (Some id) right None units o j in
    (suc i, omega arith, x ∙ later_later id 1 i ∙ later_same id (1 + i) (suc i) (omega arith), u)

-- the ids of units in a row
pub has_from : (id : Id) (left right : Option Id) (list : Option DocList) (units : List UnitContent) (x : Id) →
    has_operation (operations_from id left right list units) x ≡ (nat_eq id.client.0 x.client.0 && (nat_le id.clock x.clock && nat_lt x.clock (id.clock + length units)))
has_from id left right list [] x = grind (arith, tests)
has_from id left right list (unit ∷ units) x =
    ap (λ t. is_same id x || t) (has_from (later_id id 1) (Some id) right None units x)
    ∙ first (length units)
  where
    first : (n : ℕ) →
        (is_same id x || (nat_eq id.client.0 x.client.0 && (nat_le (id.clock + 1) x.clock && nat_lt x.clock (id.clock + 1 + n))))
        ≡ (nat_eq id.client.0 x.client.0 && (nat_le id.clock x.clock && nat_lt x.clock (id.clock + suc n)))
    first n = grind (arith, tests)

-- ---- units that are gone

pub length-gone_from : (id : Id) (count : ℕ) → length (gone_from id count) ≡ count
length-gone_from id zero = refl
length-gone_from id (suc count) = ap suc (length-gone_from (later_id id 1) count)

-- so many of them from one on
pub gone_part : (n count : ℕ) (id : Id) (all : ℕ) → n + count ≤ all → take count (drop n (gone_from id all)) ≡ gone_from (later_id id n) count
gone_part zero zero id all le = refl
gone_part zero (suc count) id zero le = absurd (omega arith)
gone_part zero (suc count) id (suc all) le =
    ap (λ os. gone_operation id ∷ os) (gone_part zero count (later_id id 1) all (omega arith) ∙ ap (λ x. gone_from x count) (later_none (later_id id 1)))
    ∙ ap (λ x. gone_from x (suc count)) (sym (later_none id))
gone_part (suc n) zero id zero le = refl
gone_part (suc n) (suc count) id zero le = absurd (omega arith)
gone_part (suc n) count id (suc all) le =
    gone_part n count (later_id id 1) all (omega arith) ∙ ap (λ x. gone_from x count) (later_later id 1 n ∙ later_same id (1 + n) (suc n) (omega arith))

-- an operation is that of one of the ids
pub from_gone : (id : Id) (count : ℕ) (o : Operation) → IsIn o (gone_from id count) → (i : ℕ) × (i < count) × (o ≡ gone_operation (later_id id i))
from_gone id zero o j = absurd j
from_gone id (suc count) o (inl e) = (0, omega arith, e ∙ ap gone_operation (sym (later_none id)))
from_gone id (suc count) o (inr j) =
    let (i, lt, e) = from_gone (later_id id 1) count o j in
    (suc i, omega arith, e ∙ ap gone_operation (later_later id 1 i ∙ later_same id (1 + i) (suc i) (omega arith)))

-- the ids of units that are gone
pub has_gone : (id : Id) (count : ℕ) (x : Id) →
    has_operation (gone_from id count) x ≡ (nat_eq id.client.0 x.client.0 && (nat_le id.clock x.clock && nat_lt x.clock (id.clock + count)))
has_gone id zero x = grind (arith, tests)
has_gone id (suc count) x = ap (λ t. is_same id x || t) (has_gone (later_id id 1) count x) ∙ one count
  where
    one : (n : ℕ) →
        (is_same id x || (nat_eq id.client.0 x.client.0 && (nat_le (id.clock + 1) x.clock && nat_lt x.clock (id.clock + 1 + n))))
        ≡ (nat_eq id.client.0 x.client.0 && (nat_le id.clock x.clock && nat_lt x.clock (id.clock + suc n)))
    one n = grind (arith, tests)

-- ---- operations in a list

pub has_parts : (os ps : List Operation) (x : Id) → has_operation (os ++ ps) x ≡ (has_operation os x || has_operation ps x)
has_parts [] ps x = refl
has_parts (o ∷ os) ps x = ap (λ t. is_same o.id x || t) (has_parts os ps x) ∙ or_or (is_same o.id x) (has_operation os x) (has_operation ps x)
  where
    or_or : (a b c : Bool) → (a || (b || c)) ≡ ((a || b) || c)
    or_or true b c = refl
    or_or false b c = refl

pub one_of_take : (n : ℕ) (os : List Operation) (o : Operation) → IsIn o (take n os) → IsIn o os
one_of_take zero os o i = absurd i
one_of_take (suc n) [] o i = absurd i
one_of_take (suc n) (p ∷ ps) o (inl e) = inl e
one_of_take (suc n) (p ∷ ps) o (inr i) = inr (one_of_take n ps o i)

pub one_of_drop : (n : ℕ) (os : List Operation) (o : Operation) → IsIn o (drop n os) → IsIn o os
one_of_drop zero os o i = i
one_of_drop (suc n) [] o i = i
one_of_drop (suc n) (p ∷ ps) o i = inr (one_of_drop n ps o i)
