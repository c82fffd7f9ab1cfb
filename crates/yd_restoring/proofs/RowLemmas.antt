-- A group among the units of a list: it stands in a row, its ids are in a row, and its units are of one kind.
use Rattle.std.proofs.Common.{◌≡◌, ◌⊎◌, ℕ, zero, suc, ◌+◌, ◌-◌, ◌<◌, ◌≤◌, ◌&&◌, Bool, true, false, List, [], ◌∷◌, ◌++◌, map, length, nat_eq, nat_lt, Option, Some, None, inl, inr, refl, sym, ap, ◌∙◌, subst, arith, tests}
use Rattle.std.proofs.lemmas.List.{length-map}
use Rattle.std.specs.Prelude.{if◌then◌else◌}
use Rattle.yd_words.specs.Each.{Each}
use Rattle.yd_words.specs.Member.{IsIn}
use Rattle.yd_words.proofs.MemberLemmas.{in_left_part}
use Rattle.yd_words.proofs.TestLemmas.{both_hold}
use Rattle.yd_ids.specs.declared.id.Id.{Id}
use Rattle.yd_ids.specs.Ids.{is_same}
use Rattle.yd_ids.proofs.IdLemmas.{same_itself, other_id, same_is, same_numbers, same_says}
use Rattle.yd_ops.specs.Operation.{Operation, later_id}
use Rattle.yd_state.specs.Lent.{lent}
use Rattle.yd_meaning.specs.Held.{is_in_span}
use Rattle.yd_copying.specs.Content.{can_be_made, kind_of}
use Rattle.yd_remaking.specs.Group.{units_from, goes_on, row_behind, group_from}
use Rattle.yd_remaking.specs.Rows.{unit_before}
use Rattle.yd_editing.proofs.AroundLemmas.{HasNot}
use Rattle.yd_undo.specs.Remade.{taken_by}
use Rattle.yd_restoring.proofs.AgainLemmas.{IsOf}
use Rattle.yd_restoring.proofs.BeforeLemmas.{last_id}
use Rattle.yd_restoring.proofs.LeftLemmas.{span_from, is_in_span-is}

-- ---- at a unit

pub from_unit : (deleted : Id → Bool) (x : Id) (front : List Operation) (u : Operation) (back : List Operation) → HasNot x front → u.id ≡ x →
    units_from x (map (lent deleted) (front ++ u ∷ back)) ≡ map (lent deleted) (u ∷ back)
from_unit deleted x [] u back n e = ap (λ t. if t then map (lent deleted) (u ∷ back) else units_from x (map (lent deleted) back)) (subst (λ y. is_same u.id y ≡ true) e (same_itself u.id))
from_unit deleted x (o ∷ os) u back n e =
    ap (λ t. if t then map (lent deleted) (o ∷ os ++ u ∷ back) else units_from x (map (lent deleted) (os ++ u ∷ back))) (other_id o.id x (n o (inl refl)))
    ∙ from_unit deleted x os u back (λ p i. n p (inr i)) e

-- the id before it: the last of the front, or what was before all
abbrev pub last_or : Option Id → List Operation → Option Id
last_or before [] = before
last_or before (o ∷ os) = last_or (Some o.id) os

before_it : (deleted : Id → Bool) (x : Id) (before : Option Id) (front : List Operation) (u : Operation) (back : List Operation) → HasNot x front → u.id ≡ x →
    unit_before x before (map (lent deleted) (front ++ u ∷ back)) ≡ last_or before front
before_it deleted x before [] u back n e = ap (λ t. if t then before else unit_before x (Some u.id) (map (lent deleted) back)) (subst (λ y. is_same u.id y ≡ true) e (same_itself u.id))
before_it deleted x before (o ∷ os) u back n e =
    ap (λ t. if t then before else unit_before x (Some o.id) (map (lent deleted) (os ++ u ∷ back))) (other_id o.id x (n o (inl refl)))
    ∙ before_it deleted x (Some o.id) os u back (λ p i. n p (inr i)) e

last_or_is : (o : Operation) (os : List Operation) → last_or (Some o.id) os ≡ last_id (o ∷ os)
last_or_is o [] = refl
last_or_is o (p ∷ os) = last_or_is p os

pub before_unit : (deleted : Id → Bool) (x : Id) (front : List Operation) (u : Operation) (back : List Operation) → HasNot x front → u.id ≡ x →
    unit_before x None (map (lent deleted) (front ++ u ∷ back)) ≡ last_id front
before_unit deleted x front u back n e = before_it deleted x None front u back n e ∙ whole front
  where
    whole : (os : List Operation) → last_or None os ≡ last_id os
    whole [] = refl
    whole (o ∷ os) = last_or_is o os

-- ---- ids in a row

-- the units have the ids from one on
abbrev pub AreFrom : Id → List Operation → Type 0
AreFrom next [] = Unit {0}
AreFrom next (o ∷ os) = (o.id ≡ next) × AreFrom (later_id next 1) os

pub from_within : (next : Id) (os : List Operation) → AreFrom next os → (o : Operation) → IsIn o os →
    (o.id.client ≡ next.client) × (next.clock ≤ o.id.clock) × (o.id.clock < next.clock + length os)
from_within next [] f o i = absurd i
from_within next (p ∷ os) f o (inl e) = (
  ap (λ (q : Operation). q.id.client) e ∙ ap (λ (y : Id). y.client) f.0,
  omega (arith, ap (λ (q : Operation). q.id.clock) e, ap (λ (y : Id). y.clock) f.0),
  omega (arith, ap (λ (q : Operation). q.id.clock) e, ap (λ (y : Id). y.clock) f.0),
)
from_within next (p ∷ os) f o (inr i) = let (c, low, high) = from_within (later_id next 1) os f.1 o i in (c, omega (arith, low), omega (arith, high))

pub from_each : (next : Id) (os : List Operation) → AreFrom next os → (y : Id) → y.client.0 ≡ next.client.0 → next.clock ≤ y.clock → y.clock < next.clock + length os →
    (o : Operation) × IsIn o os × (o.id ≡ y)
from_each next [] f y c low high = absurd (omega (arith, low, high))
from_each next (o ∷ os) f y c low high = elim (first_or_later next.clock y.clock low) [
  | inl e ↦ (o, inl refl, f.0 ∙ same_numbers next y (sym c) e)
  | inr lt ↦ let (p, i, e) = from_each (later_id next 1) os f.1 y c (omega (arith, lt)) (omega (arith, high)) in (p, inr i, e)
]
  where
    first_or_later : (a b : ℕ) → a ≤ b → (a ≡ b) ⊎ (a < b)
    first_or_later zero zero m = inl refl
    first_or_later zero (suc b) m = inr (omega arith)
    first_or_later (suc a) zero m = absurd (omega (arith, m))
    first_or_later (suc a) (suc b) m = elim (first_or_later a b (omega (arith, m))) [ inl e ↦ inl (ap suc e) | inr n ↦ inr (omega (arith, n)) ]

-- ---- the units that go on a group

-- what goes on a group, and what is behind it
pub record Row (deleted : Id → Bool) (kind : ℕ) (next : Id) (most : ℕ) (os : List Operation) : Type 0 where
  pub row : List Operation
  pub back : List Operation
  pub parts : os ≡ row ++ back
  pub is : row_behind kind next most (map (lent deleted) os) ≡ map (lent deleted) row
  pub ids : AreFrom next row
  pub kinds : Each (λ (o : Operation). IsOf kind o.content) row
  pub bound : length row ≤ most

pub row_at : (deleted : Id → Bool) (kind : ℕ) (next : Id) (most : ℕ) (os : List Operation) → Row deleted kind next most os
row_at deleted kind next zero os = record { row = []; back = os; parts = refl; is = refl; ids = tt; kinds = tt; bound = omega arith }
row_at deleted kind next (suc most) [] = record { row = []; back = []; parts = refl; is = refl; ids = tt; kinds = tt; bound = omega arith }
row_at deleted kind next (suc most) (o ∷ os) = go (goes_on kind next (lent deleted o)) refl (row_at deleted kind (later_id next 1) most os)
  where
    go : (t : Bool) → goes_on kind next (lent deleted o) ≡ t → Row deleted kind (later_id next 1) most os → Row deleted kind next (suc most) (o ∷ os)
    go true e r =
        let a = both_hold (nat_lt 0 kind) (is_same o.id next && nat_eq (kind_of o.content) kind) e in
        let b = both_hold (is_same o.id next) (nat_eq (kind_of o.content) kind) a.1 in
        record {
          row = o ∷ r.row;
          back = r.back;
          parts = ap (λ ps. o ∷ ps) r.parts;
          is = ap (λ t. if t then lent deleted o ∷ row_behind kind (later_id next 1) most (map (lent deleted) os) else []) e ∙ ap (λ us. lent deleted o ∷ us) r.is;
          ids = (same_is o.id next b.0, r.ids);
          kinds = ((positive a.0, one_kind b.1), r.kinds);
          bound = let n = r.bound in omega (arith, n);
        }
      where
        positive : nat_lt 0 kind ≡ true → 0 < kind
        positive f = grind (arith, tests)

        one_kind : nat_eq (kind_of o.content) kind ≡ true → kind_of o.content ≡ kind
        one_kind f = grind (arith, tests)
    go false e r = record {
      row = [];
      back = o ∷ os;
      parts = refl;
      is = ap (λ t. if t then lent deleted o ∷ row_behind kind (later_id next 1) most (map (lent deleted) os) else []) e;
      ids = tt;
      kinds = tt;
      bound = omega arith;
    }

-- ---- the ids of a group

-- the unit with an id and those behind it, where it is there
record At (deleted : Id → Bool) (x : Id) (os : List Operation) : Type 0 where
  pub unit : Operation
  pub back : List Operation
  pub inside : (o : Operation) → IsIn o (unit ∷ back) → IsIn o os
  pub is : unit.id ≡ x
  pub from : units_from x (map (lent deleted) os) ≡ map (lent deleted) (unit ∷ back)

at_or_none : (deleted : Id → Bool) (x : Id) (os : List Operation) → (units_from x (map (lent deleted) os) ≡ []) ⊎ At deleted x os
at_or_none deleted x [] = inl refl
at_or_none deleted x (o ∷ os) = elim (same_says o.id x) [
  | inl same ↦ inr (record {
    unit = o;
    back = os;
    inside = λ p i. i;
    is = same.1;
    from = ap (λ t. if t then map (lent deleted) (o ∷ os) else units_from x (map (lent deleted) os)) same.0;
  })
  | inr other ↦ elim (at_or_none deleted x os) [
    | inl e ↦ inl (ap (λ t. if t then map (lent deleted) (o ∷ os) else units_from x (map (lent deleted) os)) other.0 ∙ e)
    | inr a ↦ inr (record {
      unit = a.unit;
      back = a.back;
      inside = λ p i. inr (a.inside p i);
      is = a.is;
      from = ap (λ t. if t then map (lent deleted) (o ∷ os) else units_from x (map (lent deleted) os)) other.0 ∙ a.from;
    })
  ]
]

one_of_span : (x y : Id) → is_in_span (span_from x 1) y ≡ true → y ≡ x
one_of_span x y e = let (c, low, high) = is_in_span-is (span_from x 1) y e in sym (same_numbers x y c (omega (arith, low, high)))

-- each id that is done with the group which begins with an id is this one, or that of a unit of the list
pub group_ids : (deleted : Id → Bool) (x : Id) (most : ℕ) (os : List Operation) (y : Id) →
    is_in_span (span_from x (taken_by (group_from most (units_from x (map (lent deleted) os))))) y ≡ true → (y ≡ x) ⊎ ((o : Operation) × IsIn o os × (o.id ≡ y))
group_ids deleted x most os y e = elim (at_or_none deleted x os) [
  | inl none ↦ inl (one_of_span x y (subst (λ us. is_in_span (span_from x (taken_by (group_from most us))) y ≡ true) none e))
  | inr at ↦ go at (can_be_made at.unit.content) refl (subst (λ us. is_in_span (span_from x (taken_by (group_from most us))) y ≡ true) at.from e)
]
  where
    go : (at : At deleted x os) (t : Bool) → can_be_made at.unit.content ≡ t →
        is_in_span (span_from x (taken_by (if t then lent deleted at.unit ∷ row_behind (kind_of at.unit.content) (later_id at.unit.id 1) (most - 1) (map (lent deleted) at.back) else []))) y ≡ true →
        (y ≡ x) ⊎ ((o : Operation) × IsIn o os × (o.id ≡ y))
    go at false c f = inl (one_of_span x y f)
    go at true c f = inr (of_row (row_at deleted (kind_of at.unit.content) (later_id at.unit.id 1) (most - 1) at.back))
      where
        of_row : Row deleted (kind_of at.unit.content) (later_id at.unit.id 1) (most - 1) at.back → (o : Operation) × IsIn o os × (o.id ≡ y)
        of_row row = let (d, low, high) = is_in_span-is (span_from x (suc (length row.row))) y (subst (λ k. is_in_span (span_from x k) y ≡ true) count f) in
            let (o, i, g) = from_each x (at.unit ∷ row.row) (subst (λ z. AreFrom z (at.unit ∷ row.row)) at.is (refl, row.ids)) y (sym d) low high in
            (o, at.inside o (within o i), g)
          where
            count : suc (length (row_behind (kind_of at.unit.content) (later_id at.unit.id 1) (most - 1) (map (lent deleted) at.back))) ≡ suc (length row.row)
            count = ap suc (ap length row.is ∙ length-map row.row (lent deleted))

            within : (o : Operation) → IsIn o (at.unit ∷ row.row) → IsIn o (at.unit ∷ at.back)
            within o (inl h) = inl h
            within o (inr j) = inr (subst (λ ps. IsIn o ps) (sym row.parts) (in_left_part o row.row row.back j))
