-- Groups among units that are lent piece by piece.
use Rattle.std.proofs.Common.{◌≡◌, ℕ, zero, suc, ◌+◌, ◌-◌, ◌<◌, min, ◌&&◌, ◌||◌, Bool, true, false, nat_eq, nat_lt, List, [], ◌∷◌, ◌++◌, take, drop, length, inl, inr, refl, sym, ap, ◌∙◌, subst, arith, tests, true≢false}
use Rattle.std.specs.Prelude.{if◌then◌else◌}
use Rattle.std.proofs.lemmas.Bool.{cases_lt}
use Rattle.yd_words.specs.Each.{Each}
use Rattle.yd_ids.specs.declared.id.Id.{Id}
use Rattle.yd_ids.specs.Ids.{is_same}
use Rattle.yd_ids.proofs.IdLemmas.{same_itself, same_is}
use Rattle.yd_ops.specs.Operation.{UnitContent, later_id}
use Rattle.yd_ops.proofs.OperationLemmas.{later_later, later_none}
use Rattle.yd_state.specs.Lent.{Lent, lent_from}
use Rattle.yd_remaking.proofs.RowLemmas.{is_in_row}
use Rattle.yd_copying.specs.Content.{kind_of}
use Rattle.yd_remaking.specs.Group.{units_from, goes_on, row_behind, group_from}
use Rattle.yd_remaking.specs.Parts.{contents_of}
use Rattle.yd_remaking.proofs.KindLemmas.{IsOf}

-- ---- the units from one on

pub units_passed : (x : Id) (d : Bool) (id : Id) (us : List UnitContent) (rest : List Lent) → is_in_row id (length us) x ≡ false → units_from x (lent_from id d us ++ rest) ≡ units_from x rest
units_passed x d id [] rest e = refl
units_passed x d id (u ∷ us) rest e = go (is_same id x) refl e (λ g. units_passed x d (later_id id 1) us rest g)
  where
    go : (t : Bool) → is_same id x ≡ t → (t || is_in_row (later_id id 1) (length us) x) ≡ false →
        (is_in_row (later_id id 1) (length us) x ≡ false → units_from x (lent_from (later_id id 1) d us ++ rest) ≡ units_from x rest) →
        units_from x (lent_from id d (u ∷ us) ++ rest) ≡ units_from x rest
    go true f g more = absurd (true≢false g)
    go false f g more = rw f (more g)

pub units_found : (d : Bool) (id : Id) (us : List UnitContent) (rest : List Lent) (k : ℕ) → k < length us →
    units_from (later_id id k) (lent_from id d us ++ rest) ≡ lent_from (later_id id k) d (drop k us) ++ rest
units_found d id [] rest k lt = absurd (omega (arith, lt))
units_found d id (u ∷ us) rest zero lt = subst (λ y. units_from y (lent_from id d (u ∷ us) ++ rest) ≡ lent_from y d (u ∷ us) ++ rest) (sym (later_none id)) (rw (same_itself id) refl)
units_found d id (u ∷ us) rest (suc k) lt =
    ap (λ t. if t then record { id = id; content = u; is_deleted = d } ∷ (lent_from (later_id id 1) d us ++ rest) else units_from (later_id id (suc k)) (lent_from (later_id id 1) d us ++ rest)) other
    ∙ ap (λ y. units_from y (lent_from (later_id id 1) d us ++ rest)) step
    ∙ units_found d (later_id id 1) us rest k (omega (arith, lt))
    ∙ ap (λ y. lent_from y d (drop k us) ++ rest) (sym step)
  where
    same : suc k ≡ 1 + k
    same = omega arith

    step : later_id id (suc k) ≡ later_id (later_id id 1) k
    step = ap (later_id id) same ∙ sym (later_later id 1 k)

    other : is_same id (later_id id (suc k)) ≡ false
    other = go (is_same id (later_id id (suc k))) refl
      where
        go : (t : Bool) → is_same id (later_id id (suc k)) ≡ t → t ≡ false
        go true e = absurd (omega (arith, ap (λ (y : Id). y.clock) (same_is id (later_id id (suc k)) e)))
        go false e = refl

-- ---- what goes on

pub row_none : (k : ℕ) (x : Id) (n : ℕ) (us : List Lent) → n ≡ 0 → row_behind k x n us ≡ []
row_none k x n us e = ap (λ m. row_behind k x m us) e

goes_on_there : (k : ℕ) (id : Id) (d : Bool) (u : UnitContent) → 0 < k → kind_of u ≡ k → goes_on k id (record { id = id; content = u; is_deleted = d }) ≡ true
goes_on_there k id d u some e = rw (same_itself id) (grind (arith, tests))

pub row_units : (k : ℕ) (made : Bool) (id : Id) (d : Bool) (us : List UnitContent) (rest : List Lent) (m : ℕ) → 0 < k → Each (IsOf k made) us →
    row_behind k id m (lent_from id d us ++ rest) ≡ lent_from id d (take m us) ++ row_behind k (later_id id (length us)) (m - length us) rest
row_units k made id d [] rest zero some each = refl
row_units k made id d [] rest (suc m) some each = let all : suc m ≡ suc m - 0 = omega arith in (λ i. row_behind k (sym (later_none id) i) (all i) rest)
row_units k made id d (u ∷ us) rest zero some each = sym (row_none k (later_id id (length (u ∷ us))) (0 - length (u ∷ us)) rest (omega arith))
row_units k made id d (u ∷ us) rest (suc m) some each =
    ap (λ t. if t then here ∷ row_behind k (later_id id 1) m (lent_from (later_id id 1) d us ++ rest) else []) (goes_on_there k id d u some each.0.kind_is)
    ∙ ap (λ ls. here ∷ ls) (row_units k made (later_id id 1) d us rest m some each.1)
    ∙ (λ i. here ∷ lent_from (later_id id 1) d (take m us) ++ row_behind k (next i) (left i) rest)
  where
    here : Lent
    here = record { id = id; content = u; is_deleted = d }

    same : 1 + length us ≡ length (u ∷ us)
    same = omega arith

    next : later_id (later_id id 1) (length us) ≡ later_id id (length (u ∷ us))
    next = later_later id 1 (length us) ∙ ap (later_id id) same

    left : m - length us ≡ suc m - length (u ∷ us)
    left = omega arith

pub row_stops : (k : ℕ) (next id : Id) (d : Bool) (ck : ℕ) (made : Bool) (us : List UnitContent) (rest : List Lent) (m : ℕ) → 0 < length us → Each (IsOf ck made) us →
    (0 < k → id ≡ next → ck ≡ k → ⊥) → row_behind k next m (lent_from id d us ++ rest) ≡ []
row_stops k next id d ck made [] rest m some each none = absurd (omega (arith, some))
row_stops k next id d ck made (u ∷ us) rest zero some each none = refl
row_stops k next id d ck made (u ∷ us) rest (suc m) some each none = go (goes_on k next (record { id = id; content = u; is_deleted = d })) refl
  where
    go : (t : Bool) → goes_on k next (record { id = id; content = u; is_deleted = d }) ≡ t → row_behind k next (suc m) (lent_from id d (u ∷ us) ++ rest) ≡ []
    go true e = absurd (tells (is_same id next) refl (nat_eq (kind_of u) k) refl e)
      where
        tells : (a : Bool) → is_same id next ≡ a → (b : Bool) → nat_eq (kind_of u) k ≡ b → (nat_lt 0 k && (a && b)) ≡ true → ⊥
        tells true f true g h = let some_kind : 0 < k = grind (arith, tests) in let kind : kind_of u ≡ k = grind (arith, tests) in
            none some_kind (same_is id next f) (sym each.0.kind_is ∙ kind)
        tells true f false g h = absurd (grind (arith, tests))
        tells false f b g h = absurd (grind (arith, tests))
    go false e = rw e refl

pub row_over : (k : ℕ) (next : Id) (m : ℕ) → row_behind k next m [] ≡ []
row_over k next zero = refl
row_over k next (suc m) = refl

-- a group of no kind does not go on
row_alone : (x : Id) (m : ℕ) (us : List Lent) → row_behind 0 x m us ≡ []
row_alone x zero us = refl
row_alone x (suc m) [] = refl
row_alone x (suc m) (u ∷ us) = refl

-- ---- the group that begins with the first of some units

pub group_units : (k : ℕ) (id : Id) (d : Bool) (us : List UnitContent) (rest : List Lent) (m : ℕ) → 0 < m → 0 < length us → Each (IsOf k true) us → (k ≡ 0 → length us ≡ 1) →
    group_from m (lent_from id d us ++ rest) ≡ lent_from id d (take m us) ++ row_behind k (later_id id (length us)) (m - length us) rest
group_units k id d [] rest m more some each one = absurd (omega (arith, some))
group_units k id d (u ∷ us) rest zero more some each one = absurd (omega (arith, more))
group_units zero id d (u ∷ []) rest (suc m) more some each one =
    (λ i. if each.0.made_is i then here ∷ row_behind (each.0.kind_is i) (later_id id 1) (suc m - 1) rest else []) ∙ ap (λ ls. here ∷ ls) (row_alone (later_id id 1) (suc m - 1) rest)
    ∙ ap (λ ls. here ∷ ls) (sym (row_alone (later_id id 1) (suc m - 1) rest)) ∙ tail
  where
    here : Lent
    here = record { id = id; content = u; is_deleted = d }

    nil : (n : ℕ) → take {A = UnitContent} n [] ≡ []
    nil zero = refl
    nil (suc n) = refl

    tail : here ∷ row_behind 0 (later_id id 1) (suc m - 1) rest ≡ here ∷ (lent_from (later_id id 1) d (take m []) ++ row_behind 0 (later_id id 1) (suc m - 1) rest)
    tail = ap (λ vs. here ∷ (lent_from (later_id id 1) d vs ++ row_behind 0 (later_id id 1) (suc m - 1) rest)) (sym (nil m))
group_units zero id d (u ∷ v ∷ us) rest (suc m) more some each one = absurd (omega (arith, one refl))
group_units (suc k) id d (u ∷ us) rest (suc m) more some each one =
    (λ i. if each.0.made_is i then here ∷ row_behind (each.0.kind_is i) (later_id id 1) (less i) (lent_from (later_id id 1) d us ++ rest) else [])
    ∙ ap (λ ls. here ∷ ls) (row_units (suc k) true (later_id id 1) d us rest m (omega arith) each.1)
    ∙ (λ i. here ∷ lent_from (later_id id 1) d (take m us) ++ row_behind (suc k) (next i) (left i) rest)
  where
    here : Lent
    here = record { id = id; content = u; is_deleted = d }

    less : suc m - 1 ≡ m
    less = omega arith

    same : 1 + length us ≡ length (u ∷ us)
    same = omega arith

    next : later_id (later_id id 1) (length us) ≡ later_id id (length (u ∷ us))
    next = later_later id 1 (length us) ∙ ap (later_id id) same

    left : m - length us ≡ suc m - length (u ∷ us)
    left = omega arith

pub group_none : (id : Id) (d : Bool) (us : List UnitContent) (rest : List Lent) (m : ℕ) (k : ℕ) → 0 < length us → Each (IsOf k false) us → group_from m (lent_from id d us ++ rest) ≡ []
group_none id d [] rest m k some each = absurd (omega (arith, some))
group_none id d (u ∷ us) rest m k some each = rw each.0.made_is refl

-- ---- contents and lengths

pub contents_lent : (id : Id) (d : Bool) (us : List UnitContent) → contents_of (lent_from id d us) ≡ us
contents_lent id d [] = refl
contents_lent id d (u ∷ us) = ap (λ vs. u ∷ vs) (contents_lent (later_id id 1) d us)

pub length_lent : (id : Id) (d : Bool) (us : List UnitContent) → length (lent_from id d us) ≡ length us
length_lent id d [] = refl
length_lent id d (u ∷ us) = ap suc (length_lent (later_id id 1) d us)

pub contents_both : (us vs : List Lent) → contents_of (us ++ vs) ≡ contents_of us ++ contents_of vs
contents_both [] vs = refl
contents_both (u ∷ us) vs = ap (λ xs. u.content ∷ xs) (contents_both us vs)

-- what goes on behind so many units, where they are all there or no more are asked for
pub row_behind_part : (k : ℕ) (id : Id) (n m : ℕ) (rest : List Lent) → row_behind k (later_id id n) (m - n) rest ≡ row_behind k (later_id id (min n m)) (m - min n m) rest
row_behind_part k id n m rest = elim (cases_lt m n) [
  | inl lt ↦ row_none k (later_id id n) (m - n) rest (omega (arith, lt)) ∙ sym (row_none k (later_id id (min n m)) (m - min n m) rest (omega (arith, lt)))
  | inr le ↦ let same : n ≡ min n m = omega (arith, le) in ap (λ j. row_behind k (later_id id j) (m - j) rest) same
]
