-- How many units are counted up to one of them, piece by piece.
use Rattle.std.proofs.Common.{◌≡◌, ◌<◌, ◌≤◌, ◌+◌, ◌-◌, ℕ, zero, suc, Bool, true, false, ◌&&◌, not, List, [], ◌∷◌, ◌++◌, length, map, take, drop, filter, refl, sym, ap, ◌∙◌, arith, tests, length-append, length-drop}
use Rattle.std.specs.Prelude.{if◌then◌else◌}
use Rattle.std.proofs.lemmas.List.{length-take-le}
use Rattle.yd_ids.specs.declared.id.Id.{Id}
use Rattle.yd_ids.specs.Ids.{is_same}
use Rattle.yd_ids.proofs.IdLemmas.{same_itself, same_is}
use Rattle.yd_ops.specs.declared.lists.List.{List as DocList}
use Rattle.yd_ops.specs.Operation.{UnitContent, Operation, later_id, units_of_content}
use Rattle.yd_ops.specs.View.{content_value}
use Rattle.yd_ops.proofs.OperationLemmas.{length-units_of_content, later_later, later_none}
use Rattle.yd_meaning.specs.Document.{Document}
use Rattle.yd_shown.specs.Shown.{is_counted}
use Rattle.yd_state.specs.declared.listing.RunView.{RunView}
use Rattle.yd_state.specs.Lent.{Lent, lent, lent_from, lent_units, units_of_view, IsWithin}
use Rattle.yd_making.proofs.FindingLemmas.{id_behind}
use Rattle.yd_doc.specs.Counted.{counted_ids, ids_from}
use Rattle.yd_doc.proofs.CountedLemmas.{counted_lent, counted-append}
use Rattle.yd_places.specs.Lent.{front_of, lent_to, one_if}
use Rattle.yd_places.specs.Place.{count_to, units_to}

-- ---- units in a row

-- a row without the unit is passed
past_row : (with_it : Bool) (id x : Id) (gone : Bool) (us : List UnitContent) (rest : List Lent) →
    ((x.client.0 ≡ id.client.0) × (id.clock ≤ x.clock) × (x.clock < id.clock + length us) → ⊥) →
    lent_to with_it x (lent_from id gone us ++ rest) ≡ lent_from id gone us ++ lent_to with_it x rest
past_row with_it id x gone [] rest apart = refl
past_row with_it id x gone (u ∷ us) rest apart =
    ap (λ t. if t then (if with_it then first ∷ [] else []) else first ∷ lent_to with_it x (lent_from (later_id id 1) gone us ++ rest)) other
    ∙ ap (λ (vs : List Lent). first ∷ vs) (past_row with_it (later_id id 1) x gone us rest (λ e. apart (e.0, omega (arith, e.1), omega (arith, e.2))))
  where
    first : Lent
    first = record { id = id; content = u; is_deleted = gone }

    other : is_same id x ≡ false
    other = go (is_same id x) refl
      where
        go : (t : Bool) → is_same id x ≡ t → t ≡ false
        go true e = let same = same_is id x e in absurd (apart (ap (λ (y : Id). y.client.0) (sym same), omega (arith, ap (λ (y : Id). y.clock) same), omega (arith, ap (λ (y : Id). y.clock) same)))
        go false e = refl

-- so many behind the first, the row ends there
in_row : (with_it : Bool) (id : Id) (gone : Bool) (us : List UnitContent) (rest : List Lent) (k : ℕ) → k < length us →
    lent_to with_it (later_id id k) (lent_from id gone us ++ rest) ≡ lent_from id gone (take (k + one_if with_it) us)
in_row with_it id gone [] rest k lt = absurd (omega (arith, lt))
in_row with_it id gone (u ∷ us) rest zero lt =
    ap (λ t. if t then (if with_it then record { id = id; content = u; is_deleted = gone } ∷ [] else [])
    else record { id = id; content = u; is_deleted = gone } ∷ lent_to with_it (later_id id 0) (lent_from (later_id id 1) gone us ++ rest)) (ap (is_same id) (later_none id) ∙ same_itself id)
    ∙ ends with_it
  where
    ends : (b : Bool) → (if b then record { id = id; content = u; is_deleted = gone } ∷ [] else []) ≡ lent_from id gone (take (zero + one_if b) (u ∷ us))
    ends true = refl
    ends false = refl
in_row with_it id gone (u ∷ us) rest (suc k) lt =
    ap (λ t. if t then (if with_it then first ∷ [] else []) else first ∷ lent_to with_it (later_id id (suc k)) (lent_from (later_id id 1) gone us ++ rest)) other
    ∙ ap (λ (vs : List Lent). first ∷ vs) (ap (λ y. lent_to with_it y (lent_from (later_id id 1) gone us ++ rest)) (ap (later_id id) same ∙ sym (later_later id 1 k))
    ∙ in_row with_it (later_id id 1) gone us rest k (omega (arith, lt)))
    ∙ ap (λ n. lent_from id gone (take n (u ∷ us))) sums
  where
    sums : suc (k + one_if with_it) ≡ suc k + one_if with_it
    sums = omega arith

    first : Lent
    first = record { id = id; content = u; is_deleted = gone }

    same : suc k ≡ 1 + k
    same = omega arith

    other : is_same id (later_id id (suc k)) ≡ false
    other = grind (arith, tests)

take-take : {X : Type 0} (n m : ℕ) (xs : List X) → n ≤ m → take n (take m xs) ≡ take n xs
take-take zero m xs le = refl
take-take (suc n) zero xs le = absurd (omega (arith, le))
take-take (suc n) (suc m) [] le = refl
take-take (suc n) (suc m) (x ∷ xs) le = ap (λ ys. x ∷ ys) (take-take n m xs (omega (arith, le)))

length-ids : (id : Id) (n : ℕ) → length (ids_from id n) ≡ n
length-ids id zero = refl
length-ids id (suc n) = ap suc (length-ids (later_id id 1) n)

-- ---- pieces

module _ (view : RunView) (within : IsWithin view) where
  abbrev units : List UnitContent
  units = units_of_content (content_value view.content.now)

  abbrev part : List UnitContent
  part = take view.len (drop view.offset units)

  long : length part ≡ view.len
  long = length-take-le view.len (drop view.offset units)
      (omega (arith, within.units, length-units_of_content (content_value view.content.now), length-drop view.offset units))

  -- so many first units are some of a content too
  pub front_within : (len : ℕ) → len ≤ view.len → IsWithin (front_of view len)
  front_within len le = record { units = omega (arith, within.units, le); client = within.client; ids = omega (arith, within.ids, le) }

  -- a piece without the unit is counted whole
  pub past_piece : (with_it : Bool) (x : Id) (old new : List Lent) (n : ℕ) → old ≡ units_of_view view ++ new → counted_ids (units_of_view view) ≡ ids_from view.id n →
      ((x.client.0 ≡ view.id.client.0) × (view.id.clock ≤ x.clock) × (x.clock < view.id.clock + view.len) → ⊥) →
      length (counted_ids (lent_to with_it x old)) ≡ n + length (counted_ids (lent_to with_it x new))
  past_piece with_it x old new n e ids apart =
      ap (λ us. length (counted_ids us)) (ap (lent_to with_it x) e ∙ past_row with_it view.id x view.deleted part new (λ f. apart (f.0, f.1, omega (arith, f.2, long))))
      ∙ ap length (counted-append (units_of_view view) (lent_to with_it x new) ∙ ap (λ (xs : List Id). xs ++ counted_ids (lent_to with_it x new)) ids)
      ∙ length-append (ids_from view.id n) (counted_ids (lent_to with_it x new))
      ∙ ap (λ k. k + length (counted_ids (lent_to with_it x new))) (length-ids view.id n)

  -- a piece with the unit is counted up to it
  pub in_piece : (with_it : Bool) (x : Id) (old new : List Lent) (n : ℕ) → old ≡ units_of_view view ++ new →
      (x.client.0 ≡ view.id.client.0) × (view.id.clock ≤ x.clock) × (x.clock < view.id.clock + view.len) →
      counted_ids (units_of_view (front_of view ((x.clock - view.id.clock) + one_if with_it))) ≡ ids_from view.id n →
      length (counted_ids (lent_to with_it x old)) ≡ n
  in_piece with_it x old new n e inside ids =
      ap (λ us. length (counted_ids us)) (ap (lent_to with_it x) e ∙ ap (λ y. lent_to with_it y (units_of_view view ++ new)) (sym (id_behind view.id x inside.0 inside.1))
      ∙ in_row with_it view.id view.deleted part new (x.clock - view.id.clock) (omega (arith, inside.1, inside.2, long))
      ∙ ap (lent_from view.id view.deleted) (take-take ((x.clock - view.id.clock) + one_if with_it) view.len (drop view.offset units) (fits with_it)))
      ∙ ap length ids ∙ length-ids view.id n
    where
      fits : (b : Bool) → (x.clock - view.id.clock) + one_if b ≤ view.len
      fits true = omega (arith, inside.1, inside.2)
      fits false = omega (arith, inside.1, inside.2)

-- ---- lists

-- no more are counted up to a unit than in all
pub count_within : (with_it : Bool) (x : Id) (us : List Lent) → length (counted_ids (lent_to with_it x us)) ≤ length (counted_ids us)
count_within b x [] = omega arith
count_within b x (v ∷ vs) = go b (is_same v.id x) (not v.is_deleted && is_counted v.content) refl (count_within b x vs)
  where
    go : (c t k : Bool) → (not v.is_deleted && is_counted v.content) ≡ k → length (counted_ids (lent_to b x vs)) ≤ length (counted_ids vs) →
        length (counted_ids (if t then (if c then v ∷ [] else []) else v ∷ lent_to b x vs)) ≤ length (counted_ids (v ∷ vs))
    go true true true e le = rw e (omega arith)
    go true true false e le = rw e (omega arith)
    go false true k e le = omega arith
    go c false true e le = rw e (omega (arith, le))
    go c false false e le = rw e (omega (arith, le))

-- what is counted of a document's list
pub count_is : (document : Document) (name : DocList) (with_it : Bool) (x : Id) → length (counted_ids (lent_to with_it x (lent_units document name))) ≡ count_to document name with_it x
count_is document name with_it x =
    ap (λ us. length (counted_ids us)) (lent_units_to (document.units name)) ∙ ap length (counted_lent document.deleted (units_to with_it x (document.units name)))
    ∙ length-map (filter (λ (o : Operation). is_counted o.content) (filter (λ (o : Operation). not (document.deleted o.id)) (units_to with_it x (document.units name))))
  where
    lent_units_to : (os : List Operation) → lent_to with_it x (map (lent document.deleted) os) ≡ map (lent document.deleted) (units_to with_it x os)
    lent_units_to [] = refl
    lent_units_to (o ∷ os) = go with_it (is_same o.id x) (lent_units_to os)
      where
        go : (b t : Bool) → lent_to with_it x (map (lent document.deleted) os) ≡ map (lent document.deleted) (units_to with_it x os) →
            (if t then (if b then lent document.deleted o ∷ [] else []) else lent document.deleted o ∷ lent_to with_it x (map (lent document.deleted) os))
            ≡ map (lent document.deleted) (if t then (if b then o ∷ [] else []) else o ∷ units_to with_it x os)
        go true true e = refl
        go false true e = refl
        go b false e = ap (λ us. lent document.deleted o ∷ us) e

    length-map : (os : List Operation) → length (map (λ (o : Operation). o.id) os) ≡ length os
    length-map [] = refl
    length-map (o ∷ os) = ap suc (length-map os)
