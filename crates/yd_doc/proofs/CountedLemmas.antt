-- The live counted units of a document's list, among its units as they are lent, and those of a piece.
use Rattle.std.proofs.Common.{◌≡◌, ℕ, zero, suc, ◌+◌, ◌<◌, ◌≤◌, Bool, true, false, ◌&&◌, not, List, [], ◌∷◌, ◌++◌, None, Some, length, take, drop, map, refl, sym, ap, ap₂, ◌∙◌, subst, arith, length-append, length-drop}
use Rattle.std.specs.Prelude.{slice_get, filter, if◌then◌else◌}
use Rattle.std.proofs.lemmas.List.{length-take-le}
use Rattle.yd_words.specs.Each.{Each}
use Rattle.yd_any.specs.Tree.{AnyTrees, no_trees, tree}
use Rattle.yd_ids.specs.declared.id.Id.{Id}
use Rattle.yd_ops.specs.declared.lists.List.{List as DocList}
use Rattle.yd_ops.specs.Value.{ContentValue, json, binary, string, embed, format, nested, any, deleted}
use Rattle.yd_ops.specs.Operation.{UnitContent, Operation, later_id, units_of_trees, deleted_units, units_of_content}
use Rattle.yd_ops.specs.View.{content_value}
use Rattle.yd_ops.proofs.OperationLemmas.{length-units_of_content, later_later, later_none}
use Rattle.yd_meaning.specs.Document.{Document}
use Rattle.yd_shown.specs.Shown.{is_counted}
use Rattle.yd_editing.specs.TextEdit.{counted_units, unit_at}
use Rattle.yd_state.specs.declared.listing.RunView.{RunView}
use Rattle.yd_state.specs.Lent.{Lent, lent, lent_units, lent_from, units_of_view, IsWithin}
use Rattle.yd_doc.specs.Counted.{counts, counted_ids, ids_from}

-- ---- lemmas for callers: the units of a document

pub counted_lent : (is_deleted : Id → Bool) (os : List Operation) →
    counted_ids (map (lent is_deleted) os) ≡ map (λ (o : Operation). o.id) (filter (λ (o : Operation). is_counted o.content) (filter (λ (o : Operation). not (is_deleted o.id)) os))
counted_lent is_deleted [] = refl
counted_lent is_deleted (o ∷ os) = go (is_deleted o.id) (is_counted o.content) refl (counted_lent is_deleted os)
  where
    live : List Operation
    live = filter (λ (p : Operation). not (is_deleted p.id)) os

    go : (d t : Bool) → is_counted o.content ≡ t →
        counted_ids (map (lent is_deleted) os) ≡ map (λ (p : Operation). p.id) (filter (λ (p : Operation). is_counted p.content) live) →
        (if not d && t then o.id ∷ counted_ids (map (lent is_deleted) os) else counted_ids (map (lent is_deleted) os))
        ≡ map (λ (p : Operation). p.id) (filter (λ (p : Operation). is_counted p.content) (if not d then o ∷ live else live))
    go true t f e = e
    go false true f e = ap (λ ids. o.id ∷ ids) e ∙ sym (ap (λ u. map (λ (p : Operation). p.id) (if u then o ∷ filter (λ (p : Operation). is_counted p.content) live else filter (λ (p : Operation). is_counted p.content) live)) f)
    go false false f e = e ∙ sym (ap (λ u. map (λ (p : Operation). p.id) (if u then o ∷ filter (λ (p : Operation). is_counted p.content) live else filter (λ (p : Operation). is_counted p.content) live)) f)

-- those that are live and counted are the counted ones among the live ones
pub counted_live : (is_deleted : Id → Bool) (os : List Operation) →
    filter (λ (o : Operation). not (is_deleted o.id) && is_counted o.content) os ≡ filter (λ (o : Operation). is_counted o.content) (filter (λ (o : Operation). not (is_deleted o.id)) os)
counted_live is_deleted [] = refl
counted_live is_deleted (o ∷ os) = go (is_deleted o.id) (is_counted o.content) refl (counted_live is_deleted os)
  where
    live : List Operation
    live = filter (λ (p : Operation). not (is_deleted p.id)) os

    counted : List Operation
    counted = filter (λ (p : Operation). is_counted p.content) live

    both : List Operation
    both = filter (λ (p : Operation). not (is_deleted p.id) && is_counted p.content) os

    go : (d t : Bool) → is_counted o.content ≡ t → both ≡ counted → (if not d && t then o ∷ both else both) ≡ filter (λ (p : Operation). is_counted p.content) (if not d then o ∷ live else live)
    go true t f e = e
    go false true f e = ap (λ us. o ∷ us) e ∙ sym (ap (λ u. if u then o ∷ counted else counted) f)
    go false false f e = e ∙ sym (ap (λ u. if u then o ∷ counted else counted) f)

-- the unit with an index is the one with this place
unit_placed : (os : List Operation) (index : ℕ) → slice_get (map (λ (o : Operation). o.id) os) index ≡ unit_at os index
unit_placed [] index = refl
unit_placed (o ∷ os) zero = refl
unit_placed (o ∷ os) (suc index) = unit_placed os index

length-ids : (os : List Operation) → length (map (λ (o : Operation). o.id) os) ≡ length os
length-ids [] = refl
length-ids (o ∷ os) = ap suc (length-ids os)

-- ---- contents

each_map : {X : Type 0} (f : X → UnitContent) (b : Bool) → ((x : X) → is_counted (f x) ≡ b) → (xs : List X) → Each (λ unit. is_counted unit ≡ b) (map f xs)
each_map f b are [] = tt
each_map f b are (x ∷ xs) = (are x, each_map f b are xs)

trees_counted : (ts : AnyTrees) → Each (λ unit. is_counted unit ≡ true) (units_of_trees ts)
trees_counted no_trees = tt
trees_counted (tree t ts) = (refl, trees_counted ts)

deleted_uncounted : (count : ℕ) → Each (λ unit. is_counted unit ≡ false) (deleted_units count)
deleted_uncounted zero = tt
deleted_uncounted (suc count) = (refl, deleted_uncounted count)

all_alike : (content : ContentValue) → Each (λ unit. is_counted unit ≡ counts content) (units_of_content content)
all_alike (json units) = each_map _ true (λ x. refl) units
all_alike (binary blob) = (refl, tt)
all_alike (string units) = each_map _ true (λ x. refl) units
all_alike (embed value) = (refl, tt)
all_alike (format key value) = (refl, tt)
all_alike (nested kind) = (refl, tt)
all_alike (any values) = trees_counted values
all_alike (deleted count) = deleted_uncounted count

some_of : {X : Type 0} (P : X → Type 0) (n : ℕ) (xs : List X) → Each P xs → Each P (take n xs)
some_of P zero xs each = tt
some_of P (suc n) [] each = tt
some_of P (suc n) (x ∷ xs) each = (each.0, some_of P n xs each.1)

behind_of : {X : Type 0} (P : X → Type 0) (n : ℕ) (xs : List X) → Each P xs → Each P (drop n xs)
behind_of P zero xs each = each
behind_of P (suc n) [] each = tt
behind_of P (suc n) (x ∷ xs) each = behind_of P n xs each.1

-- ---- pieces

counted_from : (id : Id) (us : List UnitContent) → Each (λ unit. is_counted unit ≡ true) us → counted_ids (lent_from id false us) ≡ ids_from id (length us)
counted_from id [] each = refl
counted_from id (u ∷ us) each = ap (λ t. if t then id ∷ counted_ids (lent_from (later_id id 1) false us) else counted_ids (lent_from (later_id id 1) false us)) each.0
    ∙ ap (λ ids. id ∷ ids) (counted_from (later_id id 1) us each.1)

uncounted_from : (id : Id) (gone : Bool) (us : List UnitContent) → Each (λ unit. (not gone && is_counted unit) ≡ false) us → counted_ids (lent_from id gone us) ≡ []
uncounted_from id gone [] each = refl
uncounted_from id gone (u ∷ us) each =
    ap (λ t. if t then id ∷ counted_ids (lent_from (later_id id 1) gone us) else counted_ids (lent_from (later_id id 1) gone us)) each.0
    ∙ uncounted_from (later_id id 1) gone us each.1

length-from : (id : Id) (n : ℕ) → length (ids_from id n) ≡ n
length-from id zero = refl
length-from id (suc n) = ap suc (length-from (later_id id 1) n)

id_in_row : (id : Id) (n k : ℕ) (rest : List Id) → k < n → slice_get (ids_from id n ++ rest) k ≡ Some (later_id id k)
id_in_row id zero k rest lt = absurd (omega arith)
id_in_row id (suc n) zero rest lt = ap (λ (x : Id). Some x) (sym (later_none id))
id_in_row id (suc n) (suc k) rest lt = id_in_row (later_id id 1) n k rest (omega arith) ∙ ap (λ (x : Id). Some x) (later_later id 1 k ∙ ap (later_id id) (omega arith))

id_behind_row : (id : Id) (n k : ℕ) (rest : List Id) → n ≤ k → (m : ℕ) → k ≡ n + m → slice_get (ids_from id n ++ rest) k ≡ slice_get rest m
id_behind_row id zero k rest le m e = ap (slice_get rest) (e ∙ omega arith)
id_behind_row id (suc n) zero rest le m e = absurd (omega arith)
id_behind_row id (suc n) (suc k) rest le m e = id_behind_row (later_id id 1) n k rest (omega arith) m (omega arith)

-- ---- lemmas for callers

-- a gone piece has no counted unit, nor has a piece of what is not counted
pub none_counted : (view : RunView) (gone t : Bool) → view.deleted ≡ gone → counts (content_value view.content.now) ≡ t → (not gone && t) ≡ false →
    counted_ids (units_of_view view) ≡ []
none_counted view gone t e f none = uncounted_from view.id view.deleted (take view.len (drop view.offset units))
    (some_of (λ unit. (not view.deleted && is_counted unit) ≡ false) view.len (drop view.offset units)
    (behind_of (λ unit. (not view.deleted && is_counted unit) ≡ false) view.offset units (so units (all_alike (content_value view.content.now)))))
  where
    units : List UnitContent
    units = units_of_content (content_value view.content.now)

    so : (us : List UnitContent) → Each (λ unit. is_counted unit ≡ counts (content_value view.content.now)) us → Each (λ unit. (not view.deleted && is_counted unit) ≡ false) us
    so [] each = tt
    so (u ∷ us) each = (ap₂ (λ d s. not d && s) e (each.0 ∙ f) ∙ none, so us each.1)

-- of another live piece all units are counted
pub all_counted : (view : RunView) → IsWithin view → view.deleted ≡ false → counts (content_value view.content.now) ≡ true →
    counted_ids (units_of_view view) ≡ ids_from view.id view.len
all_counted view within e f =
    ap (λ d. counted_ids (lent_from view.id d part)) e
    ∙ counted_from view.id part (some_of (λ unit. is_counted unit ≡ true) view.len (drop view.offset units)
    (behind_of (λ unit. is_counted unit ≡ true) view.offset units (subst (λ t. Each (λ unit. is_counted unit ≡ t) units) f (all_alike (content_value view.content.now)))))
    ∙ ap (ids_from view.id) long
  where
    units : List UnitContent
    units = units_of_content (content_value view.content.now)

    part : List UnitContent
    part = take view.len (drop view.offset units)

    long : length part ≡ view.len
    long = length-take-le view.len (drop view.offset units)
        (omega (arith, within.units, length-units_of_content (content_value view.content.now), length-drop view.offset units))

pub counted-append : (us vs : List Lent) → counted_ids (us ++ vs) ≡ counted_ids us ++ counted_ids vs
counted-append [] vs = refl
counted-append (u ∷ us) vs = go (not u.is_deleted && is_counted u.content) (counted-append us vs)
  where
    go : (t : Bool) → counted_ids (us ++ vs) ≡ counted_ids us ++ counted_ids vs →
        (if t then u.id ∷ counted_ids (us ++ vs) else counted_ids (us ++ vs)) ≡ (if t then u.id ∷ counted_ids us else counted_ids us) ++ counted_ids vs
    go true e = ap (λ ids. u.id ∷ ids) e
    go false e = e

-- what is counted of a list, in all
pub length-counted : (document : Document) (name : DocList) → length (counted_ids (lent_units document name)) ≡ length (counted_units document name)
length-counted document name = ap length (counted_lent document.deleted (document.units name)) ∙ length-ids (counted_units document name)

-- the unit with an index
pub counted_at : (document : Document) (name : DocList) (index : ℕ) → slice_get (counted_ids (lent_units document name)) index ≡ unit_at (counted_units document name) index
counted_at document name index = ap (λ ids. slice_get ids index) (counted_lent document.deleted (document.units name)) ∙ unit_placed (counted_units document name) index

-- no more are counted than there are
pub counted_within : (us : List Lent) → length (counted_ids us) ≤ length us
counted_within [] = omega arith
counted_within (u ∷ us) = go (not u.is_deleted && is_counted u.content) (counted_within us)
  where
    go : (t : Bool) → length (counted_ids us) ≤ length us → length (if t then u.id ∷ counted_ids us else counted_ids us) ≤ length (u ∷ us)
    go true e = omega (arith, e)
    go false e = omega (arith, e)

-- with a piece, so many more
pub piece_counted : (old new piece : List Lent) (id : Id) (n : ℕ) → old ≡ piece ++ new → counted_ids piece ≡ ids_from id n → length (counted_ids old) ≡ n + length (counted_ids new)
piece_counted old new piece id n e f = ap (λ us. length (counted_ids us)) e ∙ ap length (counted-append piece new) ∙ length-append (counted_ids piece) (counted_ids new)
    ∙ ap (λ k. k + length (counted_ids new)) (ap length f ∙ length-from id n)

-- an index in a piece, and one behind it
pub at_in_piece : (old new piece : List Lent) (id : Id) (n k : ℕ) → old ≡ piece ++ new → counted_ids piece ≡ ids_from id n → k < n →
    slice_get (counted_ids old) k ≡ Some (later_id id k)
at_in_piece old new piece id n k e f lt = ap (λ us. slice_get (counted_ids us) k) e ∙ ap (λ ids. slice_get ids k) (counted-append piece new ∙ ap (λ ids. ids ++ counted_ids new) f)
    ∙ id_in_row id n k (counted_ids new) lt

pub at_behind_piece : (old new piece : List Lent) (id : Id) (n k m : ℕ) → old ≡ piece ++ new → counted_ids piece ≡ ids_from id n → n ≤ k → k ≡ n + m →
    slice_get (counted_ids old) k ≡ slice_get (counted_ids new) m
at_behind_piece old new piece id n k m e f le g = ap (λ us. slice_get (counted_ids us) k) e ∙ ap (λ ids. slice_get ids k) (counted-append piece new ∙ ap (λ ids. ids ++ counted_ids new) f)
    ∙ id_behind_row id n k (counted_ids new) le m g

-- ---- pieces

-- a piece has as many units as it says, so behind it fewer are left
pub fewer_left : (view : RunView) (old new : List Lent) → 0 < view.len → IsWithin view → old ≡ units_of_view view ++ new → length new < length old
fewer_left view old new some within e = omega (arith, ap length e, length-append (units_of_view view) new, long)
  where
    units : List UnitContent
    units = units_of_content (content_value view.content.now)

    length-lent : (id : Id) (gone : Bool) (us : List UnitContent) → length (lent_from id gone us) ≡ length us
    length-lent id gone [] = refl
    length-lent id gone (u ∷ us) = ap suc (length-lent (later_id id 1) gone us)

    long : length (units_of_view view) ≡ view.len
    long = length-lent view.id view.deleted (take view.len (drop view.offset units)) ∙ length-take-le view.len (drop view.offset units)
        (omega (arith, within.units, length-units_of_content (content_value view.content.now), length-drop view.offset units))

-- ---- pieces from the back

get_behind : (xs ys : List Id) (j k : ℕ) → j ≡ length xs + k → slice_get (xs ++ ys) j ≡ slice_get ys k
get_behind [] ys j k e = ap (slice_get ys) (omega (arith, e))
get_behind (x ∷ xs) ys zero k e = absurd (omega (arith, e))
get_behind (x ∷ xs) ys (suc j) k e = get_behind xs ys j k (omega (arith, e))

get_before : (xs ys : List Id) (j : ℕ) → j < length xs → slice_get (xs ++ ys) j ≡ slice_get xs j
get_before [] ys j lt = absurd (omega (arith, lt))
get_before (x ∷ xs) ys zero lt = refl
get_before (x ∷ xs) ys (suc j) lt = get_before xs ys j (omega (arith, lt))

id_in : (id : Id) (n k : ℕ) → k < n → slice_get (ids_from id n) k ≡ Some (later_id id k)
id_in id n k lt = sym (get_before (ids_from id n) [] k (omega (arith, lt, length-from id n))) ∙ id_in_row id n k [] lt

module _ (old new piece : List Lent) (id : Id) (n : ℕ) (e : old ≡ new ++ piece) (f : counted_ids piece ≡ ids_from id n) where
  end_counted : counted_ids old ≡ counted_ids new ++ ids_from id n
  end_counted = ap counted_ids e ∙ counted-append new piece ∙ ap (λ ids. counted_ids new ++ ids) f

  pub end_length : length (counted_ids old) ≡ length (counted_ids new) + n
  end_length = ap length end_counted ∙ length-append (counted_ids new) (ids_from id n) ∙ ap (λ k. length (counted_ids new) + k) (length-from id n)

  -- a unit in the last piece, behind which so many stand
  pub at_in_end : (index left at : ℕ) → index + 1 + left ≡ length (counted_ids old) → left < n → at + left + 1 ≡ n → slice_get (counted_ids old) index ≡ Some (later_id id at)
  at_in_end index left at count lt g = ap (λ ids. slice_get ids index) end_counted
      ∙ get_behind (counted_ids new) (ids_from id n) index at (omega (arith, count, lt, g, end_length)) ∙ id_in id n at (omega (arith, g))

  -- and one before it
  pub at_before_end : (index left rest : ℕ) → index + 1 + left ≡ length (counted_ids old) → n + rest ≡ left →
      (slice_get (counted_ids old) index ≡ slice_get (counted_ids new) index) × (index + 1 + rest ≡ length (counted_ids new))
  at_before_end index left rest count g =
      let fewer : index + 1 + rest ≡ length (counted_ids new) = omega (arith, count, g, end_length) in
      (ap (λ ids. slice_get ids index) end_counted ∙ get_before (counted_ids new) (ids_from id n) index (omega (arith, fewer)), fewer)

-- before a piece fewer units are left
pub fewer_before : (view : RunView) (old new : List Lent) → 0 < view.len → IsWithin view → old ≡ new ++ units_of_view view → length new < length old
fewer_before view old new some within e =
    let turned : length (units_of_view view ++ new) ≡ length old =
    length-append (units_of_view view) new ∙ omega (arith, ap length e, length-append new (units_of_view view)) in
    omega (arith, fewer_left view (units_of_view view ++ new) new some within refl, turned)

-- no unit has an index past the end
pub none_past : (os : List Operation) (index : ℕ) → length os ≤ index → None ≡ unit_at os index
none_past [] index le = refl
none_past (o ∷ os) zero le = absurd (omega (arith, le))
none_past (o ∷ os) (suc index) le = none_past os index (omega (arith, le))
