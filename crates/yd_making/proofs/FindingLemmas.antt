-- A unit of a list, found piece by piece, and what is found of it among a document's units.
use Rattle.std.proofs.Common.{◌≡◌, ◌≢◌, ◌⊎◌, ◌<◌, ◌≤◌, ◌+◌, ◌-◌, ℕ, zero, suc, Bool, true, false, ◌&&◌, ◌||◌, nat_lt, List, [], ◌∷◌, ◌++◌, Option, Some, None, inl, inr, length, map, take, drop, refl, sym, ap, ap₂, ◌∙◌, subst, arith, tests, true≢false, length-append, length-drop}
use Rattle.std.specs.Prelude.{slice_get, is_some, if◌then◌else◌}
use Rattle.std.proofs.lemmas.List.{length-take-le}
use Rattle.yd_words.specs.Each.{Each}
use Rattle.yd_words.specs.Member.{IsIn}
use Rattle.yd_words.specs.Test.{is_some_and}
use Rattle.yd_any.specs.Tree.{AnyTrees, no_trees, tree}
use Rattle.yd_ids.specs.declared.id.Id.{Id}
use Rattle.yd_ids.specs.Ids.{is_same}
use Rattle.yd_ids.proofs.IdLemmas.{same_itself, same_numbers, same_is}
use Rattle.yd_ops.specs.Value.{ContentValue, json, binary, string, embed, format, nested, any, deleted}
use Rattle.yd_ops.specs.declared.contents.Content.{Content}
use Rattle.yd_ops.specs.declared.contents.Content.TheVariants.{Json, Binary, Str, Embed, Format, Nested, Any, Deleted}
use Rattle.yd_ops.specs.Operation.{UnitContent, Operation, text_unit, later_id, units_of_trees, deleted_units, units_of_content}
use Rattle.yd_ops.specs.View.{unit_value, content_value}
use Rattle.yd_any.specs.AnyView.{any_trees}
use Rattle.yd_ops.proofs.OperationLemmas.{length-units_of_content, later_later, later_none}
use Rattle.yd_ops.specs.Pairs.{is_high, is_text_and}
use Rattle.yd_ops.specs.Received.{has_operation}
use Rattle.yd_editing.specs.Made.{units_behind, id_of_first}
use Rattle.yd_editing.specs.Refused.{has_high}
use Rattle.yd_state.specs.declared.listing.RunView.{RunView}
use Rattle.yd_state.specs.Lent.{Lent, lent, lent_from, units_of_view, IsWithin}
use Rattle.yd_making.specs.declared.finding.Found.{Found}
use Rattle.yd_making.specs.Finding.{first_id, found_in, is_high_unit, next_in}

-- ---- units in a row

-- in a row from another id, the unit is looked for behind it
behind_row : (id x : Id) (gone : Bool) (us : List UnitContent) (rest : List Lent) →
    ((x.client.0 ≡ id.client.0) × (id.clock ≤ x.clock) × (x.clock < id.clock + length us) → ⊥) → found_in x (lent_from id gone us ++ rest) ≡ found_in x rest
behind_row id x gone [] rest apart = refl
behind_row id x gone (u ∷ us) rest apart =
    ap (λ t. if t then Some (record { is_high = is_text_and is_high u; next = first_id (lent_from (later_id id 1) gone us ++ rest) }) else found_in x (lent_from (later_id id 1) gone us ++ rest))
    other
    ∙ behind_row (later_id id 1) x gone us rest (λ e. apart (e.0, omega (arith, e.1), omega (arith, e.2)))
  where
    other : is_same id x ≡ false
    other = go (is_same id x) refl
      where
        go : (t : Bool) → is_same id x ≡ t → t ≡ false
        go true e = let same = same_is id x e in absurd (apart (ap (λ (y : Id). y.client.0) (sym same), omega (arith, ap (λ (y : Id). y.clock) same), omega (arith, ap (λ (y : Id). y.clock) same)))
        go false e = refl

later_at : (id : Id) (i k : ℕ) → i ≡ k → later_id id i ≡ later_id id k
later_at id i k e = ap (later_id id) e

-- so many behind the first, it is found there, with the one behind it
in_row : (id : Id) (gone : Bool) (us : List UnitContent) (rest : List Lent) (k : ℕ) (unit : UnitContent) → slice_get us k ≡ Some unit →
    found_in (later_id id k) (lent_from id gone us ++ rest)
    ≡ Some (record { is_high = is_text_and is_high unit; next = first_id (lent_from (later_id id (suc k)) gone (drop (suc k) us) ++ rest) })
in_row id gone [] rest k unit e = absurd cc
in_row id gone (u ∷ us) rest zero unit e =
    ap (λ t. if t then Some (record { is_high = is_text_and is_high u; next = first_id (lent_from (later_id id 1) gone us ++ rest) }) else found_in (later_id id 0) (lent_from (later_id id 1) gone us ++ rest)) here
    ∙ ap (λ v. Some (record { is_high = is_text_and is_high v; next = first_id (lent_from (later_id id 1) gone us ++ rest) })) (one e)
  where
    here : is_same id (later_id id 0) ≡ true
    here = ap (is_same id) (later_none id) ∙ same_itself id

    one : Some u ≡ Some unit → u ≡ unit
    one f = cc
in_row id gone (u ∷ us) rest (suc k) unit e =
    ap (λ t. if t then Some (record { is_high = is_text_and is_high u; next = first_id (lent_from (later_id id 1) gone us ++ rest) })
    else found_in (later_id id (suc k)) (lent_from (later_id id 1) gone us ++ rest)) other
    ∙ ap (λ y. found_in y (lent_from (later_id id 1) gone us ++ rest)) (later_at id (suc k) (1 + k) (omega arith) ∙ sym (later_later id 1 k))
    ∙ in_row (later_id id 1) gone us rest k unit e
    ∙ ap (λ y. Some (record { is_high = is_text_and is_high unit; next = first_id (lent_from y gone (drop (suc k) us) ++ rest) }))
    (later_later id 1 (suc k) ∙ later_at id (1 + suc k) (suc (suc k)) (omega arith))
  where
    other : is_same id (later_id id (suc k)) ≡ false
    other = grind (arith, tests)

-- ---- pieces

module _ (view : RunView) (within : IsWithin view) where
  abbrev units : List UnitContent
  units = units_of_content (content_value view.content.now)

  abbrev part : List UnitContent
  part = take view.len (drop view.offset units)

  long : length part ≡ view.len
  long = length-take-le view.len (drop view.offset units)
      (omega (arith, within.units, length-units_of_content (content_value view.content.now), length-drop view.offset units))

  -- a piece without the unit is passed
  pub not_in_piece : (x : Id) (old new : List Lent) → old ≡ units_of_view view ++ new →
      ((x.client.0 ≡ view.id.client.0) × (view.id.clock ≤ x.clock) × (x.clock < view.id.clock + view.len) → ⊥) → found_in x old ≡ found_in x new
  not_in_piece x old new e apart = ap (found_in x) e ∙ behind_row view.id x view.deleted part new
      (λ f. apart (f.0, f.1, subst (λ n. x.clock < view.id.clock + n) long f.2))

  get-take : {X : Type 0} (n : ℕ) (xs : List X) (i : ℕ) → i < n → slice_get (take n xs) i ≡ slice_get xs i
  get-take zero xs i lt = absurd (omega (arith, lt))
  get-take (suc n) [] i lt = refl
  get-take (suc n) (y ∷ ys) zero lt = refl
  get-take (suc n) (y ∷ ys) (suc i) lt = get-take n ys i (omega (arith, lt))

  get-drop : {X : Type 0} (k : ℕ) (xs : List X) (i : ℕ) → slice_get (drop k xs) i ≡ slice_get xs (k + i)
  get-drop zero xs i = ap (slice_get xs) same
    where
      same : i ≡ 0 + i
      same = omega arith
  get-drop (suc k) [] i = refl
  get-drop (suc k) (y ∷ ys) i = get-drop k ys i ∙ ap (slice_get (y ∷ ys)) same
    where
      same : suc (k + i) ≡ suc k + i
      same = omega arith

  get-some : {X : Type 0} (xs : List X) (i : ℕ) → i < length xs → (x : X) × (slice_get xs i ≡ Some x)
  get-some [] i lt = absurd (omega (arith, lt))
  get-some (y ∷ ys) zero lt = (y, refl)
  get-some (y ∷ ys) (suc i) lt = get-some ys i (omega (arith, lt))

  drop-past : {X : Type 0} (n : ℕ) (xs : List X) → length xs ≤ n → drop n xs ≡ []
  drop-past zero [] le = refl
  drop-past zero (x ∷ xs) le = absurd (omega (arith, le))
  drop-past (suc n) [] le = refl
  drop-past (suc n) (x ∷ xs) le = drop-past n xs (omega (arith, le))

  drop-more : {X : Type 0} (n : ℕ) (xs : List X) → n < length xs → (x : X) × (ys : List X) × (drop n xs ≡ x ∷ ys)
  drop-more n [] lt = absurd (omega (arith, lt))
  drop-more zero (x ∷ xs) lt = (x, xs, refl)
  drop-more (suc n) (x ∷ xs) lt = drop-more n xs (omega (arith, lt))

  -- the one behind, in the piece or behind it
  next_is : (skipped : ℕ) (rest : List Lent) → skipped < view.len →
      first_id (lent_from (later_id view.id (suc skipped)) view.deleted (drop (suc skipped) part) ++ rest) ≡ next_in view skipped rest
  next_is skipped rest lt = go (nat_lt (skipped + 1) view.len) refl
    where
      go : (t : Bool) → nat_lt (skipped + 1) view.len ≡ t →
          first_id (lent_from (later_id view.id (suc skipped)) view.deleted (drop (suc skipped) part) ++ rest) ≡ (if t then Some (later_id view.id (skipped + 1)) else first_id rest)
      go true e = let less : skipped + 1 < view.len = grind (arith, tests) in
          let (u, us, f) = drop-more (suc skipped) part (omega (arith, long, less)) in
          ap (λ vs. first_id (lent_from (later_id view.id (suc skipped)) view.deleted vs ++ rest)) f ∙ ap (λ y. Some y) (later_at view.id (suc skipped) (skipped + 1) (omega arith))
      go false e = let past : view.len ≤ skipped + 1 = grind (arith, tests) in
          ap (λ vs. first_id (lent_from (later_id view.id (suc skipped)) view.deleted vs ++ rest)) (drop-past (suc skipped) part (omega (arith, long, past)))

  -- a unit of the piece is found there
  pub in_piece : (skipped : ℕ) (rest : List Lent) (high : Bool) (next : Option Id) → skipped < view.len →
      high ≡ is_high_unit (slice_get units (view.offset + skipped)) → next ≡ next_in view skipped rest →
      found_in (later_id view.id skipped) (units_of_view view ++ rest) ≡ Some (record { is_high = high; next = next })
  in_piece skipped rest high next lt e f =
      let (unit, there) = get-some part skipped (omega (arith, lt, long)) in
      in_row view.id view.deleted part rest skipped unit there
      ∙ ap₂ (λ (h : Bool) (n : Option Id). Some (record { is_high = h; next = n }))
      (ap is_high_unit (sym there ∙ get-take view.len (drop view.offset units) skipped lt ∙ get-drop view.offset units skipped) ∙ sym e)
      (next_is skipped rest lt ∙ sym f)

-- the unit that an id is, so many behind the first
pub id_behind : (id x : Id) → x.client.0 ≡ id.client.0 → id.clock ≤ x.clock → later_id id (x.clock - id.clock) ≡ x
id_behind id x e le = same_numbers (later_id id (x.clock - id.clock)) x (sym e) (omega (arith, le))

-- among units of which none has the id it is not found
found_behind : (x : Id) (front rest : List Lent) → ((u : Lent) → IsIn u front → u.id ≢ x) → found_in x rest ≡ found_in x (front ++ rest)
found_behind x [] rest apart = refl
found_behind x (u ∷ us) rest apart = go (is_same u.id x) refl (found_behind x us rest (λ v i. apart v (inr i)))
  where
    go : (t : Bool) → is_same u.id x ≡ t → found_in x rest ≡ found_in x (us ++ rest) →
        found_in x rest ≡ (if t then Some (record { is_high = is_text_and is_high u.content; next = first_id (us ++ rest) }) else found_in x (us ++ rest))
    go true e f = absurd (apart u (inl refl) (same_is u.id x e))
    go false e f = f

pub found_from : (x : Id) (all units front : List Lent) → all ≡ front ++ units → ((u : Lent) → IsIn u front → u.id ≢ x) → found_in x units ≡ found_in x all
found_from x all units front parts apart = found_behind x front units apart ∙ ap (found_in x) (sym parts)

-- ---- contents

each_map : {X : Type 0} (f : X → UnitContent) → ((x : X) → is_text_and is_high (f x) ≡ false) → (xs : List X) → Each (λ unit. is_text_and is_high unit ≡ false) (map f xs)
each_map f are [] = tt
each_map f are (x ∷ xs) = (are x, each_map f are xs)

trees_low : (ts : AnyTrees) → Each (λ unit. is_text_and is_high unit ≡ false) (units_of_trees ts)
trees_low no_trees = tt
trees_low (tree t ts) = (refl, trees_low ts)

deleted_low : (count : ℕ) → Each (λ unit. is_text_and is_high unit ≡ false) (deleted_units count)
deleted_low zero = tt
deleted_low (suc count) = (refl, deleted_low count)

none_high : (c : Content) → ((us : List ℕ) → c ≢ Str us) → Each (λ unit. is_text_and is_high unit ≡ false) (units_of_content (content_value c))
none_high (Json units) other = each_map _ (λ x. refl) (map unit_value units)
none_high (Binary blob) other = (refl, tt)
none_high (Str us) other = absurd (other us refl)
none_high (Embed value) other = (refl, tt)
none_high (Format key value) other = (refl, tt)
none_high (Nested kind) other = (refl, tt)
none_high (Any values) other = trees_low (any_trees values)
none_high (Deleted count) other = deleted_low count

-- no unit of a content that is no text is a half
pub no_text : (c : Content) (place : ℕ) → ((us : List ℕ) → c ≢ Str us) → false ≡ is_high_unit (slice_get (units_of_content (content_value c)) place)
no_text c place other = go (units_of_content (content_value c)) place (none_high c other)
  where
    go : (us : List UnitContent) (i : ℕ) → Each (λ unit. is_text_and is_high unit ≡ false) us → false ≡ is_high_unit (slice_get us i)
    go [] i each = refl
    go (u ∷ us) zero each = sym each.0
    go (u ∷ us) (suc i) each = go us i each.1

-- of a text the unit at a place is asked
pub text_high : (us : List ℕ) (place : ℕ) → is_some_and is_high (slice_get us place) ≡ is_high_unit (slice_get (map text_unit us) place)
text_high [] place = refl
text_high (u ∷ us) zero = refl
text_high (u ∷ us) (suc place) = text_high us place

-- ---- the units of a document

module _ (is_deleted : Id → Bool) (x : Id) where
  -- it is found exactly where it is there
  pub found_there : (os : List Operation) → is_some (found_in x (map (lent is_deleted) os)) ≡ has_operation os x
  found_there [] = refl
  found_there (o ∷ os) = go (is_same o.id x) (found_there os)
    where
      go : (t : Bool) → is_some (found_in x (map (lent is_deleted) os)) ≡ has_operation os x →
          is_some (if t then Some (record { is_high = is_text_and is_high o.content; next = first_id (map (lent is_deleted) os) }) else found_in x (map (lent is_deleted) os)) ≡ (t || has_operation os x)
      go true e = refl
      go false e = e

  -- and told whether it is a half
  pub found_high : (os : List Operation) → is_some_and (λ (f : Found). f.is_high) (found_in x (map (lent is_deleted) os)) ≡ has_high os x
  found_high [] = refl
  found_high (o ∷ os) = go (is_same o.id x) (found_high os)
    where
      go : (t : Bool) → is_some_and (λ (f : Found). f.is_high) (found_in x (map (lent is_deleted) os)) ≡ has_high os x →
          is_some_and (λ (f : Found). f.is_high)
          (if t then Some (record { is_high = is_text_and is_high o.content; next = first_id (map (lent is_deleted) os) }) else found_in x (map (lent is_deleted) os))
          ≡ (if t then is_text_and is_high o.content else has_high os x)
      go true e = refl
      go false e = e

  first_lent : (os : List Operation) → first_id (map (lent is_deleted) os) ≡ id_of_first os
  first_lent [] = refl
  first_lent (o ∷ os) = refl

  -- the id behind it, if it is there
  abbrev pub next_found : Option Found → Option Id
  next_found None = None
  next_found (Some found) = found.next

  -- and which unit stands behind it
  pub found_next : (os : List Operation) → next_found (found_in x (map (lent is_deleted) os)) ≡ id_of_first (units_behind (Some x) os)
  found_next [] = refl
  found_next (o ∷ os) = go (is_same o.id x) (found_next os)
    where
      go : (t : Bool) → next_found (found_in x (map (lent is_deleted) os)) ≡ id_of_first (units_behind (Some x) os) →
          next_found (if t then Some (record { is_high = is_text_and is_high o.content; next = first_id (map (lent is_deleted) os) }) else found_in x (map (lent is_deleted) os))
          ≡ id_of_first (if t then os else units_behind (Some x) os)
      go true e = first_lent os
      go false e = e

-- the first of a document's units
pub first_lent_id : (is_deleted : Id → Bool) (os : List Operation) → first_id (map (lent is_deleted) os) ≡ id_of_first os
first_lent_id is_deleted [] = refl
first_lent_id is_deleted (o ∷ os) = refl

-- ---- pieces, as they come

length-lent : (id : Id) (gone : Bool) (us : List UnitContent) → length (lent_from id gone us) ≡ length us
length-lent id gone [] = refl
length-lent id gone (u ∷ us) = ap suc (length-lent (later_id id 1) gone us)

length-view : (view : RunView) → IsWithin view → length (units_of_view view) ≡ view.len
length-view view within = length-lent view.id view.deleted (part view within) ∙ long view within

-- behind a piece fewer units are left
pub fewer_left : (view : RunView) (old new : List Lent) → 0 < view.len → IsWithin view → old ≡ units_of_view view ++ new → length new < length old
fewer_left view old new some within e = omega (arith, ap length e, length-append (units_of_view view) new, length-view view within)

-- the first of the units is the piece's
pub first_of_piece : (view : RunView) (old new : List Lent) → 0 < view.len → IsWithin view → old ≡ units_of_view view ++ new → Some view.id ≡ first_id old
first_of_piece view old new some within e = go (part view within) (long view within) ∙ sym (ap first_id e)
  where
    go : (us : List UnitContent) → length us ≡ view.len → Some view.id ≡ first_id (lent_from view.id view.deleted us ++ new)
    go [] f = absurd (omega (arith, f, some))
    go (u ∷ us) f = refl
