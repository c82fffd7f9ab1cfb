-- Units in a row: whether one is among them, and the unit before it.
use Rattle.std.proofs.Common.{◌≡◌, ◌<◌, ◌≤◌, ◌+◌, ◌-◌, ℕ, zero, suc, Bool, true, false, ◌||◌, List, [], ◌∷◌, ◌++◌, length, drop, Option, Some, refl, sym, ap, ◌∙◌, arith, true≢false}
use Rattle.std.specs.Prelude.{if◌then◌else◌}
use Rattle.std.proofs.lemmas.List.{length-take-le, length-drop}
use Rattle.yd_ids.specs.declared.id.Id.{Id}
use Rattle.yd_ids.specs.Ids.{is_same}
use Rattle.yd_ids.proofs.IdLemmas.{same_itself, same_numbers, same_is}
use Rattle.yd_ops.specs.Operation.{UnitContent, later_id, units_of_content}
use Rattle.yd_ops.specs.View.{content_value}
use Rattle.yd_ops.proofs.OperationLemmas.{length-units_of_content, later_later, later_none}
use Rattle.yd_state.specs.declared.listing.RunView.{RunView}
use Rattle.yd_state.specs.Lent.{Lent, lent_from, IsWithin}
use Rattle.yd_remaking.specs.Found.{view_units}
use Rattle.yd_remaking.specs.Rows.{last_in_row, unit_before}

-- whether an id is one of so many in a row, from one on
abbrev pub is_in_row : Id → ℕ → Id → Bool
is_in_row id zero x = false
is_in_row id (suc n) x = is_same id x || is_in_row (later_id id 1) n x

-- an id is one of so many from another one on
abbrev pub InRange : Id → ℕ → Id → Type 0
InRange id n x = (x.client.0 ≡ id.client.0) × (id.clock ≤ x.clock) × (x.clock < id.clock + n)

in_range : (id : Id) (n : ℕ) (x : Id) → is_in_row id n x ≡ true → InRange id n x
in_range id zero x e = absurd (true≢false (sym e))
in_range id (suc n) x e = go (is_same id x) refl e (λ g. in_range (later_id id 1) n x g)
  where
    go : (t : Bool) → is_same id x ≡ t → (t || is_in_row (later_id id 1) n x) ≡ true → (is_in_row (later_id id 1) n x ≡ true → InRange (later_id id 1) n x) → InRange id (suc n) x
    go true f g rest = let same = same_is id x f in (ap (λ (y : Id). y.client.0) (sym same), omega (arith, ap (λ (y : Id). y.clock) same), omega (arith, ap (λ (y : Id). y.clock) same))
    go false f g rest = let (c, low, high) = rest g in (c, omega (arith, low), omega (arith, high))

-- the test of a piece's ids
pub none_in_row : (id : Id) (n : ℕ) (x : Id) → (InRange id n x → ⊥) → is_in_row id n x ≡ false
none_in_row id n x none = go (is_in_row id n x) refl
  where
    go : (t : Bool) → is_in_row id n x ≡ t → t ≡ false
    go true e = absurd (none (in_range id n x e))
    go false e = refl

-- there are as many units as the piece says
pub length_view : (view : RunView) → IsWithin view → length (view_units view) ≡ view.len
length_view view within = length-take-le view.len (drop view.offset units)
    (omega (arith, within.units, length-units_of_content (content_value view.content.now), length-drop view.offset units))
  where
    units : List UnitContent
    units = units_of_content (content_value view.content.now)

-- ---- the unit before another

last_later : (before : Option Id) (id : Id) (n : ℕ) → last_in_row (Some id) (later_id id 1) n ≡ last_in_row before id (suc n)
last_later before id zero = ap (λ (y : Id). Some y) (sym (later_none id))
last_later before id (suc n) = ap (λ (y : Id). Some y) (later_later id 1 n ∙ ap (later_id id) same)
  where
    same : 1 + n ≡ suc n
    same = omega arith

-- a row without it is passed
pub before_passed : (x : Id) (gone : Bool) (id : Id) (us : List UnitContent) (rest : List Lent) (before : Option Id) → is_in_row id (length us) x ≡ false →
    unit_before x before (lent_from id gone us ++ rest) ≡ unit_before x (last_in_row before id (length us)) rest
before_passed x gone id [] rest before e = refl
before_passed x gone id (u ∷ us) rest before e = go (is_same id x) refl e (λ g. before_passed x gone (later_id id 1) us rest (Some id) g)
  where
    go : (t : Bool) → is_same id x ≡ t → (t || is_in_row (later_id id 1) (length us) x) ≡ false →
        (is_in_row (later_id id 1) (length us) x ≡ false → unit_before x (Some id) (lent_from (later_id id 1) gone us ++ rest) ≡ unit_before x (last_in_row (Some id) (later_id id 1) (length us)) rest) →
        (if is_same id x then before else unit_before x (Some id) (lent_from (later_id id 1) gone us ++ rest)) ≡ unit_before x (last_in_row before id (suc (length us))) rest
    go true f g more = absurd (true≢false g)
    go false f g more = ap (λ s. if s then before else unit_before x (Some id) (lent_from (later_id id 1) gone us ++ rest)) f
        ∙ more g ∙ ap (λ b. unit_before x b rest) (last_later before id (length us))

-- in a row it is behind so many
pub before_found : (gone : Bool) (id : Id) (us : List UnitContent) (rest : List Lent) (before : Option Id) (k : ℕ) → k < length us →
    unit_before (later_id id k) before (lent_from id gone us ++ rest) ≡ last_in_row before id k
before_found gone id [] rest before k lt = absurd (omega (arith, lt))
before_found gone id (u ∷ us) rest before zero lt =
    ap (λ t. if t then before else unit_before (later_id id 0) (Some id) (lent_from (later_id id 1) gone us ++ rest)) (ap (is_same id) (later_none id) ∙ same_itself id)
before_found gone id (u ∷ us) rest before (suc k) lt =
    ap (λ t. if t then before else unit_before (later_id id (suc k)) (Some id) (lent_from (later_id id 1) gone us ++ rest)) other
    ∙ ap (λ y. unit_before y (Some id) (lent_from (later_id id 1) gone us ++ rest)) (ap (later_id id) same ∙ sym (later_later id 1 k))
    ∙ before_found gone (later_id id 1) us rest (Some id) k (omega (arith, lt)) ∙ last_later before id k
  where
    same : suc k ≡ 1 + k
    same = omega arith

    other : is_same id (later_id id (suc k)) ≡ false
    other = go (is_same id (later_id id (suc k))) refl
      where
        go : (t : Bool) → is_same id (later_id id (suc k)) ≡ t → t ≡ false
        go true e = absurd (omega (arith, ap (λ (y : Id). y.clock) (same_is id (later_id id (suc k)) e)))
        go false e = refl

-- an id in a piece is so many behind its first
pub behind_first : (view : RunView) (x : Id) → InRange view.id view.len x → x ≡ later_id view.id (x.clock - view.id.clock)
behind_first view x inside = same_numbers x (later_id view.id (x.clock - view.id.clock)) inside.0 (omega (arith, inside.1))
