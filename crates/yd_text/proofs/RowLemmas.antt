-- Units in a row: whether one is among them, and the unit before it.
use Rattle.std.proofs.Common.{◌≡◌, ◌<◌, ◌≤◌, ◌+◌, ◌-◌, ℕ, zero, suc, Bool, true, false, ◌||◌, ◌⊎◌, inl, inr, List, [], ◌∷◌, ◌++◌, length, map, take, drop, Option, Some, refl, sym, ap, ◌∙◌, arith, true≢false}
use Rattle.std.specs.Prelude.{if◌then◌else◌, Decides}
use Rattle.std.proofs.lemmas.List.{length-take-le, length-drop}
use Rattle.yd_ids.specs.declared.id.Id.{Id}
use Rattle.yd_ids.specs.Ids.{is_same}
use Rattle.yd_ids.proofs.IdLemmas.{same_itself, same_numbers, same_is}
use Rattle.yd_ops.specs.Operation.{Operation, UnitContent, later_id, units_of_content}
use Rattle.yd_ops.specs.View.{content_value}
use Rattle.yd_ops.proofs.OperationLemmas.{length-units_of_content, later_later, later_none}
use Rattle.yd_editing.specs.TextEdit.{stands_before}
use Rattle.yd_state.specs.declared.listing.RunView.{RunView}
use Rattle.yd_state.specs.Lent.{Lent, lent, lent_from, units_of_view, IsWithin}
use Rattle.yd_text.specs.Rows.{is_in_row, last_in_row, unit_before}

-- an id is one of so many from another one on
abbrev pub InRange : Id → ℕ → Id → Type 0
InRange id n x = (x.client.0 ≡ id.client.0) × (id.clock ≤ x.clock) × (x.clock < id.clock + n)

in_range : (id : Id) (n : ℕ) (x : Id) → is_in_row id n x ≡ true → InRange id n x
in_range id zero x e = absurd (true≢false (sym e))
in_range id (suc n) x e = go (is_same id x) refl e (λ g. in_range (later_id id 1) n x g)
  where
    go : (t : Bool) → is_same id x ≡ t → (t || is_in_row (later_id id 1) n x) ≡ true → (is_in_row (later_id id 1) n x ≡ true → InRange (later_id id 1) n x) → InRange id (suc n) x
    go true f g rest = let same = same_is id x f in (ap (λ (y : Id). y.client.0) (sym same), omega (arith, ap (λ (y : Id). y.clock) same), omega (arith, ap (λ (y : Id). y.clock) same))
    go false f g rest = let (c, low, high) = rest g in (c, omega (arith, low), omega (arith, high))

range_in : (id : Id) (n : ℕ) (x : Id) → InRange id n x → is_in_row id n x ≡ true
range_in id zero x h = absurd (omega (arith, h.1, h.2))
range_in id (suc n) x h = go (is_same id x) refl (λ g. range_in (later_id id 1) n x g)
  where
    go : (t : Bool) → is_same id x ≡ t → (InRange (later_id id 1) n x → is_in_row (later_id id 1) n x ≡ true) → (t || is_in_row (later_id id 1) n x) ≡ true
    go true f rest = refl
    go false f rest = rest (h.0, later, omega (arith, h.2))
      where
        later : id.clock + 1 ≤ x.clock
        later = elim (first_or_later id.clock x.clock h.1) [
          | inl e ↦ absurd (true≢false (sym (ap (is_same id) (same_numbers x id h.0 (sym e)) ∙ same_itself id) ∙ f))
          | inr lt ↦ omega (arith, lt)
        ]
          where
            first_or_later : (a b : ℕ) → a ≤ b → (a ≡ b) ⊎ (a < b)
            first_or_later zero zero m = inl refl
            first_or_later zero (suc b) m = inr (omega arith)
            first_or_later (suc a) zero m = absurd (omega (arith, m))
            first_or_later (suc a) (suc b) m = elim (first_or_later a b (omega (arith, m))) [ inl e ↦ inl (ap suc e) | inr k ↦ inr (omega (arith, k)) ]

-- ---- lemmas for callers: pieces

-- the test of a piece's ids
pub row_tested : (id : Id) (n : ℕ) (x : Id) (t : Bool) → Decides t (InRange id n x) → is_in_row id n x ≡ t
row_tested id n x true d = range_in id n x (d.0 refl)
row_tested id n x false d = go (is_in_row id n x) refl
  where
    go : (t : Bool) → is_in_row id n x ≡ t → t ≡ false
    go true e = absurd (true≢false (sym (d.1 (in_range id n x e))))
    go false e = refl

-- the contents of a piece's units
abbrev pub contents_of : RunView → List UnitContent
contents_of view = take view.len (drop view.offset (units_of_content (content_value view.content.now)))

-- there are as many as the piece says
pub length-contents : (view : RunView) → IsWithin view → length (contents_of view) ≡ view.len
length-contents view within = length-take-le view.len (drop view.offset units)
    (omega (arith, within.units, length-units_of_content (content_value view.content.now), length-drop view.offset units))
  where
    units : List UnitContent
    units = units_of_content (content_value view.content.now)

-- ---- the unit before another

-- of a document's units
pub before_lent : (deleted : Id → Bool) (x : Id) (before : Option Id) (os : List Operation) → unit_before x before (map (lent deleted) os) ≡ stands_before x before os
before_lent deleted x before [] = refl
before_lent deleted x before (o ∷ os) = ap (λ r. if is_same o.id x then before else r) (before_lent deleted x (Some o.id) os)

last_later : (before : Option Id) (id : Id) (n : ℕ) → last_in_row (Some id) (later_id id 1) n ≡ last_in_row before id (suc n)
last_later before id zero = ap (λ (y : Id). Some y) (sym (later_none id))
last_later before id (suc n) = ap (λ (y : Id). Some y) (later_later id 1 n ∙ ap (later_id id) same)
  where
    same : 1 + n ≡ suc n
    same = omega arith

-- a row without it is passed
row_passed : (x : Id) (gone : Bool) (id : Id) (us : List UnitContent) (rest : List Lent) (before : Option Id) → is_in_row id (length us) x ≡ false →
    unit_before x before (lent_from id gone us ++ rest) ≡ unit_before x (last_in_row before id (length us)) rest
row_passed x gone id [] rest before e = refl
row_passed x gone id (u ∷ us) rest before e = go (is_same id x) refl e (λ g. row_passed x gone (later_id id 1) us rest (Some id) g)
  where
    go : (t : Bool) → is_same id x ≡ t → (t || is_in_row (later_id id 1) (length us) x) ≡ false →
        (is_in_row (later_id id 1) (length us) x ≡ false → unit_before x (Some id) (lent_from (later_id id 1) gone us ++ rest) ≡ unit_before x (last_in_row (Some id) (later_id id 1) (length us)) rest) →
        (if is_same id x then before else unit_before x (Some id) (lent_from (later_id id 1) gone us ++ rest)) ≡ unit_before x (last_in_row before id (suc (length us))) rest
    go true f g more = absurd (true≢false g)
    go false f g more = ap (λ s. if s then before else unit_before x (Some id) (lent_from (later_id id 1) gone us ++ rest)) f
        ∙ more g ∙ ap (λ b. unit_before x b rest) (last_later before id (length us))

-- in a row it is behind so many
row_found : (gone : Bool) (id : Id) (us : List UnitContent) (rest : List Lent) (before : Option Id) (k : ℕ) → k < length us →
    unit_before (later_id id k) before (lent_from id gone us ++ rest) ≡ last_in_row before id k
row_found gone id [] rest before k lt = absurd (omega (arith, lt))
row_found gone id (u ∷ us) rest before zero lt =
    ap (λ t. if t then before else unit_before (later_id id 0) (Some id) (lent_from (later_id id 1) gone us ++ rest)) (ap (is_same id) (later_none id) ∙ same_itself id)
row_found gone id (u ∷ us) rest before (suc k) lt =
    ap (λ t. if t then before else unit_before (later_id id (suc k)) (Some id) (lent_from (later_id id 1) gone us ++ rest)) other
    ∙ ap (λ y. unit_before y (Some id) (lent_from (later_id id 1) gone us ++ rest)) (ap (later_id id) same ∙ sym (later_later id 1 k))
    ∙ row_found gone (later_id id 1) us rest (Some id) k (omega (arith, lt)) ∙ last_later before id k
  where
    same : suc k ≡ 1 + k
    same = omega arith

    other : is_same id (later_id id (suc k)) ≡ false
    other = go (is_same id (later_id id (suc k))) refl
      where
        go : (t : Bool) → is_same id (later_id id (suc k)) ≡ t → t ≡ false
        go true e = absurd (omega (arith, ap (λ (y : Id). y.clock) (same_is id (later_id id (suc k)) e)))
        go false e = refl

-- ---- lemmas for callers: the unit before another, piece by piece

pub piece_passed : (view : RunView) → IsWithin view → (x : Id) (t : Bool) → Decides t (InRange view.id view.len x) → t ≡ false → (old new : List Lent) → old ≡ units_of_view view ++ new →
    (before : Option Id) → unit_before x before old ≡ unit_before x (last_in_row before view.id view.len) new
piece_passed view within x t d e old new is before = ap (unit_before x before) is
    ∙ row_passed x view.deleted view.id (contents_of view) new before (ap (λ n. is_in_row view.id n x) long ∙ row_tested view.id view.len x t d ∙ e)
    ∙ ap (λ n. unit_before x (last_in_row before view.id n) new) long
  where
    long : length (contents_of view) ≡ view.len
    long = length-contents view within

pub piece_found : (view : RunView) → IsWithin view → (x : Id) → InRange view.id view.len x → (old new : List Lent) → old ≡ units_of_view view ++ new →
    (before : Option Id) → unit_before x before old ≡ last_in_row before view.id (x.clock - view.id.clock)
piece_found view within x inside old new is before = ap (unit_before x before) is
    ∙ ap (λ y. unit_before y before (units_of_view view ++ new)) (sym behind)
    ∙ row_found view.deleted view.id (contents_of view) new before (x.clock - view.id.clock) (omega (arith, inside.1, inside.2, length-contents view within))
  where
    behind : later_id view.id (x.clock - view.id.clock) ≡ x
    behind = same_numbers (later_id view.id (x.clock - view.id.clock)) x (sym inside.0) (omega (arith, inside.1))
