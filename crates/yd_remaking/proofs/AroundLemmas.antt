-- A group is that of the whole list, where it is found among units that begin before it.
use Rattle.std.proofs.Common.{◌≡◌, ◌≢◌, ℕ, Bool, true, false, List, [], ◌∷◌, ◌++◌, length, Option, Some, None, inl, inr, refl, sym, ap, ◌∙◌, subst}
use Rattle.std.specs.Prelude.{if◌then◌else◌}
use Rattle.yd_words.specs.Member.{IsIn}
use Rattle.yd_ids.specs.declared.id.Id.{Id}
use Rattle.yd_ids.specs.Ids.{is_same}
use Rattle.yd_ids.proofs.IdLemmas.{same_is}
use Rattle.yd_state.specs.Lent.{Lent, BeginsApart, IsAround}
use Rattle.yd_remaking.specs.Group.{units_from, group_from}
use Rattle.yd_remaking.specs.Parts.{contents_of, IsFound, IsGroupAt}
use Rattle.yd_remaking.specs.Rows.{unit_before, HoldValid}
use Rattle.yd_remaking.specs.declared.finding.Group.{Group}

module _ (x : Id) where
  other : (y : Id) → y ≢ x → is_same y x ≡ false
  other y apart = go (is_same y x) refl
    where
      go : (t : Bool) → is_same y x ≡ t → t ≡ false
      go true e = absurd (apart (same_is y x e))
      go false e = refl

  units_past : (front units : List Lent) → ((u : Lent) → IsIn u front → u.id ≢ x) → units_from x (front ++ units) ≡ units_from x units
  units_past [] units apart = refl
  units_past (u ∷ us) units apart = ap (λ t. if t then u ∷ (us ++ units) else units_from x (us ++ units)) (other u.id (apart u (inl refl)))
      ∙ units_past us units (λ v i. apart v (inr i))

  -- what comes before a first unit with another id does not matter
  any_before : (b c : Option Id) (units : List Lent) → BeginsApart x units → unit_before x b units ≡ unit_before x c units
  any_before b c [] apart = absurd apart
  any_before b c (u ∷ us) apart = ap (λ t. if t then b else unit_before x (Some u.id) us) (other u.id apart)
      ∙ sym (ap (λ t. if t then c else unit_before x (Some u.id) us) (other u.id apart))

  before_past : (b : Option Id) (front units : List Lent) → ((u : Lent) → IsIn u front → u.id ≢ x) → BeginsApart x units →
      unit_before x b (front ++ units) ≡ unit_before x None units
  before_past b [] units apart begins = any_before b None units begins
  before_past b (u ∷ us) units apart begins = ap (λ t. if t then b else unit_before x (Some u.id) (us ++ units)) (other u.id (apart u (inl refl)))
      ∙ before_past (Some u.id) us units (λ v i. apart v (inr i)) begins

-- ---- lemmas for callers

module _ (x : Id) (all units : List Lent) (is : IsAround x all units) where
  pub around_units : units_from x units ≡ units_from x all
  around_units = sym (units_past x is.front units is.apart) ∙ ap (units_from x) (sym is.parts)

  pub around_before : unit_before x None units ≡ unit_before x None all
  around_before = elim is.before [
    | inl none ↦ ap (unit_before x None) (sym (is.parts ∙ ap (λ front. front ++ units) none))
    | inr begins ↦ sym (before_past x None is.front units is.apart begins) ∙ ap (unit_before x None) (sym is.parts)
  ]

  pub found_around : (most : ℕ) (group : Group) → IsFound units x most group → IsFound all x most group
  found_around most group found = record {
    before = found.before ∙ around_before;
    in_range = found.in_range;
    units = found.units ∙ ap (λ us. contents_of (group_from most us)) around_units;
    len = found.len ∙ ap (λ us. length (group_from most us)) around_units;
    some = found.some;
    pieces = found.pieces;
  }

  pub group_around : (most : ℕ) (group : Option Group) → IsGroupAt units x most group → IsGroupAt all x most group
  group_around most None none = sym (ap (group_from most) around_units) ∙ none
  group_around most (Some group) found = found_around most group found

  pub valid_around : HoldValid all → HoldValid units
  valid_around valid = behind is.front (subst HoldValid is.parts valid)
    where
      behind : (front : List Lent) → HoldValid (front ++ units) → HoldValid units
      behind [] all_valid = all_valid
      behind (u ∷ us) all_valid = behind us all_valid.1
