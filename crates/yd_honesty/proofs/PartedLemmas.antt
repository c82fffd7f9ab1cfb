-- The walk over what may part the origins of a unit.
use Rattle.std.proofs.Common.{◌≡◌, ℕ, ◌<◌, ◌≤◌, Bool, true, false, ◌&&◌, List, Option, Some, None, inl, inr, length, get_or, sym, ◌∙◌, subst, arith, true≢false}
use Rattle.std.specs.Prelude.{IfSome, slice_get}
use Rattle.yd_words.proofs.TestLemmas.{split, both_hold}
use Rattle.yd_ids.specs.declared.id.Id.{Id}
use Rattle.yd_ops.specs.Received.{has_operation}
use Rattle.yd_meaning.specs.Order.{IsPast, of_past}
use Rattle.yd_received.specs.Received.{ReceivedValue, held_of}
use Rattle.yd_honesty.specs.Dishonest.{is_past}
use Rattle.yd_honesty.specs.Judging.{IsKept, AreEnds, IsPlaceOf, IsParted, NonePartsBefore, BeginsAt, EndsAt, is_behind, is_ahead}
use Rattle.yd_honesty.proofs.EndingLemmas.{past_test}
use Rattle.yd_honesty.proofs.NotingLemmas.{there_is_in}

module _ (r : ReceivedValue) (kept : IsKept r) (ids : List Id) (is_strict : Bool) (cells : List Bool) (x : Id) (left right : Option ℕ) where
  pub parts_none : (from : ℕ) → BeginsAt ids is_strict cells left from → NonePartsBefore r ids is_strict cells x left right from
  parts_none from begins m z lt there past behind ahead = true≢false (sym behind ∙ begins.none m lt)

  -- what is not of the past takes all up to its end away
  pub parts_skip : (ends : List ℕ) (place : ℕ) (y : Id) → AreEnds r ids ends 0 → slice_get ids place ≡ Some y → has_operation (held_of r) x ≡ true → is_past (held_of r) x y ≡ false →
      NonePartsBefore r ids is_strict cells x left right place → NonePartsBefore r ids is_strict cells x left right (get_or ends place 0)
  parts_skip ends place y are there h not_past before m z lt other past behind ahead = elim (split place m) [
    | inl le ↦ elim (are.each place m y z (omega arith) there other le lt) [
      | inl same ↦ no (subst (λ v. IsPast (held_of r) x v) same past)
      | inr more ↦ no (of_past past more)
    ]
    | inr less ↦ before m z less other past behind ahead
  ]
    where
      no : IsPast (held_of r) x y → ⊥
      no p = true≢false (sym ((past_test r kept.whole x y h).1 p) ∙ not_past)

  pub parts_found : (place : ℕ) (y : Id) → slice_get ids place ≡ Some y → has_operation (held_of r) x ≡ true → is_past (held_of r) x y ≡ true →
      (is_behind is_strict cells (length ids) left place && is_ahead is_strict cells (length ids) place right) ≡ true → IsParted r ids is_strict cells x left right
  parts_found place y there h past between = record {
    at = place;
    other = y;
    there = there;
    of_past = (past_test r kept.whole x y h).0 past;
    behind = (both_hold (is_behind is_strict cells (length ids) left place) (is_ahead is_strict cells (length ids) place right) between).0;
    ahead = (both_hold (is_behind is_strict cells (length ids) left place) (is_ahead is_strict cells (length ids) place right) between).1;
  }

  pub parts_all : (to place : ℕ) → EndsAt ids is_strict cells right to → to ≤ place → NonePartsBefore r ids is_strict cells x left right place →
      IsParted r ids is_strict cells x left right → ⊥
  parts_all to place ends le before parted = elim (split to parted.at) [
    | inl above ↦ true≢false (sym parted.ahead ∙ ends.none parted.at above (there_is_in ids parted.at parted.other parted.there).1)
    | inr less ↦ before parted.at parted.other (omega (arith, less, le)) parted.there parted.of_past parted.behind parted.ahead
  ]

-- places that are told are in the list
pub places_in : (ids : List Id) (z : Option Id) (place : Option ℕ) → IsPlaceOf ids z place → IfSome place (λ p. p < length ids)
places_in ids None None is = tt
places_in ids None (Some p) is = absurd is
places_in ids (Some x) None is = tt
places_in ids (Some x) (Some p) is = (there_is_in ids p x is).1
