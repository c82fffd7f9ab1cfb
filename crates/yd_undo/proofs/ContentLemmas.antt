-- What is made of units of a group is a valid content of at least one unit, which can be made.
use Rattle.std.proofs.Common.{◌≡◌, ℕ, zero, suc, ◌<◌, ◌^◌, ◌&&◌, ◌||◌, Bool, true, false, List, [], ◌∷◌, length, refl, sym, ◌∙◌, arith, true≢false}
use Rattle.std.specs.Prelude.{if◌then◌else◌}
use Rattle.yd_words.specs.Each.{Each}
use Rattle.yd_units.specs.Half.{AreUnits, IsHigh, IsLow}
use Rattle.yd_units.proofs.HalfLemmas.{WholeAfter, after_whole}
use Rattle.yd_ops.specs.Operation.{UnitContent, text_unit, any_unit, json_unit, bytes, embedded, mark, nested_type, deleted_unit, gone_unit}
use Rattle.yd_ops.specs.Valid.{IsValidUnit, AreValidTrees, IsValidContent}
use Rattle.yd_ops.specs.Value.{ContentValue, len_of}
use Rattle.yd_ops.specs.Pairs.{is_high, is_low}
use Rattle.yd_ops.proofs.PartnerLemmas.{high_unit, low_unit}
use Rattle.yd_grouping.specs.Groupable.{IsValidUnitContent}
use Rattle.yd_editing.specs.Law.{IsMakeable}
use Rattle.yd_copying.specs.Content.{can_be_made, alone, whole_units, texts_in, trees_in, values_in, content_of}

-- ---- halves

-- a unit that stands alone is no half
alone_quiet : (u : ℕ) → (IsHigh (alone u) → ⊥) × (IsLow (alone u) → ⊥)
alone_quiet u = go (is_high u) refl (is_low u) refl
  where
    go : (h : Bool) → is_high u ≡ h → (l : Bool) → is_low u ≡ l →
        (IsHigh (if h || l then 0xFFFD else u) → ⊥) × (IsLow (if h || l then 0xFFFD else u) → ⊥)
    go true e l f = ((λ high. omega (arith, high.1)), (λ low. omega (arith, low.1)))
    go false e true f = ((λ high. omega (arith, high.1)), (λ low. omega (arith, low.1)))
    go false e false f = ((λ high. true≢false (sym ((high_unit (text_unit u)).1 high) ∙ e)), (λ low. true≢false (sym ((low_unit (text_unit u)).1 low) ∙ f)))

alone_fits : (u : ℕ) → u < 2 ^ 16 → alone u < 2 ^ 16
alone_fits u lt = go (is_high u || is_low u)
  where
    go : (t : Bool) → (if t then 0xFFFD else u) < 2 ^ 16
    go true = omega arith
    go false = lt

quiet_after : (u : ℕ) (us : List ℕ) → (IsHigh u → ⊥) → WholeAfter 0 us → WholeAfter u us
quiet_after u [] quiet w = quiet
quiet_after u (v ∷ us) quiet w = (((λ high. absurd (quiet high)), (λ low. absurd (omega (arith, (w.0.1 low).0)))), w.1)

alone_before : (u : ℕ) (us : List ℕ) → WholeAfter 0 us → WholeAfter 0 (alone u ∷ us)
alone_before u us w = (((λ high. absurd (omega (arith, high.0))), (λ low. absurd ((alone_quiet u).1 low))), quiet_after (alone u) us (alone_quiet u).0 w)

pair_before : (u v : ℕ) (us : List ℕ) → (is_high u && is_low v) ≡ true → WholeAfter 0 us → WholeAfter 0 (u ∷ v ∷ us)
pair_before u v us e w = go (is_high u) refl (is_low v) refl e
  where
    go : (h : Bool) → is_high u ≡ h → (l : Bool) → is_low v ≡ l → (h && l) ≡ true → WholeAfter 0 (u ∷ v ∷ us)
    go true f true g d =
        let high : IsHigh u = (high_unit (text_unit u)).0 f in
        let low : IsLow v = (low_unit (text_unit v)).0 g in (
          ((λ k. absurd (omega (arith, k.0))), (λ k. absurd (omega (arith, k.0, high.1)))),
          (((λ k. low), (λ k. high)), quiet_after v us (λ k. omega (arith, k.1, low.0)) w),
        )
    go true f false g d = absurd (true≢false (sym d))
    go false f l g d = absurd (true≢false (sym d))

units_whole : (us : List ℕ) → WholeAfter 0 (whole_units us)
units_whole [] = λ high. omega (arith, high.0)
units_whole (u ∷ []) = alone_before u [] (λ high. omega (arith, high.0))
units_whole (u ∷ v ∷ us) = go (is_high u && is_low v) refl (units_whole us) (units_whole (v ∷ us))
  where
    go : (t : Bool) → (is_high u && is_low v) ≡ t → WholeAfter 0 (whole_units us) → WholeAfter 0 (whole_units (v ∷ us)) →
        WholeAfter 0 (if t then u ∷ v ∷ whole_units us else alone u ∷ whole_units (v ∷ us))
    go true e pair one = pair_before u v (whole_units us) e pair
    go false e pair one = alone_before u (whole_units (v ∷ us)) one

units_fit : (us : List ℕ) → Each (λ u. u < 2 ^ 16) us → Each (λ u. u < 2 ^ 16) (whole_units us)
units_fit [] each = tt
units_fit (u ∷ []) each = (alone_fits u each.0, tt)
units_fit (u ∷ v ∷ us) each = go (is_high u && is_low v) (units_fit us each.1.1) (units_fit (v ∷ us) each.1)
  where
    go : (t : Bool) → Each (λ w. w < 2 ^ 16) (whole_units us) → Each (λ w. w < 2 ^ 16) (whole_units (v ∷ us)) →
        Each (λ w. w < 2 ^ 16) (if t then u ∷ v ∷ whole_units us else alone u ∷ whole_units (v ∷ us))
    go true pair one = (each.0, (each.1.0, pair))
    go false pair one = (alone_fits u each.0, one)

units_each : (us : List ℕ) → Each (λ u. u < 2 ^ 16) us → AreUnits us
units_each [] each i = omega arith
units_each (u ∷ us) each zero = each.0
units_each (u ∷ us) each (suc i) = units_each us each.1 i

units_some : (u : ℕ) (us : List ℕ) → 0 < length (whole_units (u ∷ us))
units_some u [] = omega arith
units_some u (v ∷ us) = go (is_high u && is_low v)
  where
    go : (t : Bool) → 0 < length (if t then u ∷ v ∷ whole_units us else alone u ∷ whole_units (v ∷ us))
    go true = omega arith
    go false = omega arith

-- ---- values

texts_fit : (us : List UnitContent) → Each IsValidUnitContent us → Each (λ u. u < 2 ^ 16) (texts_in us)
texts_fit [] each = tt
texts_fit (text_unit unit ∷ us) each = (each.0, texts_fit us each.1)
texts_fit (any_unit value ∷ us) each = texts_fit us each.1
texts_fit (json_unit value ∷ us) each = texts_fit us each.1
texts_fit (bytes blob ∷ us) each = texts_fit us each.1
texts_fit (embedded value ∷ us) each = texts_fit us each.1
texts_fit (mark key value ∷ us) each = texts_fit us each.1
texts_fit (nested_type kind ∷ us) each = texts_fit us each.1
texts_fit (deleted_unit ∷ us) each = texts_fit us each.1
texts_fit (gone_unit ∷ us) each = texts_fit us each.1

trees_valid : (us : List UnitContent) → Each IsValidUnitContent us → AreValidTrees (trees_in us)
trees_valid [] each = tt
trees_valid (text_unit unit ∷ us) each = trees_valid us each.1
trees_valid (any_unit value ∷ us) each = (each.0, trees_valid us each.1)
trees_valid (json_unit value ∷ us) each = trees_valid us each.1
trees_valid (bytes blob ∷ us) each = trees_valid us each.1
trees_valid (embedded value ∷ us) each = trees_valid us each.1
trees_valid (mark key value ∷ us) each = trees_valid us each.1
trees_valid (nested_type kind ∷ us) each = trees_valid us each.1
trees_valid (deleted_unit ∷ us) each = trees_valid us each.1
trees_valid (gone_unit ∷ us) each = trees_valid us each.1

values_valid : (us : List UnitContent) → Each IsValidUnitContent us → Each IsValidUnit (values_in us)
values_valid [] each = tt
values_valid (text_unit unit ∷ us) each = values_valid us each.1
values_valid (any_unit value ∷ us) each = values_valid us each.1
values_valid (json_unit value ∷ us) each = (each.0, values_valid us each.1)
values_valid (bytes blob ∷ us) each = values_valid us each.1
values_valid (embedded value ∷ us) each = values_valid us each.1
values_valid (mark key value ∷ us) each = values_valid us each.1
values_valid (nested_type kind ∷ us) each = values_valid us each.1
values_valid (deleted_unit ∷ us) each = values_valid us each.1
values_valid (gone_unit ∷ us) each = values_valid us each.1

-- ---- lemmas for callers

-- a content that a step may make
pub record CanMake (content : ContentValue) : Type 0 where
  pub valid : IsValidContent content
  pub some : 0 < len_of content
  pub makeable : IsMakeable content

pub content_made : (u : UnitContent) (us : List UnitContent) → can_be_made u ≡ true → Each IsValidUnitContent (u ∷ us) → CanMake (content_of (u ∷ us))
content_made (text_unit unit) us e each =
    let fit = units_each (whole_units (unit ∷ texts_in us)) (units_fit (unit ∷ texts_in us) (each.0, texts_fit us each.1)) in
    let whole = after_whole (whole_units (unit ∷ texts_in us)) (units_whole (unit ∷ texts_in us)) in
    record { valid = (fit, whole); some = units_some unit (texts_in us); makeable = (fit, whole) }
content_made (any_unit value) us e each = record { valid = (each.0, trees_valid us each.1); some = omega arith; makeable = tt }
content_made (json_unit value) us e each = record { valid = (each.0, values_valid us each.1); some = omega arith; makeable = tt }
content_made (bytes blob) us e each = record { valid = tt; some = omega arith; makeable = tt }
content_made (embedded value) us e each = record { valid = each.0; some = omega arith; makeable = tt }
content_made (mark key value) us e each = record { valid = each.0; some = omega arith; makeable = tt }
content_made (nested_type kind) us e each = absurd (true≢false (sym e))
content_made deleted_unit us e each = absurd (true≢false (sym e))
content_made gone_unit us e each = absurd (true≢false (sym e))
