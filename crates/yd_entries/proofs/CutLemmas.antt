-- Cuts in a content: where one parts a pair, and which units are halves.
use Rattle.std.proofs.Common.{◌≡◌, ℕ, zero, suc, ◌+◌, ◌<◌, List, [], ◌∷◌, map, length, Option, Some, inl, inr, sym, subst, arith}
use Rattle.std.specs.Prelude.{slice_get, slice_index}
use Rattle.std.proofs.lemmas.List.{length-map}
use Rattle.std.proofs.lemmas.Option.{same_Some}
use Rattle.yd_any.specs.Tree.{AnyTree, AnyTrees, no_trees, tree}
use Rattle.yd_units.specs.Half.{IsHigh}
use Rattle.yd_ops.specs.Value.{ContentValue, json, binary, string, embed, nested, any, deleted, format}
use Rattle.yd_ops.specs.Operation.{UnitContent, text_unit, json_unit, bytes, embedded, mark, nested_type, units_of_trees, deleted_unit, deleted_units, units_of_content, IsHighUnit, IsLowUnit}
use Rattle.yd_ops.specs.Valid.{IsValidContent}
use Rattle.yd_ops.proofs.PartnerLemmas.{IsHalf}
use Rattle.yd_entries.specs.Entries.{PartsPair}

-- ---- contents without halves

json_no_half : (values : List (Option AnyTree)) (n : ℕ) (unit : UnitContent) → slice_get (map json_unit values) n ≡ Some unit → IsHalf unit → ⊥
json_no_half [] n unit e half = absurd cc
json_no_half (value ∷ values) zero unit e half = elim (subst IsHalf (sym (same_Some (json_unit value) unit e)) half) [ inl i ↦ i | inr i ↦ i ]
json_no_half (value ∷ values) (suc n) unit e half = json_no_half values n unit e half

trees_no_half : (ts : AnyTrees) (n : ℕ) (unit : UnitContent) → slice_get (units_of_trees ts) n ≡ Some unit → IsHalf unit → ⊥
trees_no_half no_trees n unit e half = absurd cc
trees_no_half (tree t ts) zero unit e half = elim (subst IsHalf (sym (same_Some _ unit e)) half) [ inl i ↦ i | inr i ↦ i ]
trees_no_half (tree t ts) (suc n) unit e half = trees_no_half ts n unit e half

one_no_half : (first : UnitContent) (n : ℕ) (unit : UnitContent) → (IsHalf first → ⊥) → slice_get (first ∷ []) n ≡ Some unit → IsHalf unit → ⊥
one_no_half first zero unit none e half = none (subst IsHalf (sym (same_Some first unit e)) half)
one_no_half first (suc n) unit none e half = absurd cc

deleted_no_half : (count n : ℕ) (unit : UnitContent) → slice_get (deleted_units count) n ≡ Some unit → IsHalf unit → ⊥
deleted_no_half zero n unit e half = absurd cc
deleted_no_half (suc count) zero unit e half = elim (subst IsHalf (sym (same_Some deleted_unit unit e)) half) [ inl i ↦ i | inr i ↦ i ]
deleted_no_half (suc count) (suc n) unit e half = deleted_no_half count n unit e half

-- ---- units of a string

-- a unit of a string is its text unit
text_at : (units : List ℕ) (n : ℕ) (unit : UnitContent) → slice_get (map text_unit units) n ≡ Some unit → unit ≡ text_unit (slice_index units n)
text_at [] n unit e = absurd cc
text_at (u ∷ us) zero unit e = sym (same_Some (text_unit u) unit e)
text_at (u ∷ us) (suc n) unit e = text_at us n unit e

-- ---- lemmas for callers

-- a cut that parts a pair is inside
pub cut_inside : (content : ContentValue) (n : ℕ) → PartsPair content n → (0 < n) × (n < length (units_of_content content))
cut_inside (json values) n cut = absurd cut
cut_inside (binary blob) n cut = absurd cut
cut_inside (string units) n cut = (cut.inside.0, omega (arith, cut.inside.1, length-map units text_unit))
cut_inside (embed t) n cut = absurd cut
cut_inside (format key t) n cut = absurd cut
cut_inside (nested kind) n cut = absurd cut
cut_inside (any ts) n cut = absurd cut
cut_inside (deleted count) n cut = absurd cut

-- the unit behind it is a low half
pub cut_low : (content : ContentValue) (n : ℕ) (unit : UnitContent) → PartsPair content n → slice_get (units_of_content content) n ≡ Some unit → IsLowUnit unit
cut_low (json values) n unit cut e = absurd cut
cut_low (binary blob) n unit cut e = absurd cut
cut_low (string units) n unit cut e = subst IsLowUnit (sym (text_at units n unit e)) cut.low
cut_low (embed t) n unit cut e = absurd cut
cut_low (format key t) n unit cut e = absurd cut
cut_low (nested kind) n unit cut e = absurd cut
cut_low (any ts) n unit cut e = absurd cut
cut_low (deleted count) n unit cut e = absurd cut

-- the unit before it is a high half
pub cut_high : (content : ContentValue) (n : ℕ) (unit : UnitContent) → PartsPair content (n + 1) → slice_get (units_of_content content) n ≡ Some unit → IsHighUnit unit
cut_high (json values) n unit cut e = absurd cut
cut_high (binary blob) n unit cut e = absurd cut
cut_high (string units) n unit cut e = subst IsHighUnit (sym (text_at units n unit e)) (subst (λ k. IsHigh (slice_index units k)) (omega arith) cut.high)
cut_high (embed t) n unit cut e = absurd cut
cut_high (format key t) n unit cut e = absurd cut
cut_high (nested kind) n unit cut e = absurd cut
cut_high (any ts) n unit cut e = absurd cut
cut_high (deleted count) n unit cut e = absurd cut

-- a low half stands behind a cut
pub low_cut : (content : ContentValue) (n : ℕ) (unit : UnitContent) → IsValidContent content → slice_get (units_of_content content) n ≡ Some unit → IsLowUnit unit →
    PartsPair content n
low_cut (json values) n unit valid e low = absurd (json_no_half values n unit e (inr low))
low_cut (binary blob) n unit valid e low = absurd (one_no_half (bytes blob) n unit (λ h. elim h [ inl i ↦ i | inr i ↦ i ]) e (inr low))
low_cut (string units) n unit valid e low = valid.1.lows n (subst IsLowUnit (text_at units n unit e) low)
low_cut (embed t) n unit valid e low = absurd (one_no_half (embedded t) n unit (λ h. elim h [ inl i ↦ i | inr i ↦ i ]) e (inr low))
low_cut (format key t) n unit valid e low = absurd (one_no_half (mark key t) n unit (λ h. elim h [ inl i ↦ i | inr i ↦ i ]) e (inr low))
low_cut (nested kind) n unit valid e low = absurd (one_no_half (nested_type kind) n unit (λ h. elim h [ inl i ↦ i | inr i ↦ i ]) e (inr low))
low_cut (any ts) n unit valid e low = absurd (trees_no_half ts n unit e (inr low))
low_cut (deleted count) n unit valid e low = absurd (deleted_no_half count n unit e (inr low))

-- and a high half before one
pub high_cut : (content : ContentValue) (n : ℕ) (unit : UnitContent) → IsValidContent content → slice_get (units_of_content content) n ≡ Some unit → IsHighUnit unit →
    PartsPair content (n + 1)
high_cut (json values) n unit valid e high = absurd (json_no_half values n unit e (inl high))
high_cut (binary blob) n unit valid e high = absurd (one_no_half (bytes blob) n unit (λ h. elim h [ inl i ↦ i | inr i ↦ i ]) e (inl high))
high_cut (string units) n unit valid e high = valid.1.highs n (subst IsHighUnit (text_at units n unit e) high)
high_cut (embed t) n unit valid e high = absurd (one_no_half (embedded t) n unit (λ h. elim h [ inl i ↦ i | inr i ↦ i ]) e (inl high))
high_cut (format key t) n unit valid e high = absurd (one_no_half (mark key t) n unit (λ h. elim h [ inl i ↦ i | inr i ↦ i ]) e (inl high))
high_cut (nested kind) n unit valid e high = absurd (one_no_half (nested_type kind) n unit (λ h. elim h [ inl i ↦ i | inr i ↦ i ]) e (inl high))
high_cut (any ts) n unit valid e high = absurd (trees_no_half ts n unit e (inl high))
high_cut (deleted count) n unit valid e high = absurd (deleted_no_half count n unit e (inl high))
