-- Halves and their partners: what the tests on them say, and that an operation has one partner.
use Rattle.std.proofs.Common.{◌≡◌, ℕ, Bool, true, false, ◌||◌, ◌&&◌, ◌⊎◌, inl, inr, Option, Some, None, refl, sym, ap, ◌∙◌, subst, arith, tests, true≢false}
use Rattle.std.specs.Prelude.{Decides}
use Rattle.std.proofs.lemmas.Bool.Decides.{Decides-and, Decides-or, Decides-like}
use Rattle.yd_words.proofs.OptionLemmas.{some_is}
use Rattle.yd_units.specs.Half.{IsHigh, IsLow}
use Rattle.yd_ids.specs.declared.id.Id.{Id}
use Rattle.yd_ids.specs.Ids.{is_same, is_same_neighbour}
use Rattle.yd_ids.proofs.IdLemmas.{same_is, same_itself}
use Rattle.yd_ops.specs.Operation.{UnitContent, text_unit, any_unit, json_unit, bytes, embedded, mark, nested_type, deleted_unit, gone_unit, Operation, later_id, IsHighUnit, IsLowUnit, ArePartners}
use Rattle.yd_ops.specs.Pairs.{is_high, is_low, is_text_and, is_half, are_partners}

-- ---- what the tests say

high_decides : (unit : ℕ) → Decides (is_high unit) (IsHigh unit)
high_decides unit = ((λ e. (grind (arith, tests), grind (arith, tests))), (λ high. grind (arith, tests)))

low_decides : (unit : ℕ) → Decides (is_low unit) (IsLow unit)
low_decides unit = ((λ e. (grind (arith, tests), grind (arith, tests))), (λ low. grind (arith, tests)))

never_true : {P : Type 0} → false ≡ true → P
never_true e = absurd (true≢false (sym e))

pub high_unit : (content : UnitContent) → Decides (is_text_and is_high content) (IsHighUnit content)
high_unit (text_unit unit) = high_decides unit
high_unit (any_unit value) = (never_true, λ high. absurd high)
high_unit (json_unit value) = (never_true, λ high. absurd high)
high_unit (bytes blob) = (never_true, λ high. absurd high)
high_unit (embedded value) = (never_true, λ high. absurd high)
high_unit (mark key value) = (never_true, λ high. absurd high)
high_unit (nested_type kind) = (never_true, λ high. absurd high)
high_unit deleted_unit = (never_true, λ high. absurd high)
high_unit gone_unit = (never_true, λ high. absurd high)

pub low_unit : (content : UnitContent) → Decides (is_text_and is_low content) (IsLowUnit content)
low_unit (text_unit unit) = low_decides unit
low_unit (any_unit value) = (never_true, λ low. absurd low)
low_unit (json_unit value) = (never_true, λ low. absurd low)
low_unit (bytes blob) = (never_true, λ low. absurd low)
low_unit (embedded value) = (never_true, λ low. absurd low)
low_unit (mark key value) = (never_true, λ low. absurd low)
low_unit (nested_type kind) = (never_true, λ low. absurd low)
low_unit deleted_unit = (never_true, λ low. absurd low)
low_unit gone_unit = (never_true, λ low. absurd low)

pub same_decides : (a b : Id) → Decides (is_same a b) (a ≡ b)
same_decides a b = (same_is a b, λ one. subst (λ x. is_same a x ≡ true) one (same_itself a))

neighbours_decide : (z w : Option Id) → Decides (is_same_neighbour z w) (z ≡ w)
neighbours_decide None None = ((λ e. refl), (λ one. refl))
neighbours_decide None (Some b) = (never_true, λ one. absurd cc)
neighbours_decide (Some a) None = (never_true, λ one. absurd cc)
neighbours_decide (Some a) (Some b) = ((λ e. ap (λ x. Some x) (same_is a b e)), (λ one. (same_decides a b).1 cc))

-- four tests together
four_decide : {P Q R S : Type 0} {s t u v : Bool} → Decides s P → Decides t Q → Decides u R → Decides v S → Decides (s && t && u && v) (P × Q × R × S)
four_decide {s = s} {t} {u} {v} p q r w = Decides-like (s && t && u && v)
    (λ facts. (facts.0.0.0, facts.0.0.1, facts.0.1, facts.1))
    (λ facts. (((facts.0, facts.1), facts.2), facts.3))
    (Decides-and (s && t && u) v (Decides-and (s && t) u (Decides-and s t p q) r) w)

pub partners_decide : (high low : Operation) → Decides (are_partners high low) (ArePartners high low)
partners_decide high low = Decides-like (are_partners high low)
    (λ facts. record { high_half = facts.0; low_half = facts.1; next_clock = facts.2; behind = facts.3 })
    (λ pair. (pair.high_half, pair.low_half, pair.next_clock, pair.behind))
    (four_decide (high_unit high.content) (low_unit low.content) (same_decides low.id (later_id high.id 1)) (neighbours_decide low.left_origin (Some high.id)))

-- ---- one pair

-- the two are one pair, in either order
abbrev pub AreOnePair : Operation → Operation → Type 0
AreOnePair o p = ArePartners o p ⊎ ArePartners p o

pub pair_decides : (o p : Operation) → Decides (are_partners o p || are_partners p o) (AreOnePair o p)
pair_decides o p = Decides-or (are_partners o p) (are_partners p o) (partners_decide o p) (partners_decide p o)

-- the unit is a half of a pair
abbrev pub IsHalf : UnitContent → Type 0
IsHalf content = IsHighUnit content ⊎ IsLowUnit content

-- no unit is both halves
pub one_half : (content : UnitContent) → IsHighUnit content → IsLowUnit content → ⊥
one_half (text_unit unit) high low = absurd (omega arith)
one_half (any_unit value) high low = high
one_half (json_unit value) high low = high
one_half (bytes blob) high low = high
one_half (embedded value) high low = high
one_half (mark key value) high low = high
one_half (nested_type kind) high low = high
one_half deleted_unit high low = high
one_half gone_unit high low = high

pub pair_flip : (o p : Operation) → AreOnePair o p → AreOnePair p o
pair_flip o p (inl pair) = inr pair
pair_flip o p (inr pair) = inl pair

pub pair_half : (o p : Operation) → AreOnePair o p → IsHalf p.content
pair_half o p (inl pair) = inr pair.low_half
pair_half o p (inr pair) = inl pair.high_half

-- the partners of an operation have one id
pub one_partner : (o p q : Operation) → AreOnePair o p → AreOnePair o q → p.id ≡ q.id
one_partner o p q (inl pair) (inl other) = pair.next_clock ∙ sym other.next_clock
one_partner o p q (inl pair) (inr other) = absurd (one_half o.content pair.high_half other.low_half)
one_partner o p q (inr pair) (inl other) = absurd (one_half o.content other.high_half pair.low_half)
one_partner o p q (inr pair) (inr other) = some_is p.id q.id (sym pair.behind ∙ other.behind)

-- a high half has its partner behind it, and a low one before it
pub high_partner : (o p : Operation) → IsHighUnit o.content → AreOnePair o p → ArePartners o p
high_partner o p high (inl pair) = pair
high_partner o p high (inr pair) = absurd (one_half o.content high pair.low_half)

pub low_partner : (o p : Operation) → IsLowUnit o.content → AreOnePair o p → ArePartners p o
low_partner o p low (inl pair) = absurd (one_half o.content pair.high_half low)
low_partner o p low (inr pair) = pair

pub half_decides : (content : UnitContent) → Decides (is_half content) (IsHalf content)
half_decides content = Decides-or (is_text_and is_high content) (is_text_and is_low content) (high_unit content) (low_unit content)
