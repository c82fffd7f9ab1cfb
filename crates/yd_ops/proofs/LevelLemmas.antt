-- How much an operation says: levels, and what is left of an operation at a level.
use Rattle.std.proofs.Common.{◌≡◌, true, ℕ, zero, suc, ◌<◌, ◌≤◌, ◌⊎◌, inl, inr, List, refl, sym, ap, ◌∙◌, arith}
use Rattle.yd_words.specs.Member.{IsIn}
use Rattle.yd_words.proofs.TestLemmas.{nat_lt_says}
use Rattle.yd_ops.specs.Operation.{UnitContent, text_unit, any_unit, json_unit, bytes, embedded, mark, nested_type, deleted_unit, gone_unit, Operation, gone_operation, level_of, as_level}
use Rattle.yd_ops.specs.Pairs.{as_torn}
use Rattle.yd_ops.specs.Received.{lowered}
use Rattle.yd_ops.specs.Agreement.{ShareId, AreAlike}
use Rattle.yd_ops.proofs.PartnerLemmas.{IsHalf}

-- ---- levels

pub level_at_most : (content : UnitContent) → level_of content ≤ 2
level_at_most (text_unit unit) = omega arith
level_at_most (any_unit value) = omega arith
level_at_most (json_unit value) = omega arith
level_at_most (bytes blob) = omega arith
level_at_most (embedded value) = omega arith
level_at_most (mark key value) = omega arith
level_at_most (nested_type kind) = omega arith
level_at_most deleted_unit = omega arith
level_at_most gone_unit = omega arith

-- a half is full
pub half_full : (content : UnitContent) → IsHalf content → level_of content ≡ 2
half_full (text_unit unit) half = refl
half_full (any_unit value) half = refl
half_full (json_unit value) half = refl
half_full (bytes blob) half = refl
half_full (embedded value) half = refl
half_full (mark key value) half = refl
half_full (nested_type kind) half = refl
half_full deleted_unit half = absurd (elim half [ inl i ↦ i | inr i ↦ i ])
half_full gone_unit half = absurd (elim half [ inl i ↦ i | inr i ↦ i ])

one_is_deleted : (content : UnitContent) → level_of content ≡ 1 → content ≡ deleted_unit
one_is_deleted (text_unit unit) e = absurd (omega (arith, e))
one_is_deleted (any_unit value) e = absurd (omega (arith, e))
one_is_deleted (json_unit value) e = absurd (omega (arith, e))
one_is_deleted (bytes blob) e = absurd (omega (arith, e))
one_is_deleted (embedded value) e = absurd (omega (arith, e))
one_is_deleted (mark key value) e = absurd (omega (arith, e))
one_is_deleted (nested_type kind) e = absurd (omega (arith, e))
one_is_deleted deleted_unit e = refl
one_is_deleted gone_unit e = absurd (omega (arith, e))

-- ---- an operation at a level

pub as_level-id : (level : ℕ) (o : Operation) → (as_level level o).id ≡ o.id
as_level-id zero o = refl
as_level-id (suc zero) o = refl
as_level-id (suc (suc level)) o = refl

pub as_level-level : (level : ℕ) (o : Operation) → level < level_of o.content → level_of (as_level level o).content ≡ level
as_level-level zero o lt = refl
as_level-level (suc zero) o lt = refl
as_level-level (suc (suc level)) o lt = absurd (omega (arith, lt, level_at_most o.content))

-- below full nothing is left of what it holds
pub as_level-torn : (level : ℕ) (o : Operation) → level < 2 → as_level level (as_torn true o) ≡ as_level level o
as_level-torn zero o lt = refl
as_level-torn (suc zero) o lt = refl
as_level-torn (suc (suc level)) o lt = absurd (omega (arith, lt))

-- what is there is lowered to the level of what came, or stays
pub lowered_either : (there o : Operation) → ((level_of o.content < level_of there.content) × (lowered there o ≡ as_level (level_of o.content) there))
    ⊎ ((level_of there.content ≤ level_of o.content) × (lowered there o ≡ there))
lowered_either there o = elim (nat_lt_says (level_of o.content) (level_of there.content)) [
  | inl s ↦ inl (s.1, rw s.0 refl)
  | inr s ↦ inr (s.1, rw s.0 refl)
]

pub lowered-id : (there o : Operation) → (lowered there o).id ≡ there.id
lowered-id there o = elim (lowered_either there o) [
  | inl s ↦ ap (λ (q : Operation). q.id) s.1 ∙ as_level-id (level_of o.content) there
  | inr s ↦ ap (λ (q : Operation). q.id) s.1
]

pub lowered-level : (there o : Operation) → (level_of (lowered there o).content ≤ level_of o.content) × (level_of (lowered there o).content ≤ level_of there.content)
lowered-level there o = elim (lowered_either there o) [
  | inl s ↦ let e = ap (λ (q : Operation). level_of q.content) s.1 ∙ as_level-level (level_of o.content) there s.0 in (omega (arith, e, s.0), omega (arith, e, s.0))
  | inr s ↦ let e = ap (λ (q : Operation). level_of q.content) s.1 in (omega (arith, e, s.0), omega (arith, e, s.0))
]

-- what says no less than what is there changes nothing
pub lowered_not : (there o : Operation) → level_of there.content ≤ level_of o.content → lowered there o ≡ there
lowered_not there o le = elim (lowered_either there o) [ inl s ↦ absurd (omega (arith, s.0, le)) | inr s ↦ s.1 ]

-- ---- operations that are alike

-- a gone operation has its id alone
abbrev pub AreBare : List Operation → Type 0
AreBare os = (o : Operation) → IsIn o os → level_of o.content ≡ 0 → o ≡ gone_operation o.id

-- of two that are alike, the one that says no more is the other one, down to its level
pub down_to_level : (os : List Operation) → AreAlike os → AreBare os → (o p : Operation) → IsIn o os → IsIn p os → o.id ≡ p.id →
    level_of o.content ≤ level_of p.content → o ≡ as_level (level_of o.content) p
down_to_level os alike bare o p i j id le = go (level_of o.content) refl
  where
    share : {level : ℕ} → level ≤ level_of o.content → ShareId os level o p
    share says = record { one = i; other = j; id = id; says = says; other_says = omega (arith, says, le) }

    go : (level : ℕ) → level_of o.content ≡ level → o ≡ as_level level p
    go zero e = bare o i e ∙ ap gone_operation id
    go (suc zero) e = λ k. record {
      id = id k;
      left_origin = alike.lefts o p (share (omega (arith, e))) k;
      right_origin = alike.rights o p (share (omega (arith, e))) k;
      list = alike.lists o p (share (omega (arith, e))) k;
      content = one_is_deleted o.content e k;
    }
    go (suc (suc level)) e = λ k. record {
      id = id k;
      left_origin = alike.lefts o p (share (omega (arith, e))) k;
      right_origin = alike.rights o p (share (omega (arith, e))) k;
      list = alike.lists o p (share (omega (arith, e))) k;
      content = alike.contents o p (share (omega (arith, e))) k;
    }

-- two that say as much are one
pub say_as_much : (os : List Operation) → AreAlike os → AreBare os → (o p : Operation) → IsIn o os → IsIn p os → o.id ≡ p.id →
    level_of o.content ≡ level_of p.content → o ≡ p
say_as_much os alike bare o p i j id same = down_to_level os alike bare o p i j id (omega (arith, same))
    ∙ ap (λ level. as_level level p) same ∙ sym (down_to_level os alike bare p p j j refl (omega arith))
