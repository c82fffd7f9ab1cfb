-- A type item stays one as more is made.
use Rattle.std.proofs.Common.{◌≡◌, true, ◌||◌, List, [], ◌∷◌, inl, inr, refl, sym, ap, ◌∙◌, true≢false}
use Rattle.std.specs.Prelude.{if◌then◌else◌}
use Rattle.yd_words.specs.Member.{IsIn}
use Rattle.yd_ids.specs.declared.id.Id.{Id}
use Rattle.yd_ids.proofs.IdLemmas.{same_says}
use Rattle.yd_ops.specs.Operation.{Operation}
use Rattle.yd_ops.specs.Received.{has_operation}
use Rattle.yd_editing.specs.Basis.{is_type, has_type_item}

-- the operation with the id is a type
pub type_with : (os : List Operation) (y : Id) → has_type_item os y ≡ true → (o : Operation) × IsIn o os × (o.id ≡ y) × (is_type o.content ≡ true)
type_with [] y e = absurd (true≢false (sym e))
type_with (o ∷ os) y e = elim (same_says o.id y) [
  | inl same ↦ (o, inl refl, same.1, sym (ap (λ t. if t then is_type o.content else has_type_item os y) same.0) ∙ e)
  | inr other ↦ let (p, i, f, g) = type_with os y (sym (ap (λ t. if t then is_type o.content else has_type_item os y) other.0) ∙ e) in (p, inr i, f, g)
]

-- where each operation with the id is a type, and there is one
pub all_types : (os : List Operation) (y : Id) → has_operation os y ≡ true → ((o : Operation) → IsIn o os → o.id ≡ y → is_type o.content ≡ true) → has_type_item os y ≡ true
all_types [] y e f = absurd (true≢false (sym e))
all_types (o ∷ os) y e f = elim (same_says o.id y) [
  | inl same ↦ ap (λ t. if t then is_type o.content else has_type_item os y) same.0 ∙ f o (inl refl) same.1
  | inr other ↦ ap (λ t. if t then is_type o.content else has_type_item os y) other.0 ∙ all_types os y (sym (ap (λ t. t || has_operation os y) other.0) ∙ e) (λ p i. f p (inr i))
]
