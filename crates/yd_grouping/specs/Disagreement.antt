-- Disagreement: what breaks agreement, and the smallest id that does, as a test (own).
use Rattle.std.specs.Bool.{beq}
use Rattle.std.specs.Prelude.{◌≡◌, ◌↔◌, ◌<◌, ◌⊎◌, Bool, true, false, ◌&&◌, ◌||◌, not, List, [], ◌∷◌, Option, Some, None, map, filter, nat_eq, nat_lt, if◌then◌else◌}
use Rattle.yd_words.specs.Member.{IsIn}
use Rattle.yd_ids.specs.Ids.{is_same, is_same_neighbour, is_smaller}
use Rattle.yd_ids.specs.declared.id.Id.{Id}
use Rattle.yd_ops.specs.Operation.{Operation, level_of, operations_of}
use Rattle.yd_ops.specs.Value.{UpdateValue}
use Rattle.yd_ops.specs.Agreement.{operations_of_all}
use Rattle.yd_ops.specs.Deletes.{SpellLess}
use Rattle.yd_ops.specs.Pairs.{are_partners}
use Rattle.yd_meaning.specs.Names.{same_carried}
use Rattle.yd_grouping.specs.Sameness.{same_content}

-- ---- what breaks agreement

-- neither of the two is gone, and an origin or the list differs
abbrev pub AreElsewhere : Operation → Operation → Type 0
AreElsewhere o p = (0 < level_of o.content) × (0 < level_of p.content) × ((o.left_origin ≡ p.left_origin) × (o.right_origin ≡ p.right_origin) × (o.list ≡ p.list) → ⊥)

-- both are full, and their contents differ
abbrev pub HoldOther : Operation → Operation → Type 0
HoldOther o p = (level_of o.content ≡ 2) × (level_of p.content ≡ 2) × (o.content ≡ p.content → ⊥)

-- two operations with the id differ so
pub record IsUnlike (updates : List UpdateValue) (x : Id) : Type 0 where
  pub one : Operation
  pub other : Operation
  pub one_there : IsIn one (operations_of_all updates)
  pub other_there : IsIn other (operations_of_all updates)
  pub id : one.id ≡ x
  pub same_id : one.id ≡ other.id
  pub unlike : AreElsewhere one other ⊎ HoldOther one other

-- one update spells a pair in full, whose high half has the id, and an update spells just one of its halves less than full
pub record IsHalfCollected (updates : List UpdateValue) (x : Id) : Type 0 where
  pub update : UpdateValue
  pub high : Operation
  pub low : Operation
  pub other : UpdateValue
  pub update_there : IsIn update updates
  pub high_there : IsIn high (operations_of update)
  pub low_there : IsIn low (operations_of update)
  pub other_there : IsIn other updates
  pub id : high.id ≡ x
  pub partners : are_partners high low ≡ true
  pub one_less : SpellLess (operations_of other) high.id ↔ SpellLess (operations_of other) low.id → ⊥

-- the id breaks agreement in one of these ways
abbrev pub BreaksAgreement : List UpdateValue → Id → Type 0
BreaksAgreement updates x = IsUnlike updates x ⊎ IsHalfCollected updates x

-- ---- the tests

-- whether one of some things passes a test
abbrev pub some_passes : {X : Type 0} → (X → Bool) → List X → Bool
some_passes test [] = false
some_passes test (x ∷ xs) = test x || some_passes test xs

-- whether the two have one id, and differ so
abbrev pub are_unlike : Operation → Operation → Bool
are_unlike o p = is_same o.id p.id && (
    (nat_lt 0 (level_of o.content) && nat_lt 0 (level_of p.content)
    && not (is_same_neighbour o.left_origin p.left_origin && is_same_neighbour o.right_origin p.right_origin && same_carried o.list p.list))
    || (nat_eq (level_of o.content) 2 && nat_eq (level_of p.content) 2 && not (same_content o.content p.content)))

-- whether two operations with the id differ so
abbrev pub is_unlike : List UpdateValue → Id → Bool
is_unlike updates x = some_passes (λ o. is_same o.id x && some_passes (are_unlike o) (operations_of_all updates)) (operations_of_all updates)

-- whether one of the operations spells the id less than full
abbrev pub spells_less : List Operation → Id → Bool
spells_less os x = some_passes (λ o. is_same o.id x && nat_lt (level_of o.content) 2) os

-- whether an update spells a pair in full, whose high half has the id, and an update spells just one of its halves less than full
abbrev pub is_half_collected : List UpdateValue → Id → Bool
is_half_collected updates x = some_passes (λ update. some_passes (λ high. is_same high.id x && some_passes (λ low. are_partners high low
    && some_passes (λ other. not (beq (spells_less (operations_of other) high.id) (spells_less (operations_of other) low.id))) updates) (operations_of update))
    (operations_of update)) updates

-- whether the id breaks agreement
abbrev pub breaks_agreement : List UpdateValue → Id → Bool
breaks_agreement updates x = is_unlike updates x || is_half_collected updates x

-- ---- the smallest

-- the smaller of two ids, of which one may be absent
abbrev pub smaller_of : Id → Option Id → Id
smaller_of x None = x
smaller_of x (Some y) = if is_smaller y x then y else x

-- the smallest of some ids, if there is one
abbrev pub smallest_of : List Id → Option Id
smallest_of [] = None
smallest_of (x ∷ xs) = Some (smaller_of x (smallest_of xs))

-- the smallest id that breaks agreement, if one does
abbrev pub disagreement_of : List UpdateValue → Option Id
disagreement_of updates = smallest_of (map (λ (o : Operation). o.id) (filter (λ (o : Operation). breaks_agreement updates o.id) (operations_of_all updates)))
