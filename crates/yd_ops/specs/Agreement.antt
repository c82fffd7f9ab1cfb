-- When updates agree, and when two lists of updates say the same (own).
use Rattle.std.specs.Prelude.{◌≡◌, ◌↔◌, ◌⊎◌, ◌≤◌, ℕ, true, List, [], ◌∷◌, ◌++◌}
use Rattle.yd_words.specs.Member.{IsIn}
use Rattle.yd_ids.specs.declared.id.Id.{Id}
use Rattle.yd_ids.specs.Set.{HasId}
use Rattle.yd_ops.specs.Operation.{Operation, level_of, as_level, operations_of}
use Rattle.yd_ops.specs.Value.{UpdateValue}
use Rattle.yd_ops.specs.Pairs.{are_partners}
use Rattle.yd_ops.specs.Deletes.{SpellLess, deletes_of}

-- ---- agreement

-- the operations of all updates
abbrev pub operations_of_all : List UpdateValue → List Operation
operations_of_all [] = []
operations_of_all (update ∷ updates) = operations_of update ++ operations_of_all updates

-- two of the operations have one id, and each of them says as much as a level, or more
pub record ShareId (os : List Operation) (level : ℕ) (o p : Operation) : Type 0 where
  pub one : IsIn o os
  pub other : IsIn p os
  pub id : o.id ≡ p.id
  pub says : level ≤ level_of o.content
  pub other_says : level ≤ level_of p.content

-- two operations with one id have the same origins and the same list where neither is gone, and the same content where both
-- are full
pub record AreAlike (os : List Operation) : Type 0 where
  pub lefts : (o p : Operation) → ShareId os 1 o p → o.left_origin ≡ p.left_origin
  pub rights : (o p : Operation) → ShareId os 1 o p → o.right_origin ≡ p.right_origin
  pub lists : (o p : Operation) → ShareId os 1 o p → o.list ≡ p.list
  pub contents : (o p : Operation) → ShareId os 2 o p → o.content ≡ p.content

-- the collecting rule: of two partners that one update spells in full, each update spells both less than full or neither
abbrev pub CollectPairs : List UpdateValue → Type 0
CollectPairs updates = (update other : UpdateValue) → IsIn update updates → IsIn other updates → (high low : Operation) →
    IsIn high (operations_of update) → IsIn low (operations_of update) → are_partners high low ≡ true →
    SpellLess (operations_of other) high.id ↔ SpellLess (operations_of other) low.id

-- the updates agree: their operations are alike, and they keep the collecting rule
pub record Agree (updates : List UpdateValue) : Type 0 where
  pub alike : AreAlike (operations_of_all updates)
  pub collected : CollectPairs updates

-- no other operation of its id says less
abbrev pub SaysLeast : List Operation → Operation → Type 0
SaysLeast os o = (p : Operation) → IsIn p os → o.id ≡ p.id → level_of o.content ≤ level_of p.content

-- ---- lists of updates that say the same

-- one of the updates deletes the id by name
abbrev pub DeleteId : List UpdateValue → Id → Type 0
DeleteId [] x = ⊥
DeleteId (update ∷ updates) x = HasId (deletes_of update) x ⊎ DeleteId updates x

-- the lists have the same operations and delete the same ids, in any order and however often
pub record HaveSameContents (one other : List UpdateValue) : Type 0 where
  pub operations : (o : Operation) → IsIn o (operations_of_all one) ↔ IsIn o (operations_of_all other)
  pub deletes : (x : Id) → DeleteId one x ↔ DeleteId other x

-- the first operation is the second, down to the level of the first
pub record SaysNoMore (o p : Operation) : Type 0 where
  pub id : o.id ≡ p.id
  pub level : level_of o.content ≤ level_of p.content
  pub alike : o ≡ as_level (level_of o.content) p

-- what one list says, the other one says too, or less of the same; and they delete the same ids. So it is where some updates
-- of one list are merged in the other
pub record SayTheSame (one other : List UpdateValue) : Type 0 where
  pub there : (o : Operation) → IsIn o (operations_of_all one) → (p : Operation) × IsIn p (operations_of_all other) × SaysNoMore p o
  pub back : (o : Operation) → IsIn o (operations_of_all other) → (p : Operation) × IsIn p (operations_of_all one) × SaysNoMore p o
  pub deletes : (x : Id) → DeleteId one x ↔ DeleteId other x
