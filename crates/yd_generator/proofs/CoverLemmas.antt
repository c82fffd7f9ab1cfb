-- Honest parts: where each held operation is of a closed part that keeps the edit rules, all that is held keeps them.
use Rattle.std.proofs.Common.{◌≡◌, ◌≢◌, ◌⊎◌, Bool, true, List, Option, Some, None, inl, inr, refl, sym, ◌∙◌, subst}
use Rattle.std.specs.Prelude.{IfSome}
use Rattle.yd_words.specs.Member.{IsIn}
use Rattle.yd_ids.specs.declared.id.Id.{Id}
use Rattle.yd_ops.specs.Operation.{Operation}
use Rattle.yd_origins.specs.Before.{is_before, IsLeftFirst}
use Rattle.yd_origins.specs.Operations.{table_of_all}
use Rattle.yd_ops.specs.Received.{has_operation, IsWritten}
use Rattle.yd_ops.proofs.OneOfLemmas.{operation_with, id_is_there}
use Rattle.yd_meaning.specs.Held.{held_set, standing}
use Rattle.yd_meaning.specs.Order.{operation_set, IsPast, of_need, of_past, MeetsRules, AreHonest}
use Rattle.yd_meaning.specs.Law.{IsPartOf, StaysAsItIs}
use Rattle.yd_meaning.proofs.NeedLemmas.{left_source, right_source}
use Rattle.yd_meaning.proofs.PartLemmas.{part_stays, stands_alike}
use Rattle.yd_meaning.proofs.RowLemmas.{one_operation, written_distinct}
use Rattle.yd_meaning.proofs.StandingLemmas.{standing_in, standing_one, standing_sources}
use Rattle.yd_meaning.proofs.VectorLemmas.{held_written}

module _ (os : List Operation) (w : IsWritten os) (part : List Operation) (is : IsPartOf part (held_set os)) where
  abbrev held : List Operation
  held = held_set os

  stays : StaysAsItIs part held
  stays = part_stays os w part is

  abbrev before_part : Id → Id → Bool
  before_part = is_before (table_of_all (operation_set (standing part)))

  abbrev before_held : Id → Id → Bool
  before_held = is_before (table_of_all (operation_set (standing held)))

  one_in : (o : Operation) → IsIn o held → has_operation part o.id ≡ true → IsIn o part
  one_in o i e = let (p, j, f) = operation_with part o.id e in
      subst (λ q. IsIn q part) (one_operation held (written_distinct held (held_written os w)) p o (is.within p j) i f) j

  -- the past of what is in the part is in the part
  past_down : {x y : Id} → IsPast held x y → has_operation part x ≡ true → IsPast part x y × (has_operation part y ≡ true)
  past_down (of_need {y = y} o i e j) there =
      let k : IsIn o part = one_in o i (subst (λ z. has_operation part z ≡ true) (sym e) there) in (of_need o k e j, is.closed o k y j)
  past_down (of_past p q) there = let (a, b) = past_down p there in let (c, d) = past_down q b in (of_past a c, d)

  -- an operation of an honest part that stands keeps the edit rules
  pub part_meets : AreHonest part → (o : Operation) → IsIn o (standing held) → IsIn o part → MeetsRules held o
  part_meets honest o i j = record {
    one_list = λ p r e f. sym (stays.same_list p (lefts p e)) ∙ meets.one_list p r e f ∙ stays.same_list r (rights r f);
    left_first = first o.left_origin o.right_origin lefts rights meets.left_first;
    past_outside = λ y e past same between.
        let (inside, there) = past_down past (id_is_there part o j) in
        let y_stands : has_operation (standing part) y ≡ true = stands_alike os w part is y there ∙ e in
        meets.past_outside y y_stands inside (stays.same_list y y_stands ∙ same ∙ sym (stays.same_list o.id o_stands))
        (befores o.left_origin y y_stands lefts between.0, behinds o.right_origin y y_stands rights between.1);
  }
    where
      o_stands : has_operation (standing part) o.id ≡ true
      o_stands = stands_alike os w part is o.id (id_is_there part o j) ∙ id_is_there (standing held) o i

      o_in : IsIn o (standing part)
      o_in = standing_one part is.written o j o_stands

      meets : MeetsRules part o
      meets = honest o o_in

      lefts : (p : Id) → o.left_origin ≡ Some p → has_operation (standing part) p ≡ true
      lefts p e = standing_sources part is.written o o_in p (left_source o p e)

      rights : (r : Id) → o.right_origin ≡ Some r → has_operation (standing part) r ≡ true
      rights r e = standing_sources part is.written o o_in r (right_source o r e)

      first : (left right : Option Id) → ((p : Id) → left ≡ Some p → has_operation (standing part) p ≡ true) →
          ((r : Id) → right ≡ Some r → has_operation (standing part) r ≡ true) → IsLeftFirst before_part left right → IsLeftFirst before_held left right
      first None right a b h = tt
      first (Some p) None a b h = tt
      first (Some p) (Some r) a b h = (h.0, sym (stays.same_order p r (a p refl) (b r refl)) ∙ h.1)

      befores : (left : Option Id) (y : Id) → has_operation (standing part) y ≡ true → ((p : Id) → left ≡ Some p → has_operation (standing part) p ≡ true) →
          IfSome left (λ p. (p ≢ y) × (before_held p y ≡ true)) → IfSome left (λ p. (p ≢ y) × (before_part p y ≡ true))
      befores None y i a h = tt
      befores (Some p) y i a h = (h.0, stays.same_order p y (a p refl) i ∙ h.1)

      behinds : (right : Option Id) (y : Id) → has_operation (standing part) y ≡ true → ((r : Id) → right ≡ Some r → has_operation (standing part) r ≡ true) →
          IfSome right (λ r. (y ≢ r) × (before_held y r ≡ true)) → IfSome right (λ r. (y ≢ r) × (before_part y r ≡ true))
      behinds None y i b h = tt
      behinds (Some r) y i b h = (h.0, stays.same_order y r i (b r refl) ∙ h.1)

-- ---- lemmas for callers

-- two closed parts that keep the edit rules, and have all that is held
pub both_honest : (os : List Operation) → IsWritten os → (one other : List Operation) → IsPartOf one (held_set os) → IsPartOf other (held_set os) →
    AreHonest one → AreHonest other → ((o : Operation) → IsIn o (held_set os) → IsIn o one ⊎ IsIn o other) → AreHonest (held_set os)
both_honest os w one other is_one is_other honest also all o i = elim (all o (standing_in (held_set os) (held_written os w) o i).0) [
  | inl j ↦ part_meets os w one is_one honest o i j
  | inr j ↦ part_meets os w other is_other also o i j
]
