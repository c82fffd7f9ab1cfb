-- Partners in the order of writing stand side by side.
use Rattle.std.proofs.Common.{◌≡◌, true, false, List, [], ◌∷◌, inl, inr, refl, sym, ap, ◌∙◌, subst, arith, tests, true≢false}
use Rattle.yd_words.specs.Member.{IsIn}
use Rattle.yd_ids.specs.Ids.{is_written_before}
use Rattle.yd_ids.specs.declared.id.Id.{Id}
use Rattle.yd_ops.specs.Operation.{ArePartners, IsHighUnit, IsLowUnit, Operation, later_id}
use Rattle.yd_ops.specs.Received.{IsWritten}

-- the two are partners with one right origin
abbrev pub AreSideBySide : Operation → Operation → Type 0
AreSideBySide high low = ArePartners high low × (high.right_origin ≡ low.right_origin)

-- where one of two neighbours is the half that wants the other, they are partners; and the last is no high half
abbrev pub AreMet : List Operation → Type 0
AreMet [] = Unit {0}
AreMet (o ∷ []) = IsHighUnit o.content → ⊥
AreMet (o ∷ p ∷ os) = (IsHighUnit o.content → AreSideBySide o p) × (IsLowUnit p.content → AreSideBySide o p) × AreMet (p ∷ os)

-- each high half of the list has its partner there, and each low one but the first
abbrev pub HaveSides : List Operation → Type 0
HaveSides [] = Unit {0}
HaveSides (o ∷ os) = ((x : Operation) → IsIn x (o ∷ os) → IsHighUnit x.content → (p : Operation) × IsIn p (o ∷ os) × AreSideBySide x p)
    × ((x : Operation) → IsIn x os → IsLowUnit x.content → (p : Operation) × IsIn p (o ∷ os) × AreSideBySide p x)

pub not_before : (a b : Id) → b ≡ later_id a 1 → is_written_before b a ≡ true → ⊥
not_before a b e w = absurd (true≢false (sym w ∙ subst (λ x. is_written_before x a ≡ false) (sym e) behind))
  where
    behind : is_written_before (later_id a 1) a ≡ false
    behind = grind (arith, tests)

pub not_own_next : (a : Id) → a ≡ later_id a 1 → ⊥
not_own_next a e = absurd (omega (arith, ap (λ (x : Id). x.clock) e))

-- nothing is written between an id and the next
pub not_between : (a b c : Id) → c ≡ later_id a 1 → is_written_before a b ≡ true → is_written_before b c ≡ true → ⊥
not_between a b c e w v = absurd (true≢false (sym (subst (λ x. is_written_before b x ≡ true) e v) ∙ none))
  where
    none : is_written_before b (later_id a 1) ≡ false
    none = grind (arith, tests)

rest_has : (o p : Operation) (os : List Operation) → IsWritten (o ∷ p ∷ os) → HaveSides (o ∷ p ∷ os) → HaveSides (p ∷ os)
rest_has o p os w all = (high, low)
  where
    high : (x : Operation) → IsIn x (p ∷ os) → IsHighUnit x.content → (q : Operation) × IsIn q (p ∷ os) × AreSideBySide x q
    high x i is = let (q, j, pair) = all.0 x (inr i) is in elim j [
      | inl e ↦ absurd (not_before x.id q.id pair.0.next_clock (subst (λ (r : Operation). is_written_before r.id x.id ≡ true) (sym e) (w.0 x i)))
      | inr k ↦ (q, k, pair)
    ]

    low : (x : Operation) → IsIn x os → IsLowUnit x.content → (q : Operation) × IsIn q (p ∷ os) × AreSideBySide q x
    low x i is = let (q, j, pair) = all.1 x (inr i) is in elim j [
      | inl e ↦ absurd (not_between q.id p.id x.id pair.0.next_clock (subst (λ (r : Operation). is_written_before r.id p.id ≡ true) (sym e) (w.0 p (inl refl))) (w.1.0 x i))
      | inr k ↦ (q, k, pair)
    ]

pub are_met : (os : List Operation) → IsWritten os → HaveSides os → AreMet os
are_met [] w all = tt
are_met (o ∷ []) w all = λ is. let (q, j, pair) = all.0 o (inl refl) is in elim j [
  | inl e ↦ not_own_next o.id (ap (λ (r : Operation). r.id) (sym e) ∙ pair.0.next_clock)
  | inr k ↦ k
]
are_met (o ∷ p ∷ os) w all = (high, low, are_met (p ∷ os) w.1 (rest_has o p os w all))
  where
    high : IsHighUnit o.content → AreSideBySide o p
    high is = let (q, j, pair) = all.0 o (inl refl) is in elim j [
      | inl e ↦ absurd (not_own_next o.id (ap (λ (r : Operation). r.id) (sym e) ∙ pair.0.next_clock))
      | inr k ↦ elim k [
        | inl e ↦ subst (λ r. AreSideBySide o r) e pair
        | inr l ↦ absurd (not_between o.id p.id q.id pair.0.next_clock (w.0 p (inl refl)) (w.1.0 q l))
      ]
    ]

    low : IsLowUnit p.content → AreSideBySide o p
    low is = let (q, j, pair) = all.1 p (inl refl) is in elim j [
      | inl e ↦ subst (λ r. AreSideBySide r p) e pair
      | inr k ↦ elim k [
        | inl e ↦ absurd (not_own_next p.id (pair.0.next_clock ∙ ap (λ (r : Operation). later_id r.id 1) e))
        | inr l ↦ absurd (not_before q.id p.id pair.0.next_clock (w.1.0 q l))
      ]
    ]
