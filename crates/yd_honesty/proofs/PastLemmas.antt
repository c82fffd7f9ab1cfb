-- What is of the past of a held operation is what its test says.
use Rattle.std.proofs.Common.{◌≡◌, ℕ, zero, suc, Bool, true, false, ◌||◌, List, [], ◌∷◌, ◌⊎◌, inl, inr, length, refl, sym, ap, ◌∙◌, subst, true≢false}
use Rattle.std.proofs.lemmas.Bool.{or_left, or_right}
use Rattle.std.specs.Prelude.{Decides, if◌then◌else◌}
use Rattle.yd_words.specs.Member.{IsIn, AreDistinct}
use Rattle.yd_ids.specs.declared.id.Id.{Id}
use Rattle.yd_ids.specs.Ids.{is_same}
use Rattle.yd_ids.proofs.IdLemmas.{same_is, same_itself, same_says}
use Rattle.yd_ops.specs.Operation.{Operation}
use Rattle.yd_origins.specs.Table.{ids_of}
use Rattle.yd_ops.specs.Received.{IsWritten}
use Rattle.yd_ops.proofs.OneOfLemmas.{operation_with}
use Rattle.yd_meaning.specs.Held.{needs, round, held_set}
use Rattle.yd_meaning.specs.Order.{rows_of, IsPast, of_need, of_past}
use Rattle.yd_meaning.proofs.RowLemmas.{one_row, one_operation, written_distinct}
use Rattle.yd_meaning.proofs.RoundLemmas.{needs_before, round_in}
use Rattle.yd_meaning.proofs.HeldLemmas.{held_needs, held_set-part}
use Rattle.yd_meaning.proofs.VectorLemmas.{held_written}
use Rattle.yd_honesty.specs.Dishonest.{needs_at, is_past_within, is_past}
use Rattle.yd_honesty.proofs.PassingLemmas.{passes_found, found_passes, one_holds}

-- what the operation with an id needs is what one that is there needs
pub needs_there : (os : List Operation) (x z : Id) → IsIn z (needs_at os x) → (o : Operation) × IsIn o os × (o.id ≡ x) × IsIn z (needs o)
needs_there [] x z i = absurd i
needs_there (o ∷ os) x z i = go (is_same o.id x) refl i (λ j. needs_there os x z j)
  where
    go : (t : Bool) → is_same o.id x ≡ t → IsIn z (if t then needs o else needs_at os x) →
        (IsIn z (needs_at os x) → (p : Operation) × IsIn p os × (p.id ≡ x) × IsIn z (needs p)) → (p : Operation) × IsIn p (o ∷ os) × (p.id ≡ x) × IsIn z (needs p)
    go true e j rest = (o, inl refl, same_is o.id x e, j)
    go false e j rest = let (p, k, f, l) = rest j in (p, inr k, f, l)

-- where no id stands twice, it is what the one with the id needs
needs_at-one : (os : List Operation) → AreDistinct (ids_of (rows_of os)) → (o : Operation) → IsIn o os → needs_at os o.id ≡ needs o
needs_at-one [] a o i = absurd i
needs_at-one (p ∷ ps) a o (inl e) = subst (λ q. (if is_same p.id q.id then needs p else needs_at ps q.id) ≡ needs q) (sym e)
    (ap (λ t. if t then needs p else needs_at ps p.id) (same_itself p.id))
needs_at-one (p ∷ ps) a o (inr i) = elim (same_says p.id o.id) [
  | inl s ↦ absurd (a.0 (subst (λ x. IsIn x (ids_of (rows_of ps))) (sym s.1) (one_row ps o i)))
  | inr s ↦ ap (λ t. if t then needs p else needs_at ps o.id) s.0 ∙ needs_at-one ps a.1 o i
]

-- what is of a past is needed, or is of the past of what is needed
pub first_need : {held : List Operation} {x y : Id} → IsPast held x y →
    (o : Operation) × IsIn o held × (o.id ≡ x) × ((z : Id) × IsIn z (needs o) × ((z ≡ y) ⊎ IsPast held z y))
first_need (of_need {y = y} o i e j) = (o, i, e, (y, j, inl refl))
first_need {held = held} (of_past {z = z} p q) = let (o, i, e, found) = first_need p in let (v, j, way) = found in
    (o, i, e, (v, j, inr (elim way [ inl g ↦ subst (λ u. IsPast held u z) (sym g) q | inr r ↦ of_past r q ])))

-- what the test finds is of the past
past_sound : (held : List Operation) (n : ℕ) (x y : Id) → is_past_within held n x y ≡ true → IsPast held x y
past_sound held zero x y e = absurd (true≢false (sym e))
past_sound held (suc n) x y e =
    let (z, i, f) = passes_found (λ v. is_same v y || is_past_within held n v y) (needs_at held x) e in
    let (o, j, g, k) = needs_there held x z i in
    elim (one_holds (is_same z y) (is_past_within held n z y) f) [
      | inl same ↦ subst (λ v. IsPast held x v) (same_is z y same) (of_need o j g k)
      | inr past ↦ of_past (of_need o j g k) (past_sound held n z y past)
    ]

-- what is of the past of an operation of a round is found in as many steps
past_complete : (held : List Operation) → AreDistinct (ids_of (rows_of held)) → (n : ℕ) (o : Operation) → IsIn o (round needs held n) →
    (y : Id) → IsPast held o.id y → is_past_within held n o.id y ≡ true
past_complete held a zero o i y p = absurd i
past_complete held a (suc n) o i y p =
    let (q, j, e, found) = first_need p in
    let (z, k, way) = found in
    let there : IsIn z (needs o) = subst (λ r. IsIn z (needs r)) (one_operation held a q o j (round_in needs held (suc n) o i) e) k in
    let (r, l, f) = operation_with (round needs held n) z (needs_before needs held n o i z there) in
    found_passes (λ v. is_same v y || is_past_within held n v y) (needs_at held o.id) z
    (subst (λ l. IsIn z l) (sym (needs_at-one held a o (round_in needs held (suc n) o i))) there)
    (elim way [
      | inl one ↦ or_left (is_same z y) (is_past_within held n z y) (subst (λ v. is_same z v ≡ true) one (same_itself z))
      | inr past ↦ or_right (is_same z y) (is_past_within held n z y) (subst (λ v. is_past_within held n v y ≡ true) f
          (past_complete held a n r l y (subst (λ v. IsPast held v y) (sym f) past)))
    ])

-- ---- lemmas for callers

-- the test tells what is of the past of a held operation
pub past_decides : (os : List Operation) → IsWritten os → (o : Operation) → IsIn o (held_set os) → (y : Id) → Decides (is_past (held_set os) o.id y) (IsPast (held_set os) o.id y)
past_decides os w o i y = (
  past_sound (held_set os) (length (held_set os)) o.id y,
  past_complete (held_set os) (written_distinct (held_set os) (held_written os w)) (length (held_set os)) o
      (subst (λ ps. IsIn o ps) (sym (held_set-part os (held_set os) w (λ p j. j) (held_needs os))) i) y,
)
