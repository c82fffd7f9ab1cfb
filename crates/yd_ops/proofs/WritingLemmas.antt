-- The order of writing: it is strict, one more operation keeps it, and a list in it is told by its operations.
use Rattle.std.proofs.Common.{◌≡◌, ◌≢◌, ◌≤◌, Bool, true, false, cond, List, [], ◌∷◌, ◌⊎◌, inl, inr, refl, sym, ap, ap₂, ◌∙◌, subst, arith, true≢false}
use Rattle.std.proofs.lemmas.Bool.{cases_Bool, false_from_ne_true}
use Rattle.yd_words.specs.Member.{IsIn}
use Rattle.yd_words.proofs.TestLemmas.{Says}
use Rattle.yd_ids.specs.Ids.{is_same, is_written_before}
use Rattle.yd_ids.proofs.IdLemmas.{same_says, written_through, written_other, written_differs, written_one_way}
use Rattle.yd_ops.specs.Operation.{Operation, level_of}
use Rattle.yd_ops.specs.Received.{has_operation, IsWritten, lowered, taken_in}
use Rattle.yd_ops.proofs.OneOfLemmas.{operation_with, id_not_there, none_has}
use Rattle.yd_ops.proofs.LevelLemmas.{lowered-id, lowered-level, lowered_not}

-- in the order of writing no id stands twice
pub written_agrees : (os : List Operation) → IsWritten os → (o p : Operation) → IsIn o os → IsIn p os → o.id ≡ p.id → o ≡ p
written_agrees [] w o p i j e = absurd i
written_agrees (q ∷ qs) w o p (inl f) (inl g) e = f ∙ sym g
written_agrees (q ∷ qs) w o p (inl f) (inr j) e = absurd (written_differs q.id p.id (w.0 p j) (sym (ap (λ (r : Operation). r.id) f) ∙ e))
written_agrees (q ∷ qs) w o p (inr i) (inl g) e = absurd (written_differs q.id o.id (w.0 o i) (sym (e ∙ ap (λ (r : Operation). r.id) g)))
written_agrees (q ∷ qs) w o p (inr i) (inr j) e = written_agrees qs w.1 o p i j e

-- two lists in the order of writing with the same operations are one
pub written_alone : (os ps : List Operation) → IsWritten os → IsWritten ps →
    ((o : Operation) → IsIn o os → IsIn o ps) → ((o : Operation) → IsIn o ps → IsIn o os) → os ≡ ps
written_alone [] [] v w there back = refl
written_alone [] (p ∷ ps) v w there back = absurd (back p (inl refl))
written_alone (o ∷ os) [] v w there back = absurd (there o (inl refl))
written_alone (o ∷ os) (p ∷ ps) v w there back = ap₂ (λ q qs. q ∷ qs) first (written_alone os ps v.1 w.1 there_behind back_behind)
  where
    first : o ≡ p
    first = elim (there o (inl refl)) [
      | inl e ↦ e
      | inr i ↦ elim (back p (inl refl)) [ inl e ↦ sym e | inr j ↦ absurd (written_one_way p.id o.id (w.0 o i) (v.0 p j)) ]
    ]

    there_behind : (q : Operation) → IsIn q os → IsIn q ps
    there_behind q i = elim (there q (inr i)) [
      | inl e ↦ absurd (written_differs o.id q.id (v.0 q i) (ap (λ (r : Operation). r.id) (first ∙ sym e)))
      | inr j ↦ j
    ]

    back_behind : (q : Operation) → IsIn q ps → IsIn q os
    back_behind q i = elim (back q (inr i)) [
      | inl e ↦ absurd (written_differs p.id q.id (w.0 q i) (ap (λ (r : Operation). r.id) (sym first ∙ sym e)))
      | inr j ↦ j
    ]

-- ---- one operation more

-- the operation is the one that came where its id was not there, or one of another id that was there, or what is lowered
abbrev pub IsTaken : Operation → List Operation → Operation → Type 0
IsTaken o os q = ((q ≡ o) × (has_operation os o.id ≡ false)) ⊎ ((IsIn q os × (q.id ≢ o.id)) ⊎ ((p : Operation) × IsIn p os × (p.id ≡ o.id) × (q ≡ lowered p o)))

-- the operations with one more are so
pub taken_is : (o : Operation) (os : List Operation) → IsWritten os → (q : Operation) → IsIn q (taken_in o os) → IsTaken o os q
taken_is o [] w q (inl e) = inl (e, refl)
taken_is o [] w q (inr i) = absurd i
taken_is o (p ∷ ps) w q i = elim (same_says o.id p.id) [
  | inl same ↦ here same.1 (subst (λ t. IsIn q (cond t (lowered p o ∷ ps) (cond (is_written_before o.id p.id) (o ∷ p ∷ ps) (p ∷ taken_in o ps)))) same.0 i)
  | inr other ↦ place other.1 other.0 (is_written_before o.id p.id) refl (λ j. taken_is o ps w.1 q j)
      (subst (λ t. IsIn q (cond t (lowered p o ∷ ps) (cond (is_written_before o.id p.id) (o ∷ p ∷ ps) (p ∷ taken_in o ps)))) other.0 i)
]
  where
    here : o.id ≡ p.id → IsIn q (lowered p o ∷ ps) → IsTaken o (p ∷ ps) q
    here same (inl e) = inr (inr (p, inl refl, sym same, e))
    here same (inr j) = inr (inl (inr j, λ e. written_differs p.id q.id (w.0 q j) (sym same ∙ sym e)))

    deeper : o.id ≢ p.id → is_same o.id p.id ≡ false → IsTaken o ps q → IsTaken o (p ∷ ps) q
    deeper other differs (inl (e, none)) = inl (e, none_has (p ∷ ps) o.id (λ r j f. elim j [ inl g ↦ other (sym (sym (ap (λ (s : Operation). s.id) g) ∙ f)) | inr k ↦ id_not_there ps o.id none r k f ]))
    deeper other differs (inr (inl (j, differ))) = inr (inl (inr j, differ))
    deeper other differs (inr (inr (r, j, id, e))) = inr (inr (r, inr j, id, e))

    place : o.id ≢ p.id → is_same o.id p.id ≡ false → (t : Bool) → is_written_before o.id p.id ≡ t → (IsIn q (taken_in o ps) → IsTaken o ps q) → IsIn q (cond t (o ∷ p ∷ ps) (p ∷ taken_in o ps)) → IsTaken o (p ∷ ps) q
    place other differs true before f (inl e) = inl (
      e,
      none_has (p ∷ ps) o.id (λ r j h. elim j [
        | inl g ↦ other (sym (sym (ap (λ (s : Operation). s.id) g) ∙ h))
        | inr k ↦ written_differs o.id r.id (written_through o.id p.id r.id before (w.0 r k)) (sym h)
      ]),
    )
    place other differs true before f (inr j) = inr (inl (
      j,
      λ h. elim j [
        | inl g ↦ other (sym (sym (ap (λ (s : Operation). s.id) g) ∙ h))
        | inr k ↦ written_differs o.id q.id (written_through o.id p.id q.id before (w.0 q k)) (sym h)
      ],
    ))
    place other differs false before f (inl e) = inr (inl (inl e, λ h. other (sym (sym (ap (λ (s : Operation). s.id) e) ∙ h))))
    place other differs false before f (inr j) = deeper other differs (f j)

-- one whose id is not there is taken
pub taken_new : (o : Operation) (os : List Operation) → has_operation os o.id ≡ false → IsIn o (taken_in o os)
taken_new o os none = go os (λ p i. id_not_there os o.id none p i)
  where
    go : (ps : List Operation) → ((p : Operation) → IsIn p ps → p.id ≢ o.id) → IsIn o (taken_in o ps)
    go [] others = inl refl
    go (q ∷ qs) others = elim (same_says o.id q.id) [
      | inl same ↦ absurd (others q (inl refl) (sym same.1))
      | inr other ↦ rw other.0 (at_place (is_written_before o.id q.id) (go qs (λ p i. others p (inr i))))
    ]
      where
        at_place : (t : Bool) → IsIn o (taken_in o qs) → IsIn o (cond t (o ∷ q ∷ qs) (q ∷ taken_in o qs))
        at_place true i = inl refl
        at_place false i = inr i

-- those of other ids stay
pub taken_stays : (o : Operation) (os : List Operation) (p : Operation) → IsIn p os → p.id ≢ o.id → IsIn p (taken_in o os)
taken_stays o [] p i differ = absurd i
taken_stays o (q ∷ qs) p i differ = go (is_same o.id q.id) (same_says o.id q.id) (is_written_before o.id q.id) i (λ j. taken_stays o qs p j differ)
  where
    go : (s : Bool) → Says s (o.id ≡ q.id) (o.id ≢ q.id) → (t : Bool) → IsIn p (q ∷ qs) → (IsIn p qs → IsIn p (taken_in o qs)) →
        IsIn p (cond s (lowered q o ∷ qs) (cond t (o ∷ q ∷ qs) (q ∷ taken_in o qs)))
    go true says t (inl e) f = elim says [ inl s ↦ absurd (differ (ap (λ (r : Operation). r.id) e ∙ sym s.1)) | inr s ↦ absurd (true≢false s.0) ]
    go true says t (inr j) f = inr j
    go false says true j f = inr j
    go false says false (inl e) f = inl e
    go false says false (inr j) f = inr (f j)

-- and the one of its id is lowered
pub taken_lowered : (o : Operation) (os : List Operation) → IsWritten os → (p : Operation) → IsIn p os → p.id ≡ o.id → IsIn (lowered p o) (taken_in o os)
taken_lowered o [] w p i id = absurd i
taken_lowered o (q ∷ qs) w p i id = elim (same_says o.id q.id) [
  | inl same ↦ rw same.0 (inl (ap (λ r. lowered r o) (here same.1 i)))
  | inr other ↦ let (j, later) = behind other.1 i in rw (other.0, later) (inr (taken_lowered o qs w.1 p j id))
]
  where
    here : o.id ≡ q.id → IsIn p (q ∷ qs) → p ≡ q
    here same (inl e) = e
    here same (inr j) = absurd (written_differs q.id p.id (w.0 p j) (sym same ∙ sym id))

    behind : o.id ≢ q.id → IsIn p (q ∷ qs) → IsIn p qs × (is_written_before o.id q.id ≡ false)
    behind other (inl e) = absurd (other (sym (sym (ap (λ (r : Operation). r.id) e) ∙ id)))
    behind other (inr j) = (
      j,
      false_from_ne_true (is_written_before o.id q.id) (λ e. written_one_way o.id q.id e (subst (λ x. is_written_before q.id x ≡ true) id (w.0 p j))),
    )

-- one that says no less than the one of its id changes nothing
pub taken_there : (o : Operation) (os : List Operation) → IsWritten os → (p : Operation) → IsIn p os → p.id ≡ o.id → level_of p.content ≤ level_of o.content → taken_in o os ≡ os
taken_there o [] w p i id le = absurd i
taken_there o (q ∷ qs) w p i id le = elim (same_says o.id q.id) [
  | inl same ↦ let one : p ≡ q = written_agrees (q ∷ qs) w p q i (inl refl) (id ∙ same.1) in
      rw same.0 (ap (λ r. r ∷ qs) (lowered_not q o (subst (λ (r : Operation). level_of r.content ≤ level_of o.content) one le)))
  | inr other ↦ let (j, later) = behind other.1 i in rw (other.0, later) (ap (λ ps. q ∷ ps) (taken_there o qs w.1 p j id le))
]
  where
    behind : o.id ≢ q.id → IsIn p (q ∷ qs) → IsIn p qs × (is_written_before o.id q.id ≡ false)
    behind other (inl e) = absurd (other (sym (sym (ap (λ (r : Operation). r.id) e) ∙ id)))
    behind other (inr j) = (
      j,
      false_from_ne_true (is_written_before o.id q.id) (λ e. written_one_way o.id q.id e (subst (λ x. is_written_before q.id x ≡ true) id (w.0 p j))),
    )

-- its id is there then
pub taken_id : (o : Operation) (os : List Operation) → IsWritten os → (q : Operation) × IsIn q (taken_in o os) × (q.id ≡ o.id) × (level_of q.content ≤ level_of o.content)
taken_id o os w = elim (cases_Bool (has_operation os o.id)) [
  | inl there ↦ let (p, i, id) = operation_with os o.id there in (lowered p o, taken_lowered o os w p i id, lowered-id p o ∙ id, (lowered-level p o).0)
  | inr none ↦ (o, taken_new o os none, refl, omega arith)
]

-- and what was there is there still, or lowered
pub taken_keeps : (o : Operation) (os : List Operation) → IsWritten os → (p : Operation) → IsIn p os →
    (q : Operation) × IsIn q (taken_in o os) × (q.id ≡ p.id) × (level_of q.content ≤ level_of p.content)
taken_keeps o os w p i = elim (same_says p.id o.id) [
  | inl same ↦ (lowered p o, taken_lowered o os w p i same.1, lowered-id p o, (lowered-level p o).1)
  | inr other ↦ (p, taken_stays o os p i other.1, refl, omega arith)
]

-- the order of writing stays
pub taken_written : (o : Operation) (os : List Operation) → IsWritten os → IsWritten (taken_in o os)
taken_written o [] w = ((λ p i. absurd i), tt)
taken_written o (q ∷ qs) w = go (is_same o.id q.id) refl (is_written_before o.id q.id) refl (taken_written o qs w.1)
  where
    later : is_same o.id q.id ≡ false → is_written_before o.id q.id ≡ false → (p : Operation) → IsTaken o qs p → is_written_before q.id p.id ≡ true
    later e g p (inl (h, none)) = subst (λ r. is_written_before q.id r.id ≡ true) (sym h) (written_other o.id q.id e g)
    later e g p (inr (inl (j, differ))) = w.0 p j
    later e g p (inr (inr (r, j, id, h))) = subst (λ x. is_written_before q.id x ≡ true) (sym (ap (λ (s : Operation). s.id) h ∙ lowered-id r o)) (w.0 r j)

    go : (s : Bool) → is_same o.id q.id ≡ s → (t : Bool) → is_written_before o.id q.id ≡ t → IsWritten (taken_in o qs) → IsWritten (cond s (lowered q o ∷ qs) (cond t (o ∷ q ∷ qs) (q ∷ taken_in o qs)))
    go true e t g v = ((λ p i. subst (λ x. is_written_before x p.id ≡ true) (sym (lowered-id q o)) (w.0 p i)), w.1)
    go false e true g v = ((λ p i. elim i [ inl h ↦ subst (λ r. is_written_before o.id r.id ≡ true) (sym h) g | inr j ↦ written_through o.id q.id p.id g (w.0 p j) ]), w)
    go false e false g v = ((λ p i. later e g p (taken_is o qs w.1 p i)), v)
