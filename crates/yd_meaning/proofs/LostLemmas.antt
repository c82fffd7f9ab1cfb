-- What is lost: a held operation stands where it is not gone and all that it stands on stands.
use Rattle.std.proofs.Common.{◌≡◌, ◌↔◌, Bool, true, false, not, ◌||◌, List, [], ◌∷◌, ◌⊎◌, inl, inr, refl, sym, ap, ◌∙◌, subst, true≢false}
use Rattle.std.proofs.lemmas.Bool.{cases_Bool, false_from_ne_true}
use Rattle.yd_words.specs.Member.{IsIn}
use Rattle.yd_ids.specs.declared.id.Id.{Id}
use Rattle.yd_ops.specs.Operation.{Operation}
use Rattle.yd_ops.specs.Received.{has_operation, IsWritten}
use Rattle.yd_ops.proofs.OneOfLemmas.{operation_with, id_is_there, none_has}
use Rattle.yd_meaning.specs.Held.{sources, is_gone, standing, is_lost, is_one_that}
use Rattle.yd_meaning.proofs.RowLemmas.{written_distinct, one_operation}
use Rattle.yd_meaning.proofs.StandingLemmas.{standing_in, standing_sources, sources_stand, standing_one}

-- one of the ids passes the test, or none does
one_or_none : (test : Id → Bool) (xs : List Id) → ((is_one_that test xs ≡ true) × ((y : Id) × IsIn y xs × (test y ≡ true))) ⊎ ((is_one_that test xs ≡ false) × ((y : Id) → IsIn y xs → test y ≡ false))
one_or_none test [] = inr (refl, λ y i. absurd i)
one_or_none test (x ∷ xs) = elim (cases_Bool (test x)) [
  | inl e ↦ inl (rw e refl, (x, inl refl, e))
  | inr e ↦ elim (one_or_none test xs) [
    | inl found ↦ let (y, i, f) = found.1 in inl (rw e found.0, (y, inr i, f))
    | inr none ↦ inr (rw e none.0, λ y i. elim i [ inl g ↦ ap test g ∙ e | inr j ↦ none.1 y j ])
  ]
]

module _ (held : List Operation) (w : IsWritten held) where
  lost_is : (x : Id) (s : Bool) → has_operation held x ≡ true → has_operation (standing held) x ≡ s → is_lost held x ≡ not s
  lost_is x s e f = rw (e, f) refl

  -- what stands is held and not lost
  pub stands : (o : Operation) → IsIn o (standing held) ↔ (IsIn o held × (is_lost held o.id ≡ false))
  stands o = (
    (λ i. let (j, kept) = standing_in held w o i in (j, lost_is o.id true (id_is_there held o j) (id_is_there (standing held) o i))),
    (λ b. elim (cases_Bool (has_operation (standing held) o.id)) [
      | inl e ↦ standing_one held w o b.0 e
      | inr e ↦ absurd (true≢false (sym (lost_is o.id false (id_is_there held o b.0) e) ∙ b.1))
    ]),
  )

  pub lost_not_standing : (x : Id) → is_lost held x ≡ true → has_operation (standing held) x ≡ false
  lost_not_standing x e = false_from_ne_true (has_operation (standing held) x) (λ f.
      let (o, i, g) = operation_with (standing held) x f in
      true≢false (sym e ∙ lost_is x true (subst (λ y. has_operation held y ≡ true) g (id_is_there held o (standing_in held w o i).0)) f))

  module _ (closed : (o : Operation) → IsIn o held → (y : Id) → IsIn y (sources o) → has_operation held y ≡ true) where
    -- a held operation is lost where it is gone, or something that it stands on is lost
    pub lost_one : (o : Operation) → IsIn o held → is_lost held o.id ≡ (is_gone o || is_one_that (is_lost held) (sources o))
    lost_one o i = elim (cases_Bool (is_gone o)) [
      | inl gone ↦ is_lost_as (none_has (standing held) o.id (λ p j e.
          true≢false (sym (subst (λ q. is_gone q ≡ true) (sym (one_operation held (written_distinct held w) p o (standing_in held w p j).0 i e)) gone) ∙ (standing_in held w p j).1)))
          (rw gone refl)
      | inr there ↦ elim (one_or_none (is_lost held) (sources o)) [
        | inl found ↦ let (y, j, lost) = found.1 in is_lost_as (false_from_ne_true (has_operation (standing held) o.id) (λ e.
            true≢false (sym (standing_sources held w o (standing_one held w o i e) y j) ∙ lost_not_standing y lost)))
            (rw (there, found.0) refl)
        | inr none ↦ lost_is o.id true (id_is_there held o i) (id_is_there (standing held) o (sources_stand held w o i there (λ y j. elim (cases_Bool (has_operation (standing held) y)) [
          | inl e ↦ e
          | inr e ↦ absurd (true≢false (sym (lost_is y false (closed o i y j) e) ∙ none.1 y j))
        ]))) ∙ sym (rw (there, none.0) refl)
      ]
    ]
      where
        is_lost_as : has_operation (standing held) o.id ≡ false → (is_gone o || is_one_that (is_lost held) (sources o)) ≡ true →
            is_lost held o.id ≡ (is_gone o || is_one_that (is_lost held) (sources o))
        is_lost_as none e = lost_is o.id false (id_is_there held o i) none ∙ sym e
