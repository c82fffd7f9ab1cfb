-- The numbers of the line: clocks of three clients are all that is held, and tell a state vector.
use Rattle.std.proofs.Common.{◌≡◌, ◌≢◌, ℕ, suc, ◌+◌, ◌⊎◌, Bool, true, false, List, [], ◌∷◌, length, nat_eq, inl, inr, refl, sym, ◌∙◌, subst, arith, tests}
use Rattle.std.specs.Prelude.{if◌then◌else◌}
use Rattle.yd_words.specs.Member.{IsIn}
use Rattle.yd_words.proofs.TestLemmas.{one_answer, same_or_other}
use Rattle.yd_ids.specs.declared.id.Span.{Span}
use Rattle.yd_ids.specs.Covering.{HasAll}
use Rattle.yd_ids.specs.Set.{HasId}
use Rattle.yd_ops.specs.Operation.{Operation}
use Rattle.yd_ops.specs.Received.{Received}
use Rattle.yd_meaning.specs.Deleted.{is_in_delete_set}
use Rattle.yd_meaning.specs.Document.{AreDeletedIn, document_of}
use Rattle.yd_meaning.specs.Held.{held_clock, held_set}
use Rattle.yd_meaning.specs.Text.{shown_text}
use Rattle.yd_generator.specs.Generated.{Three, text_list}
use Rattle.yd_generator.specs.Law.{AreAlike}
use Rattle.yd_generator.specs.Plain.{AreShared, IsOfThree, IsPlain}

-- operations of the clients 1, 2 and 3
abbrev AreOfThree : List Operation → Type 0
AreOfThree os = (o : Operation) → IsIn o os → (o.id.client.0 ≡ 1) ⊎ ((o.id.client.0 ≡ 2) ⊎ (o.id.client.0 ≡ 3))

count_three : (os : List Operation) → AreOfThree os → (held_clock os 1 + held_clock os 2) + held_clock os 3 ≡ length os
count_three [] of = refl
count_three (o ∷ os) of = go o.id.client.0 (of o (inl refl)) (count_three os (λ p i. of p (inr i)))
  where
    go : (client : ℕ) → (client ≡ 1) ⊎ ((client ≡ 2) ⊎ (client ≡ 3)) → (held_clock os 1 + held_clock os 2) + held_clock os 3 ≡ length os →
        ((if nat_eq client 1 then suc (held_clock os 1) else held_clock os 1) + (if nat_eq client 2 then suc (held_clock os 2) else held_clock os 2))
        + (if nat_eq client 3 then suc (held_clock os 3) else held_clock os 3) ≡ suc (length os)
    go client (inl e) rest = rw e (omega (arith, rest))
    go client (inr (inl e)) rest = rw e (omega (arith, rest))
    go client (inr (inr e)) rest = rw e (omega (arith, rest))

none_other : (client : ℕ) (os : List Operation) → ((o : Operation) → IsIn o os → o.id.client.0 ≢ client) → held_clock os client ≡ 0
none_other client [] other = refl
none_other client (o ∷ os) other = go (nat_eq o.id.client.0 client) refl (none_other client os (λ p i. other p (inr i)))
  where
    go : (t : Bool) → nat_eq o.id.client.0 client ≡ t → held_clock os client ≡ 0 → (if t then suc (held_clock os client) else held_clock os client) ≡ 0
    go true e rest = absurd (other o (inl refl) (grind (arith, tests)))
    go false e rest = rest

-- ---- lemmas for callers

-- the clocks of the three tell all of them
pub clocks_tell : (one other : List Operation) → AreOfThree one → AreOfThree other →
    held_clock one 1 ≡ held_clock other 1 → held_clock one 2 ≡ held_clock other 2 → held_clock one 3 ≡ held_clock other 3 →
    (client : ℕ) → held_clock one client ≡ held_clock other client
clocks_tell one other of_one of_other first second third client = elim (same_or_other client 1) [
  | inl e ↦ rw e first
  | inr not_first ↦ elim (same_or_other client 2) [
    | inl e ↦ rw e second
    | inr not_second ↦ elim (same_or_other client 3) [
      | inl e ↦ rw e third
      | inr not_third ↦ none_other client one (λ o i e. none_of o not_first not_second not_third (of_one o i) e)
          ∙ sym (none_other client other (λ o i e. none_of o not_first not_second not_third (of_other o i) e))
    ]
  ]
]
  where
    none_of : (o : Operation) → client ≢ 1 → client ≢ 2 → client ≢ 3 → (o.id.client.0 ≡ 1) ⊎ ((o.id.client.0 ≡ 2) ⊎ (o.id.client.0 ≡ 3)) → o.id.client.0 ≡ client → ⊥
    none_of o a b c (inl e) f = a (sym f ∙ e)
    none_of o a b c (inr (inl e)) f = b (sym f ∙ e)
    none_of o a b c (inr (inr e)) f = c (sym f ∙ e)

-- what is held is counted by the three clocks
pub held_counted : (r : Received) → IsPlain r → IsOfThree r →
    (held_clock (held_set r.operations) 1 + held_clock (held_set r.operations) 2) + held_clock (held_set r.operations) 3 ≡ length (held_set r.operations)
held_counted r is of = subst (λ h. (held_clock h 1 + held_clock h 2) + held_clock h 3 ≡ length h) (sym is.all_held) (count_three r.operations of)

-- replicas are alike by their texts, three clocks and delete sets
pub alike_is : (one other : Received) (own others : List Span) → IsPlain one → IsPlain other → IsOfThree one → IsOfThree other →
    AreDeletedIn own (document_of one) → AreDeletedIn others (document_of other) →
    shown_text (document_of one) text_list ≡ shown_text (document_of other) text_list →
    held_clock (held_set one.operations) 1 ≡ held_clock (held_set other.operations) 1 → held_clock (held_set one.operations) 2 ≡ held_clock (held_set other.operations) 2 →
    held_clock (held_set one.operations) 3 ≡ held_clock (held_set other.operations) 3 → HasAll own others → HasAll others own → AreAlike one other
alike_is one other own others is also of_one of_other are too text first second third all back = record {
  text = text;
  vector = clocks_tell (held_set one.operations) (held_set other.operations)
      (subst (λ h. AreOfThree h) (sym is.all_held) of_one) (subst (λ h. AreOfThree h) (sym also.all_held) of_other) first second third;
  delete_set = λ x. one_answer {P = HasId own x} (is_in_delete_set one x) (is_in_delete_set other x) ((are x).1, (are x).0)
      ((λ e. all x ((too x).1 e)), (λ h. (too x).0 (back x h)));
}

-- and where they are alike, these are so
pub deletions_alike : (one other : Received) (own others : List Span) → AreDeletedIn own (document_of one) → AreDeletedIn others (document_of other) → AreAlike one other → HasAll own others
deletions_alike one other own others are too alike x h = (are x).1 (alike.delete_set x ∙ (too x).0 h)

-- all three have letters of the three clients
pub three_of : (g : Three) → AreShared g → IsOfThree g.first × IsOfThree g.second × IsOfThree g.third
three_of g is = (
  (λ o i. elim (is.of_one o i) [ inl e ↦ inl e | inr more ↦ elim more [ inl b ↦ inr (inl b.0) | inr c ↦ inr (inr c.0) ] ]),
  (λ o i. elim (is.of_two o i) [ inl e ↦ inr (inl e) | inr more ↦ elim more [ inl c ↦ inr (inr c.0) | inr a ↦ inl a.0 ] ]),
  (λ o i. elim (is.of_three o i) [ inl e ↦ inr (inr e) | inr more ↦ elim more [ inl a ↦ inl a.0 | inr b ↦ inr (inl b.0) ] ]),
)
