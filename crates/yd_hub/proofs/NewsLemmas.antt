-- What is news: an operation that is not covered, or a deletion that is not named.
use Rattle.std.proofs.Common.{◌≡◌, ◌⊎◌, ◌↔◌, ℕ, zero, suc, ◌+◌, ◌<◌, ◌≤◌, Bool, true, false, ◌&&◌, ◌||◌, not, List, [], ◌∷◌, inl, inr, refl, sym, ap, ◌∙◌, subst, arith, tests, true≢false, nat_lt}
use Rattle.std.specs.Prelude.{IsTrue}
use Rattle.std.proofs.lemmas.Bool.{or_left, or_right}
use Rattle.yd_words.specs.Member.{IsIn}
use Rattle.yd_words.proofs.TestLemmas.{both_hold, hold_both, one_answer, split, test_fails}
use Rattle.yd_ids.specs.declared.id.Client.{Client}
use Rattle.yd_ids.specs.declared.id.Id.{Id}
use Rattle.yd_ids.specs.declared.id.Span.{Span}
use Rattle.yd_ids.specs.Ids.{is_same}
use Rattle.yd_ids.specs.Set.{HasId, union_of}
use Rattle.yd_ids.proofs.IdLemmas.{same_numbers}
use Rattle.yd_ids.proofs.UnionLemmas.{union_ids}
use Rattle.yd_ops.specs.Operation.{Operation, level_of, operations_of}
use Rattle.yd_ops.specs.Value.{UpdateValue}
use Rattle.yd_ops.specs.Deletes.{deletes_of}
use Rattle.yd_ops.specs.ReceivedLaw.{IsCovered, IsReceived}
use Rattle.yd_ops.specs.Received.{IsWritten, Received, has_operation}
use Rattle.yd_ops.proofs.OneOfLemmas.{id_there, operation_with}
use Rattle.yd_ops.proofs.PartnerLemmas.{same_decides}
use Rattle.yd_ops.proofs.WritingLemmas.{written_agrees}
use Rattle.yd_meaning.specs.Deleted.{AreDeleteSet}
use Rattle.yd_meaning.specs.Held.{is_named}
use Rattle.yd_entries.specs.Taking.{BringsOne, BringsOperation, IsNews}
use Rattle.yd_state.specs.Brings.{KnowsDeleted, BringsUnknown}
use Rattle.yd_state.proofs.NamedLemmas.{has_named, named_has}
use Rattle.yd_sync.proofs.PresenceLemmas.{tested}
use Rattle.yd_hub.specs.Answers.{BringsNews}
use Rattle.yd_hub.specs.OwnAnswers.{are_named, brings_news, has_new, has_spans, is_more, is_new}

-- ---- tests that fail

one_fails : (s t : Bool) → s && t ≡ false → (s ≡ false) ⊎ (t ≡ false)
one_fails true t e = inr e
one_fails false t e = inl refl

one_holds : (s t : Bool) → s || t ≡ true → (s ≡ true) ⊎ (t ≡ true)
one_holds true t e = inl refl
one_holds false t e = inr e

-- ---- operations

more_says : (os : List Operation) (o : Operation) → is_more os o ≡ true → (p : Operation) × IsIn p os × (p.id ≡ o.id) × (level_of o.content < level_of p.content)
more_says [] o e = absurd (true≢false (sym e))
more_says (q ∷ qs) o e = elim (one_holds (is_same q.id o.id && nat_lt (level_of o.content) (level_of q.content)) (is_more qs o) e) [
  | inl here ↦ let both = both_hold (is_same q.id o.id) (nat_lt (level_of o.content) (level_of q.content)) here in
      (q, inl refl, (same_decides q.id o.id).0 both.0, less (level_of o.content) (level_of q.content) both.1)
  | inr there ↦ let (p, i, id, lt) = more_says qs o there in (p, inr i, id, lt)
]
  where
    less : (m n : ℕ) → nat_lt m n ≡ true → m < n
    less m n f = grind (arith, tests)

says_more : (os : List Operation) (o p : Operation) → IsIn p os → p.id ≡ o.id → level_of o.content < level_of p.content → is_more os o ≡ true
says_more [] o p i id lt = absurd i
says_more (q ∷ qs) o p (inl e) id lt = or_left (is_same q.id o.id && nat_lt (level_of o.content) (level_of q.content)) (is_more qs o)
    (hold_both (is_same q.id o.id) (nat_lt (level_of o.content) (level_of q.content)) ((same_decides q.id o.id).1 (ap (λ (r : Operation). r.id) (sym e) ∙ id))
    (less (level_of o.content) (level_of q.content) (subst (λ r. level_of o.content < level_of r.content) e lt)))
  where
    less : (m n : ℕ) → m < n → nat_lt m n ≡ true
    less m n f = grind (arith, tests)
says_more (q ∷ qs) o p (inr i) id lt = or_right (is_same q.id o.id && nat_lt (level_of o.content) (level_of q.content)) (is_more qs o) (says_more qs o p i id lt)

not_not : (t : Bool) → not t ≡ true → t ≡ false
not_not true e = sym e
not_not false e = refl

new_is : (there : List Operation) (o : Operation) → is_new there o ≡ true → IsNews there o
new_is there o e = elim (one_holds (not (has_operation there o.id)) (is_more there o) e) [
  | inl none ↦ inl (not_not (has_operation there o.id) none)
  | inr more ↦ inr (more_says there o more)
]

is_new_one : (there : List Operation) (o : Operation) → IsNews there o → is_new there o ≡ true
is_new_one there o (inl none) = or_left (not (has_operation there o.id)) (is_more there o) (ap not none)
is_new_one there o (inr (p, i, id, lt)) = or_right (not (has_operation there o.id)) (is_more there o) (says_more there o p i id lt)

new_says : (there os : List Operation) → has_new there os ≡ true → BringsOne os there
new_says there [] e = absurd (true≢false (sym e))
new_says there (p ∷ os) e = elim (one_holds (is_new there p) (has_new there os) e) [
  | inl here ↦ (p, inl refl, new_is there p here)
  | inr later ↦ let (o, i, news) = new_says there os later in (o, inr i, news)
]

says_new : (there os : List Operation) (o : Operation) → IsIn o os → IsNews there o → has_new there os ≡ true
says_new there [] o i news = absurd i
says_new there (p ∷ os) o (inl e) news = or_left (is_new there p) (has_new there os) (is_new_one there p (subst (λ q. IsNews there q) e news))
says_new there (p ∷ os) o (inr i) news = or_right (is_new there p) (has_new there os) (says_new there os o i news)

-- news is what is not covered
news_uncovered : (there : List Operation) → IsWritten there → (o : Operation) → IsNews there o → IsCovered there o → ⊥
news_uncovered there w o (inl none) (q, i, id, le) = true≢false (sym (id_there there q o.id i id) ∙ none)
news_uncovered there w o (inr (p, j, same, lt)) (q, i, id, le) =
    let one : p ≡ q = written_agrees there w p q j i (same ∙ sym id) in omega (arith, lt, le, ap (λ (r : Operation). level_of r.content) one)

uncovered_news : (there : List Operation) (o : Operation) → (IsCovered there o → ⊥) → IsNews there o
uncovered_news there o new = elim (tested (has_operation there o.id)) [
  | inr none ↦ inl none
  | inl e ↦ let (p, i, id) = operation_with there o.id e in elim (split (level_of p.content) (level_of o.content)) [
    | inl le ↦ absurd (new (p, i, id, le))
    | inr lt ↦ inr (p, i, id, lt)
  ]
]

-- ---- deletions

all_named : (known : List Span) (client : Client) (clock n : ℕ) → are_named known client clock n ≡ true → (k : ℕ) → clock ≤ k → k < clock + n →
    is_named known (record { client = client; clock = k }) ≡ true
all_named known client clock zero e k low high = absurd (omega (arith, low, high))
all_named known client clock (suc n) e k low high =
    let both = both_hold (is_named known (record { client = client; clock = clock })) (are_named known client (suc clock) n) e in
    elim (first_or_later clock k low) [
      | inl same ↦ subst (λ m. is_named known (record { client = client; clock = m }) ≡ true) same both.0
      | inr above ↦ all_named known client (suc clock) n both.1 k above (omega (arith, high))
    ]
  where
    first_or_later : (m k : ℕ) → m ≤ k → (m ≡ k) ⊎ (suc m ≤ k)
    first_or_later m k le = grind arith

some_unnamed : (known : List Span) (client : Client) (clock n : ℕ) → are_named known client clock n ≡ false →
    (k : ℕ) × (clock ≤ k) × (k < clock + n) × (is_named known (record { client = client; clock = k }) ≡ false)
some_unnamed known client clock zero e = absurd (true≢false e)
some_unnamed known client clock (suc n) e = elim (one_fails (is_named known (record { client = client; clock = clock })) (are_named known client (suc clock) n) e) [
  | inl here ↦ (clock, omega arith, omega arith, here)
  | inr later ↦ let (k, low, high, none) = some_unnamed known client (suc clock) n later in (k, omega (arith, low), omega (arith, high), none)
]

has_all : (known spans : List Span) → has_spans known spans ≡ true → (x : Id) → HasId spans x → HasId known x
has_all known [] e x h = absurd h
has_all known (span ∷ spans) e x (inl (client, low, high)) = named_has known x (subst (λ y. is_named known y ≡ true) (same_numbers (record { client = span.client; clock = x.clock }) x client refl)
    (all_named known span.client span.clock span.len (both_hold (are_named known span.client span.clock span.len) (has_spans known spans) e).0 x.clock low high))
has_all known (span ∷ spans) e x (inr h) = has_all known spans (both_hold (are_named known span.client span.clock span.len) (has_spans known spans) e).1 x h

lacks_some : (known spans : List Span) → has_spans known spans ≡ false → (x : Id) × HasId spans x × (HasId known x → ⊥)
lacks_some known [] e = absurd (true≢false e)
lacks_some known (span ∷ spans) e = elim (one_fails (are_named known span.client span.clock span.len) (has_spans known spans) e) [
  | inl here ↦ let (k, low, high, none) = some_unnamed known span.client span.clock span.len here in
      (record { client = span.client; clock = k }, inl (refl, low, high), λ h. true≢false (sym (has_named known (record { client = span.client; clock = k }) h) ∙ none))
  | inr later ↦ let (x, h, new) = lacks_some known spans later in (x, inr h, new)
]

-- ---- lemmas for callers

pub news_says : (r : Received) (known : List Span) (update : UpdateValue) → IsReceived r → brings_news r known update ≡ true ↔ BringsNews r known update
news_says r known update is = (there, back)
  where
    there : brings_news r known update ≡ true → BringsNews r known update
    there e = elim (one_holds (has_new r.operations (operations_of update)) (not (has_spans known (deletes_of update))) e) [
      | inl new ↦ let (o, i, news) = new_says r.operations (operations_of update) new in inl (o, i, news_uncovered r.operations is.written o news)
      | inr lacks ↦ inr (lacks_some known (deletes_of update) (not_not (has_spans known (deletes_of update)) lacks))
    ]

    back : BringsNews r known update → brings_news r known update ≡ true
    back (inl (o, i, new)) = or_left (has_new r.operations (operations_of update)) (not (has_spans known (deletes_of update)))
        (says_new r.operations (operations_of update) o i (uncovered_news r.operations o new))
    back (inr (x, h, new)) = or_right (has_new r.operations (operations_of update)) (not (has_spans known (deletes_of update)))
        (ap not (test_fails (has_spans known (deletes_of update)) (λ e. new (has_all known (deletes_of update) e x h))))

-- what a replica tells that an update brings, by its own delete set, is the same
pub unknown_says : (r : Received) (own : List Span) (update : UpdateValue) (brings : Bool) → IsTrue brings ↔ BringsUnknown update r own →
    brings_news r (union_of own r.deletes) update ≡ brings
unknown_says r own update brings both = one_answer (brings_news r (union_of own r.deletes) update) brings (there, back) (both.0, both.1)
  where
    known : (x : Id) → HasId (union_of own r.deletes) x → KnowsDeleted r own x
    known x h = elim ((union_ids own r.deletes x).0 h) [ inl i ↦ inr i | inr i ↦ inl i ]

    known_back : (x : Id) → KnowsDeleted r own x → HasId (union_of own r.deletes) x
    known_back x (inl i) = (union_ids own r.deletes x).1 (inr i)
    known_back x (inr i) = (union_ids own r.deletes x).1 (inl i)

    there : brings_news r (union_of own r.deletes) update ≡ true → BringsUnknown update r own
    there e = elim (one_holds (has_new r.operations (operations_of update)) (not (has_spans (union_of own r.deletes) (deletes_of update))) e) [
      | inl new ↦ inl (new_says r.operations (operations_of update) new)
      | inr lacks ↦ inr (λ all. let (x, h, none) = lacks_some (union_of own r.deletes) (deletes_of update) (not_not (has_spans (union_of own r.deletes) (deletes_of update)) lacks) in
          none (known_back x (all x h)))
    ]

    back : BringsUnknown update r own → brings_news r (union_of own r.deletes) update ≡ true
    back (inl (o, i, news)) = or_left (has_new r.operations (operations_of update)) (not (has_spans (union_of own r.deletes) (deletes_of update)))
        (says_new r.operations (operations_of update) o i news)
    back (inr not_all) = or_right (has_new r.operations (operations_of update)) (not (has_spans (union_of own r.deletes) (deletes_of update)))
        (ap not (test_fails (has_spans (union_of own r.deletes) (deletes_of update)) (λ e. not_all (λ x h. known x (has_all (union_of own r.deletes) (deletes_of update) e x h)))))
