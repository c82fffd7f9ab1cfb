-- A queue of numbers, and lists that are queued.
use Rattle.std.proofs.Common.{◌≡◌, ℕ, ◌⊎◌, Bool, true, false, cond, inl, inr, List, [], ◌∷◌, ◌++◌, refl, sym, ap, ◌∙◌, subst, arith, tests, true≢false, nat_eq, nat_lt, append-nil}
use Rattle.std.proofs.lemmas.Bool.{cases_Bool}
use Rattle.std.proofs.lemmas.List.{append_assoc}
use Rattle.std.specs.Prelude.{not}
use Rattle.std.specs.Ordering.{nat_cmp}
use Rattle.std.specs.BTreeMap.{is_at}
use Rattle.std.specs.BTreeSet.{BTreeSet, contains}
use Rattle.yd_words.specs.Member.{IsIn, AreDistinct}
use Rattle.yd_words.proofs.MemberLemmas.{in_left_part, in_right_part, in_parts}
use Rattle.yd_listing.specs.Closing.{IsQueue, Queues}

at_same : (m n : ℕ) → is_at (nat_cmp m) n ≡ nat_eq m n
at_same m n = elim (cases_Bool (nat_lt m n)) [
  | inl less ↦ rw less (sym (other m n less))
  | inr more ↦ elim (cases_Bool (nat_eq m n)) [ inl same ↦ rw (more, same) | inr apart ↦ rw (more, apart) ]
]
  where
    other : (a b : ℕ) → nat_lt a b ≡ true → nat_eq a b ≡ false
    other a b e = grind (arith, tests)

same_number : (m n : ℕ) → nat_eq m n ≡ true → m ≡ n
same_number m n e = grind (arith, tests)

number_itself : (n : ℕ) → nat_eq n n ≡ true
number_itself n = grind (arith, tests)

distinct_last : (xs : List ℕ) (n : ℕ) → AreDistinct xs → (IsIn n xs → ⊥) → AreDistinct (xs ++ n ∷ [])
distinct_last [] n d out = ((λ i. i), tt)
distinct_last (x ∷ xs) n d out = (
  (λ i. elim (in_parts x xs (n ∷ []) i) [ inl j ↦ d.0 j | inr j ↦ elim j [ inl e ↦ out (inl (sym e)) | inr w ↦ absurd w ] ]),
  distinct_last xs n d.1 (λ i. out (inr i)),
)

-- a number that was not there comes behind the others
pub pushed_queue : (lists new : List ℕ) (seen more : BTreeSet ℕ) (n : ℕ) → IsQueue lists seen → true ≡ not (contains nat_cmp seen n) →
    ((q : ℕ) → contains nat_cmp more q ≡ cond (is_at (nat_cmp n) q) true (contains nat_cmp seen q)) → new ≡ lists ++ n ∷ [] → IsQueue new more
pushed_queue lists new seen more n was fresh updates e = subst (λ ls. IsQueue ls more) (sym e) (record {
  distinct = distinct_last lists n was.distinct (λ i. true≢false (fresh ∙ ap not ((was.known n).0 i)));
  known = λ q. (
    (λ i. updates q ∙ elim (in_parts q lists (n ∷ []) i) [
      | inl j ↦ ap (λ b. cond (is_at (nat_cmp n) q) true b) ((was.known q).0 j) ∙ either_true (is_at (nat_cmp n) q)
      | inr j ↦ elim j [ inl same ↦ ap (λ b. cond b true (contains nat_cmp seen q)) (at_same n q ∙ ap (nat_eq n) same ∙ number_itself n) | inr w ↦ absurd w ]
    ]),
    (λ has. elim (cases_Bool (is_at (nat_cmp n) q)) [
      | inl here ↦ in_right_part q lists (n ∷ []) (inl (sym (same_number n q (sym (at_same n q) ∙ here))))
      | inr other ↦ in_left_part q lists (n ∷ []) ((was.known q).1 (sym (updates q ∙ ap (λ b. cond b true (contains nat_cmp seen q)) other) ∙ has))
    ]),
  );
})
  where
    either_true : (b : Bool) → cond b true true ≡ true
    either_true true = refl
    either_true false = refl

pub pushed_there : (lists new : List ℕ) (n : ℕ) → new ≡ lists ++ n ∷ [] → IsIn n new
pushed_there lists new n e = subst (IsIn n) (sym e) (in_right_part n lists (n ∷ []) (inl refl))

-- ---- what comes into a queue

pub queues_none : (may : ℕ → Type 0) (lists : List ℕ) → Queues may lists lists
queues_none may lists = record { more = []; front = sym (append-nil lists); only = λ n i. absurd i }

pub queues_wider : (P Q : ℕ → Type 0) (old new : List ℕ) → ((n : ℕ) → P n → Q n) → Queues P old new → Queues Q old new
queues_wider P Q old new wider q = record { more = q.more; front = q.front; only = λ n i. wider n (q.only n i) }

pub queues_both : (P : ℕ → Type 0) (old mid new : List ℕ) → Queues P old mid → Queues P mid new → Queues P old new
queues_both P old mid new a b = record {
  more = a.more ++ b.more;
  front = b.front ∙ ap (λ ls. ls ++ b.more) a.front ∙ append_assoc old a.more b.more;
  only = λ n i. elim (in_parts n a.more b.more i) [ inl j ↦ a.only n j | inr j ↦ b.only n j ];
}

pub queued_stays : (P : ℕ → Type 0) (old new : List ℕ) (n : ℕ) → Queues P old new → IsIn n old → IsIn n new
queued_stays P old new n q i = subst (IsIn n) (sym q.front) (in_left_part n old q.more i)

pub queued_is : (P : ℕ → Type 0) (old new : List ℕ) (n : ℕ) → Queues P old new → IsIn n new → IsIn n old ⊎ P n
queued_is P old new n q i = elim (in_parts n old q.more (subst (IsIn n) q.front i)) [ inl j ↦ inl j | inr j ↦ inr (q.only n j) ]
