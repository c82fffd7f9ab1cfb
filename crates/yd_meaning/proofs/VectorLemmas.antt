-- The state vector: a client's held operations, as they are written, have the clocks from 0 on without a gap.
use Rattle.std.proofs.Common.{◌≡◌, ℕ, zero, suc, ◌+◌, ◌<◌, ◌≤◌, Bool, true, false, List, [], ◌∷◌, inl, inr, nat_eq, length, refl, sym, ap, ◌∙◌, subst, arith, tests, true≢false}
use Rattle.std.specs.Prelude.{◌↔◌, filter, if◌then◌else◌}
use Rattle.yd_words.specs.Member.{IsIn}
use Rattle.yd_words.proofs.TestLemmas.{split}
use Rattle.yd_words.proofs.FilterLemmas.{kept_one}
use Rattle.yd_ids.specs.declared.id.Client.{Client}
use Rattle.yd_ids.specs.declared.id.Id.{Id}
use Rattle.yd_ids.specs.Ids.{is_same, HasSmallerClock, is_written_before}
use Rattle.yd_ids.proofs.IdLemmas.{same_numbers}
use Rattle.yd_ops.specs.Operation.{Operation}
use Rattle.yd_ops.specs.Received.{has_operation, IsWritten}
use Rattle.yd_ops.proofs.OneOfLemmas.{operation_with, has_behind, id_is_there}
use Rattle.yd_meaning.specs.Held.{needs, has_all, round, held_set, held_clock}
use Rattle.yd_meaning.proofs.NeedLemmas.{before_needed}
use Rattle.yd_meaning.proofs.HeldLemmas.{held_needs}

-- ---- the order of writing

-- what a filter keeps is in the order of writing
pub written_kept : (test : Operation → Bool) (os : List Operation) → IsWritten os → IsWritten (filter test os)
written_kept test [] w = tt
written_kept test (o ∷ os) w = go (test o) (written_kept test os w.1)
  where
    go : (t : Bool) → IsWritten (filter test os) → IsWritten (if t then o ∷ filter test os else filter test os)
    go true f = ((λ p i. w.0 p (kept_one test os p i).1), f)
    go false f = f

pub held_written : (os : List Operation) → IsWritten os → IsWritten (held_set os)
held_written os w = go (length os)
  where
    go : (n : ℕ) → IsWritten (round needs os n)
    go zero = tt
    go (suc n) = written_kept (λ o. has_all (round needs os n) (needs o)) os w

-- of one client the clocks ascend
ascends : (a b : Id) → is_written_before a b ≡ true → a.client.0 ≡ b.client.0 → a.clock < b.clock
ascends a b e same = grind (arith, tests)

-- ---- counting

module _ (client : Client) where
  abbrev at : ℕ → Id
  at k = record { client = client; clock = k }

  other_client : (a : Id) (k : ℕ) → nat_eq a.client.0 client.0 ≡ false → is_same a (at k) ≡ false
  other_client a k e = rw e refl

  -- the client's operations have no clocks below m
  abbrev StartsAt : ℕ → List Operation → Type 0
  StartsAt m os = (o : Operation) → IsIn o os → o.id.client.0 ≡ client.0 → m ≤ o.id.clock

  -- they have no gap from m on
  abbrev HasNoGap : ℕ → List Operation → Type 0
  HasNoGap m os = (k : ℕ) → m ≤ k → has_operation os (at (suc k)) ≡ true → has_operation os (at k) ≡ true

  -- their clocks are those from m on, so many as there are operations
  abbrev CountsFrom : ℕ → List Operation → Type 0
  CountsFrom m os = (k : ℕ) → has_operation os (at k) ≡ true ↔ (m ≤ k) × (k < m + held_clock os client.0)

  -- the first of them has clock m
  first_clock : (m : ℕ) (o : Operation) (os : List Operation) → ((p : Operation) → IsIn p os → is_written_before o.id p.id ≡ true) →
      StartsAt m (o ∷ os) → HasNoGap m (o ∷ os) → o.id.client.0 ≡ client.0 → o.id.clock ≡ m
  first_clock m o os before low closed same = go o.id.clock refl (low o (inl refl) same)
    where
      go : (k : ℕ) → o.id.clock ≡ k → m ≤ k → k ≡ m
      go zero e le = omega arith
      go (suc k) e le = elim (split (suc k) m) [
        | inl low ↦ omega arith
        | inr lt ↦ absurd (smaller_first k e (operation_with (o ∷ os) (at k) (closed k (omega arith)
            (subst (λ x. has_operation (o ∷ os) x ≡ true) (same_numbers o.id (at (suc k)) same e) (id_is_there (o ∷ os) o (inl refl))))))
      ]
        where
          smaller_first : (k : ℕ) → o.id.clock ≡ suc k → (p : Operation) × IsIn p (o ∷ os) × (p.id ≡ at k) → ⊥
          smaller_first k e (p, inl g, h) = omega (arith, ap (λ q. q.id.clock) g, ap (λ x. x.clock) h)
          smaller_first k e (p, inr i, h) = omega (arith, ascends o.id p.id (before p i) (same ∙ sym (ap (λ x. x.client.0) h)), ap (λ x. x.clock) h)

  pub counts_from : (os : List Operation) (m : ℕ) → IsWritten os → StartsAt m os → HasNoGap m os → CountsFrom m os
  counts_from [] m w low closed k = ((λ e. absurd (true≢false (sym e))), (λ b. absurd (omega (arith, b))))
  counts_from (o ∷ os) m w low closed k = go (nat_eq o.id.client.0 client.0) refl (λ n. counts_from os n w.1)
    where
      go : (t : Bool) → nat_eq o.id.client.0 client.0 ≡ t → ((n : ℕ) → StartsAt n os → HasNoGap n os → CountsFrom n os) →
          has_operation (o ∷ os) (at k) ≡ true ↔ (m ≤ k) × (k < m + (if t then suc (held_clock os client.0) else held_clock os client.0))
      go false e rest = rw (other_client o.id k e)
          (rest m (λ p i. low p (inr i)) (λ j le h. has_rest j (closed j le (rw (other_client o.id (suc j) e) h))) k)
        where
          has_rest : (j : ℕ) → has_operation (o ∷ os) (at j) ≡ true → has_operation os (at j) ≡ true
          has_rest j h = rw (other_client o.id j e) at h
      go true e rest = (
        (λ h. let (p, i, g) = operation_with (o ∷ os) (at k) h in within p i g),
        (λ b. elim (split k m) [
          | inl le ↦ let here : m ≡ k = omega (arith, b) in subst (λ x. has_operation (o ∷ os) x ≡ true) (first k here) (id_is_there (o ∷ os) o (inl refl))
          | inr lt ↦ has_behind o os (at k) ((later k).1 (omega (arith, b)))
        ]),
      )
        where
          same : o.id.client.0 ≡ client.0
          same = grind (arith, tests)

          clock : o.id.clock ≡ m
          clock = first_clock m o os w.0 low closed same

          first : (j : ℕ) → m ≡ j → o.id ≡ at j
          first j f = same_numbers o.id (at j) same (clock ∙ f)

          later : CountsFrom (suc m) os
          later = rest (suc m) (λ p i g. omega (arith, ascends o.id p.id (w.0 p i) (same ∙ sym g), clock))
              (λ j le h. has_rest j le (closed j (omega arith) (has_behind o os (at (suc j)) h)))
            where
              has_rest : (j : ℕ) → suc m ≤ j → has_operation (o ∷ os) (at j) ≡ true → has_operation os (at j) ≡ true
              has_rest j le h = let (p, i, g) = operation_with (o ∷ os) (at j) h in elim i [
                | inl f ↦ absurd (omega (arith, ap (λ q. q.id.clock) f, ap (λ x. x.clock) g, clock))
                | inr b ↦ subst (λ x. has_operation os x ≡ true) g (id_is_there os p b)
              ]

          within : (p : Operation) → IsIn p (o ∷ os) → p.id ≡ at k → (m ≤ k) × (k < m + suc (held_clock os client.0))
          within p (inl f) g = let here : k ≡ m = omega (arith, ap (λ q. q.id.clock) f, ap (λ x. x.clock) g, clock) in (omega arith, omega arith)
          within p (inr i) g = let bounds = (later k).0 (subst (λ x. has_operation os x ≡ true) g (id_is_there os p i)) in
              (omega (arith, bounds), omega (arith, bounds))

-- ---- lemmas for callers

module _ (os : List Operation) where
  -- the clock before a held one is held
  pub clock_before : (x : Id) (k : ℕ) → has_operation (held_set os) x ≡ true → x.clock ≡ suc k →
      has_operation (held_set os) (record { client = x.client; clock = k }) ≡ true
  clock_before x k e f = let (o, i, g) = operation_with (held_set os) x e in
      subst (λ (y : Id). has_operation (held_set os) (record { client = y.client; clock = k }) ≡ true) g
      (held_needs os o i (record { client = o.id.client; clock = k }) (before_needed o k (ap (λ (y : Id). y.clock) g ∙ f)))

  -- the held clocks of a client are those below its clock in the state vector
  pub held_below : IsWritten os → (client : Client) (clock : ℕ) →
      has_operation (held_set os) (record { client = client; clock = clock }) ≡ true ↔ clock < held_clock (held_set os) client.0
  held_below w client clock = ((λ e. omega (arith, counts.0 e)), (λ lt. counts.1 (omega arith, omega arith)))
    where
      counts : has_operation (held_set os) (record { client = client; clock = clock }) ≡ true ↔ (0 ≤ clock) × (clock < 0 + held_clock (held_set os) client.0)
      counts = counts_from client (held_set os) 0 (held_written os w) (λ o i e. omega arith)
          (λ k le e. clock_before (record { client = client; clock = suc k }) k e refl) clock

  -- the smaller clocks of a held id's client are held
  pub held_smaller : IsWritten os → (x y : Id) → has_operation (held_set os) x ≡ true → HasSmallerClock y x → has_operation (held_set os) y ≡ true
  held_smaller w x y e smaller = (held_below w y.client y.clock).1
      (rw smaller.0 (omega (arith, smaller.1, (held_below w x.client x.clock).0 e)))
