-- How many operations are held: as many of each client as its clock in the state vector, all clients summed up.
use Rattle.std.proofs.Common.{◌≡◌, ◌≢◌, ℕ, suc, ◌+◌, ◌*◌, ◌^◌, ◌<◌, ◌≤◌, Bool, true, false, not, List, [], ◌∷◌, ◌++◌, inl, inr, length, nat_eq, reverse, refl, sym, ap, ◌∙◌, subst, arith, tests}
use Rattle.std.specs.Prelude.{filter, if◌then◌else◌}
use Rattle.std.specs.List.{sum_by}
use Rattle.std.proofs.lemmas.List.Sorted.{sum_by-IsPermutation, IsPermutation-reverse}
use Rattle.std.proofs.lemmas.List.Sums.{sum_by-cons, sum_by-append}
use Rattle.yd_words.specs.Each.{Each}
use Rattle.yd_words.proofs.TestLemmas.{same_or_other}
use Rattle.yd_ids.specs.declared.id.Client.{Client}
use Rattle.yd_ids.specs.Vector.{clock_of, IsVector}
use Rattle.yd_ops.specs.Operation.{Operation}
use Rattle.yd_meaning.specs.Held.{held_clock}
use Rattle.yd_checking.specs.Counts.{clock_reached}

-- whether an operation is of another client
abbrev is_of_other : ℕ → Operation → Bool
is_of_other client o = not (nat_eq o.id.client.0 client)

-- ---- one client, and all others

client_parted : (client : ℕ) (os : List Operation) → held_clock os client + length (filter (is_of_other client) os) ≡ length os
client_parted client [] = refl
client_parted client (o ∷ os) = go (nat_eq o.id.client.0 client) (client_parted client os)
  where
    go : (t : Bool) → held_clock os client + length (filter (is_of_other client) os) ≡ length os →
        (if t then suc (held_clock os client) else held_clock os client)
        + length (if not t then o ∷ filter (is_of_other client) os else filter (is_of_other client) os) ≡ suc (length os)
    go true e = omega (arith, e)
    go false e = omega (arith, e)

none_left : (client : ℕ) (os : List Operation) → held_clock (filter (is_of_other client) os) client ≡ 0
none_left client [] = refl
none_left client (o ∷ os) = go (nat_eq o.id.client.0 client) refl (none_left client os)
  where
    go : (t : Bool) → nat_eq o.id.client.0 client ≡ t → held_clock (filter (is_of_other client) os) client ≡ 0 →
        held_clock (if not t then o ∷ filter (is_of_other client) os else filter (is_of_other client) os) client ≡ 0
    go true e rest = rest
    go false e rest = ap (λ t. if t then suc (held_clock (filter (is_of_other client) os) client) else held_clock (filter (is_of_other client) os) client) e ∙ rest

others_left : (client other : ℕ) → other ≢ client → (os : List Operation) → held_clock (filter (is_of_other client) os) other ≡ held_clock os other
others_left client other apart [] = refl
others_left client other apart (o ∷ os) = go (nat_eq o.id.client.0 client) refl (others_left client other apart os)
  where
    go : (t : Bool) → nat_eq o.id.client.0 client ≡ t → held_clock (filter (is_of_other client) os) other ≡ held_clock os other →
        held_clock (if not t then o ∷ filter (is_of_other client) os else filter (is_of_other client) os) other
        ≡ (if nat_eq o.id.client.0 other then suc (held_clock os other) else held_clock os other)
    go true e rest = rest ∙ sym (ap (λ t. if t then suc (held_clock os other) else held_clock os other) no_other)
      where
        no_other : nat_eq o.id.client.0 other ≡ false
        no_other = grind (arith, tests)
    go false e rest = ap (λ n. if nat_eq o.id.client.0 other then suc n else n) rest

none_held : (os : List Operation) → ((client : ℕ) → held_clock os client ≡ 0) → length os ≡ 0
none_held [] none = refl
none_held (o ∷ os) none = absurd (omega (arith, sym (ap (λ t. if t then suc (held_clock os o.id.client.0) else held_clock os o.id.client.0) itself) ∙ none o.id.client.0))
  where
    itself : nat_eq o.id.client.0 o.id.client.0 ≡ true
    itself = grind (arith, tests)

-- ---- a vector

first_clock : (entry : Client × ℕ) (rest : List (Client × ℕ)) → clock_of (entry ∷ rest) entry.0.0 ≡ entry.1
first_clock entry rest = ap (λ t. if t then entry.1 else clock_of rest entry.0.0) itself
  where
    itself : nat_eq entry.0.0 entry.0.0 ≡ true
    itself = grind (arith, tests)

other_clock : (entry : Client × ℕ) (rest : List (Client × ℕ)) (other : ℕ) → other ≢ entry.0.0 → clock_of (entry ∷ rest) other ≡ clock_of rest other
other_clock entry rest other apart = ap (λ t. if t then entry.1 else clock_of rest other) no_other
  where
    no_other : nat_eq entry.0.0 other ≡ false
    no_other = grind (arith, tests)

none_before : (client : ℕ) (rest : List (Client × ℕ)) → Each (λ (later : Client × ℕ). client < later.0.0) rest → clock_of rest client ≡ 0
none_before client [] each = refl
none_before client (entry ∷ rest) each = other_clock entry rest client (λ same. omega (arith, same, each.0)) ∙ none_before client rest each.1

-- operations of which a vector has the clock of each client are as many as these clocks, summed up
pub clocks_count : (vector : List (Client × ℕ)) → IsVector vector → (os : List Operation) → ((client : ℕ) → clock_of vector client ≡ held_clock os client) →
    sum_by clock_reached vector ≡ length os
clocks_count [] is os clocks = sym (none_held os (λ client. sym (clocks client)))
clocks_count (entry ∷ rest) is os clocks = omega (
  arith,
  sum_by-cons clock_reached entry rest,
  clocks_count rest is.4 (filter (is_of_other entry.0.0) os) others,
  client_parted entry.0.0 os,
  clocks entry.0.0,
  first_clock entry rest,
)
  where
    others : (client : ℕ) → clock_of rest client ≡ held_clock (filter (is_of_other entry.0.0) os) client
    others client = elim (same_or_other client entry.0.0) [
      | inl same ↦ subst (λ (c : ℕ). clock_of rest c ≡ held_clock (filter (is_of_other entry.0.0) os) c) (sym same)
          (none_before entry.0.0 rest is.3 ∙ sym (none_left entry.0.0 os))
      | inr apart ↦ sym (other_clock entry rest client apart) ∙ clocks client ∙ sym (others_left entry.0.0 client apart os)
    ]

-- ---- how many there can be

clocks_from : (entry : Client × ℕ) (rest : List (Client × ℕ)) → IsVector (entry ∷ rest) → entry.0.0 * 2 ^ 53 + sum_by clock_reached (entry ∷ rest) ≤ 2 ^ 106
clocks_from entry [] is = omega (arith, sum_by-cons clock_reached entry [], is.0, is.2)
clocks_from entry (next ∷ rest) is = omega (arith, sum_by-cons clock_reached entry (next ∷ rest), clocks_from next rest is.4, is.2, is.3.0)

clocks_bound : (vector : List (Client × ℕ)) → IsVector vector → sum_by clock_reached vector ≤ 2 ^ 106
clocks_bound [] is = omega arith
clocks_bound (entry ∷ rest) is = omega (arith, clocks_from entry rest is)

reversed_sum : (vector : List (Client × ℕ)) → sum_by clock_reached (reverse vector) ≡ sum_by clock_reached vector
reversed_sum vector = sum_by-IsPermutation clock_reached vector (reverse vector) (IsPermutation-reverse vector)

-- ---- lemmas for callers

-- the clocks of the entries so far, and that of the next one, are not many
pub few_clocks : (vector front back rest : List (Client × ℕ)) (entry : Client × ℕ) → IsVector vector → front ++ back ≡ reverse vector → back ≡ entry ∷ rest →
    sum_by clock_reached front + entry.1 ≤ 2 ^ 106
few_clocks vector front back rest entry is all next = omega (
  arith,
  sum_by-append clock_reached front (entry ∷ rest),
  sum_by-cons clock_reached entry rest,
  ap (sum_by clock_reached) (ap (λ (behind : List (Client × ℕ)). front ++ behind) (sym next) ∙ all) ∙ reversed_sum vector,
  clocks_bound vector is,
)

-- all entries in the other order have the same sum
pub all_clocks : (vector front back : List (Client × ℕ)) → front ++ back ≡ reverse vector → back ≡ [] → sum_by clock_reached front ≡ sum_by clock_reached vector
all_clocks vector front back all end = omega (
  arith,
  sum_by-append clock_reached front [],
  ap (sum_by clock_reached) (ap (λ (behind : List (Client × ℕ)). front ++ behind) (sym end) ∙ all) ∙ reversed_sum vector,
)
