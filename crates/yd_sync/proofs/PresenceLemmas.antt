-- The table after entries: of each client but one's own it has what remains of all that came.
use Rattle.std.proofs.Common.{◌≡◌, ◌≢◌, ◌⊎◌, ℕ, suc, ◌-◌, ◌^◌, Bool, true, false, ◌&&◌, not, cond, List, [], ◌∷◌, ◌++◌, Option, None, inl, inr, refl, sym, ap, ◌∙◌, arith, tests, true≢false, nat_eq, nat_lt}
use Rattle.std.proofs.lemmas.Bool.{eq-eqb, ne_eqb}
use Rattle.yd_ids.specs.declared.id.Client.{Client}
use Rattle.yd_sync.specs.declared.entry.AwareEntry.{AwareEntry}
use Rattle.yd_sync.specs.Standing.{join, standing_of_entry}
use Rattle.yd_sync.specs.Table.{Row, after_entries, after_entry, ends_own, is_newer_in, is_taken, raised, seated, standing_in, taken_of, where_so}

-- a test, and what it came out as
pub tested : (t : Bool) → (t ≡ true) ⊎ (t ≡ false)
tested true = inl refl
tested false = inr refl

pub same_number : (m n : ℕ) → nat_eq m n ≡ true → m ≡ n
same_number m n e = grind (arith, tests)

pub other_number : (m n : ℕ) → nat_eq m n ≡ false → m ≢ n
other_number m n e f = true≢false (sym (eq-eqb m n f) ∙ e)

-- ---- where a row is put

pub seated_this : (row : Row) (table : List Row) → standing_in (seated row table) row.0 ≡ record { clock = row.1.clock; state = row.1.state }
seated_this row [] = rw (eq-eqb row.0 row.0 refl)
seated_this row (first ∷ rest) = elim (tested (nat_lt row.0 first.0)) [
  | inl less ↦ rw (less, eq-eqb row.0 row.0 refl)
  | inr more ↦ elim (tested (nat_eq row.0 first.0)) [
    | inl same ↦ rw (more, same, eq-eqb row.0 row.0 refl)
    | inr other ↦ rw (more, other, ne_eqb first.0 row.0 (λ e. other_number row.0 first.0 other (sym e))) (seated_this row rest)
  ]
]

pub seated_other : (row : Row) (table : List Row) (client : ℕ) → row.0 ≢ client → standing_in (seated row table) client ≡ standing_in table client
seated_other row [] client ne = rw (ne_eqb row.0 client ne)
seated_other row (first ∷ rest) client ne = elim (tested (nat_lt row.0 first.0)) [
  | inl less ↦ rw (less, ne_eqb row.0 client ne)
  | inr more ↦ elim (tested (nat_eq row.0 first.0)) [
    | inl same ↦ rw (more, same, ne_eqb row.0 client ne, ne_eqb first.0 client (λ e. ne (same_number row.0 first.0 same ∙ e)))
    | inr other ↦ rw (more, other) (ap (λ s. cond (nat_eq first.0 client) (record { clock = first.1.clock; state = first.1.state }) s) (seated_other row rest client ne))
  ]
]

pub raised_state : (client clock : ℕ) (table : List Row) (other : ℕ) → (standing_in (raised client clock table) other).state ≡ (standing_in table other).state
raised_state client clock [] other = refl
raised_state client clock (row ∷ rest) other = elim (tested (nat_eq row.0 client)) [
  | inl same ↦ elim (tested (nat_eq row.0 other)) [ inl here ↦ rw (same, here) | inr there ↦ rw (same, there) ]
  | inr not_same ↦ elim (tested (nat_eq row.0 other)) [ inl here ↦ rw (not_same, here) | inr there ↦ rw (not_same, there) (raised_state client clock rest other) ]
]

pub raised_other : (client clock : ℕ) (table : List Row) (other : ℕ) → client ≢ other → standing_in (raised client clock table) other ≡ standing_in table other
raised_other client clock [] other ne = refl
raised_other client clock (row ∷ rest) other ne = elim (tested (nat_eq row.0 client)) [
  | inl same ↦ rw (same, ne_eqb row.0 other (λ e. ne (sym (same_number row.0 client same) ∙ e)))
  | inr not_same ↦ rw not_same (ap (λ s. cond (nat_eq row.0 other) (record { clock = row.1.clock; state = row.1.state }) s) (raised_other client clock rest other ne))
]

-- ---- an entry that comes

pub after_entry_other : (own : Option Client) (now source : ℕ) (e : AwareEntry) (table : List Row) (client : ℕ) → e.client.0 ≢ client →
    standing_in (after_entry own now source e table) client ≡ standing_in table client
after_entry_other own now source e table client ne = elim (tested (is_newer_in table e)) [
  | inr old ↦ rw old
  | inl new ↦ elim (tested (ends_own own table e)) [
    | inr other ↦ rw (new, other) (seated_other (e.client.0, record { clock = e.clock; state = e.state; moment = now; source = source }) table client ne)
    | inl ends ↦ elim (tested (nat_lt e.clock (2 ^ 53 - 1))) [ inl less ↦ rw (new, ends, less) (raised_other e.client.0 (suc e.clock) table client ne) | inr full ↦ rw (new, ends, full) ]
  ]
]

pub after_entry_this : (own : Option Client) (now source : ℕ) (e : AwareEntry) (table : List Row) → ends_own own table e ≡ false →
    standing_in (after_entry own now source e table) e.client.0 ≡ join (standing_in table e.client.0) (standing_of_entry e)
after_entry_this own now source e table other = elim (tested (is_newer_in table e)) [
  | inr old ↦ rw old
  | inl new ↦ rw (new, other) (seated_this (e.client.0, record { clock = e.clock; state = e.state; moment = now; source = source }) table)
]

-- ---- the entries that are taken

not_and : (t : Bool) → t && not false ≡ t
not_and true = refl
not_and false = refl

-- without an own client an entry is taken where it is newer
pub taken_newer : (table : List Row) (e : AwareEntry) → is_taken None table e ≡ is_newer_in table e
taken_newer table e = not_and (is_newer_in table e)

pub taken_suffice : (now source : ℕ) (es : List AwareEntry) (table : List Row) →
    after_entries None now source (taken_of None now source es table) table ≡ after_entries None now source es table
taken_suffice now source [] table = refl
taken_suffice now source (e ∷ es) table = elim (tested (is_newer_in table e)) [
  | inl new ↦ taken (taken_newer table e ∙ new) (taken_suffice now source es (after_entry None now source e table))
  | inr old ↦ left (taken_newer table e ∙ old) (rw old) (taken_suffice now source es table)
]
  where
    taken : is_taken None table e ≡ true →
        after_entries None now source (taken_of None now source es (after_entry None now source e table)) (after_entry None now source e table)
        ≡ after_entries None now source es (after_entry None now source e table) → after_entries None now source (taken_of None now source (e ∷ es) table) table ≡ after_entries None now source (e ∷ es) table
    taken h more = ap (λ t. after_entries None now source (where_so t e ++ taken_of None now source es (after_entry None now source e table)) table) h
        ∙ more

    left : is_taken None table e ≡ false → after_entry None now source e table ≡ table →
        after_entries None now source (taken_of None now source es table) table ≡ after_entries None now source es table → after_entries None now source (taken_of None now source (e ∷ es) table) table ≡ after_entries None now source (e ∷ es) table
    left h same more = ap (λ t. after_entries None now source (where_so t e ++ taken_of None now source es (after_entry None now source e table)) table) h
        ∙ ap (λ t. after_entries None now source (taken_of None now source es t) table) same
        ∙ more ∙ ap (λ t. after_entries None now source es t) (sym same)
