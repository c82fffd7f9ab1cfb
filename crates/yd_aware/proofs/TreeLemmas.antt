-- What the calls of a sorted tree say, in the words of a table.
use Rattle.std.proofs.Common.{◌≡◌, ℕ, true, false, List, [], ◌∷◌, Option, Some, None, is_some, inl, inr, refl, sym, ap, ◌∙◌, arith, tests, true≢false, nat_eq, nat_lt}
use Rattle.std.specs.BTreeMap.{insert_entry, is_at}
use Rattle.std.specs.Map.{lookup, remove_entry, set_value}
use Rattle.std.specs.Ordering.{nat_cmp}
use Rattle.yd_sync.specs.declared.seat.Seat.{Seat}
use Rattle.yd_sync.specs.Table.{Row, raised, seated}
use Rattle.yd_sync.proofs.PresenceLemmas.{tested, same_number}
use Rattle.yd_aware.specs.Rows.{changed, seat_in, without_row}

-- the two tests of a key are one
at_same : (m n : ℕ) → is_at (nat_cmp m) n ≡ nat_eq n m
at_same m n = elim (tested (nat_lt m n)) [
  | inl less ↦ rw less (sym (other m n less))
  | inr more ↦ elim (tested (nat_eq m n)) [ inl same ↦ rw (more, same) (sym (turned m n same)) | inr apart ↦ rw (more, apart) (sym (turned_too m n apart)) ]
]
  where
    other : (a b : ℕ) → nat_lt a b ≡ true → nat_eq b a ≡ false
    other a b e = grind (arith, tests)

    turned : (a b : ℕ) → nat_eq a b ≡ true → nat_eq b a ≡ true
    turned a b e = grind (arith, tests)

    turned_too : (a b : ℕ) → nat_eq a b ≡ false → nat_eq b a ≡ false
    turned_too a b e = grind (arith, tests)

pub lookup-seat : (client : ℕ) (rows : List Row) → lookup (is_at (nat_cmp client)) rows ≡ seat_in rows client
lookup-seat client [] = refl
lookup-seat client (row ∷ rest) = elim (tested (nat_eq row.0 client)) [
  | inl same ↦ rw (at_same client row.0, same)
  | inr other ↦ rw (at_same client row.0, other) (lookup-seat client rest)
]

pub insert_entry-seated : (client : ℕ) (seat : Seat) (rows : List Row) → insert_entry nat_cmp rows client seat ≡ seated (client, seat) rows
insert_entry-seated client seat [] = refl
insert_entry-seated client seat (row ∷ rest) = elim (tested (nat_lt client row.0)) [
  | inl less ↦ rw less
  | inr more ↦ elim (tested (nat_eq client row.0)) [
    | inl same ↦ rw (more, same) (ap (λ k. (k, seat) ∷ rest) (sym (same_number client row.0 same)))
    | inr other ↦ rw (more, other) (ap (λ rows. row ∷ rows) (insert_entry-seated client seat rest))
  ]
]

pub remove_entry-row : (client : ℕ) (rows : List Row) → remove_entry (is_at (nat_cmp client)) rows ≡ without_row client rows
remove_entry-row client [] = refl
remove_entry-row client (row ∷ rest) = elim (tested (nat_eq row.0 client)) [
  | inl same ↦ rw (at_same client row.0, same)
  | inr other ↦ rw (at_same client row.0, other) (ap (λ rows. row ∷ rows) (remove_entry-row client rest))
]

-- ---- a seat, read and changed

pub seat_here : (client : ℕ) (row : Row) (rest : List Row) → nat_eq row.0 client ≡ true → seat_in (row ∷ rest) client ≡ Some row.1
seat_here client row rest same = rw same

pub seat_there : (client : ℕ) (row : Row) (rest : List Row) → nat_eq row.0 client ≡ false → seat_in (row ∷ rest) client ≡ seat_in rest client
seat_there client row rest other = rw other

abbrev seat_or : Seat → Option Seat → Seat
seat_or seat None = seat
seat_or seat (Some other) = other

pub same_seat : (a b : Seat) → Some a ≡ Some b → a ≡ b
same_seat a b e = ap (λ o. seat_or a o) e

pub no_seat : {X : Type 0} (seat : Seat) → Some seat ≡ None → X
no_seat seat e = absurd (true≢false (ap (λ o. is_some o) e))

-- what is written in the place of a seat is a change of it
pub set_value-changed : (client : ℕ) (change : Seat → Seat) (rows : List Row) (seat new : Seat) → seat_in rows client ≡ Some seat → new ≡ change seat →
    set_value (is_at (nat_cmp client)) rows new ≡ changed client change rows
set_value-changed client change [] seat new found is = refl
set_value-changed client change (row ∷ rest) seat new found is = elim (tested (nat_eq row.0 client)) [
  | inl same ↦ rw (at_same client row.0, same)
      (ap (λ s. (row.0, s) ∷ rest) (is ∙ sym (ap change (same_seat row.1 seat (sym (seat_here client row rest same) ∙ found)))))
  | inr other ↦ rw (at_same client row.0, other)
      (ap (λ rows. row ∷ rows) (set_value-changed client change rest seat new (sym (seat_there client row rest other) ∙ found) is))
]

-- where a client has no seat nothing changes
pub changed-absent : (client : ℕ) (change : Seat → Seat) (rows : List Row) → seat_in rows client ≡ None → changed client change rows ≡ rows
changed-absent client change [] none = refl
changed-absent client change (row ∷ rest) none = elim (tested (nat_eq row.0 client)) [
  | inl same ↦ no_seat row.1 (sym (seat_here client row rest same) ∙ none)
  | inr other ↦ rw other (ap (λ rows. row ∷ rows) (changed-absent client change rest (sym (seat_there client row rest other) ∙ none)))
]

-- a change that leaves the seat as it is
pub changed-same : (client : ℕ) (change : Seat → Seat) (rows : List Row) (seat : Seat) → seat_in rows client ≡ Some seat → change seat ≡ seat →
    changed client change rows ≡ rows
changed-same client change [] seat found same = refl
changed-same client change (row ∷ rest) seat found same = elim (tested (nat_eq row.0 client)) [
  | inl here ↦ rw here (ap (λ s. (row.0, s) ∷ rest) (stays (same_seat row.1 seat (sym (seat_here client row rest here) ∙ found))))
  | inr other ↦ rw other (ap (λ rows. row ∷ rows) (changed-same client change rest seat (sym (seat_there client row rest other) ∙ found) same))
]
  where
    stays : row.1 ≡ seat → change row.1 ≡ row.1
    stays e = ap change e ∙ same ∙ sym e

-- another clock is a change of the seat
abbrev pub at_clock : ℕ → Seat → Seat
at_clock clock seat = record { clock = clock; state = seat.state; moment = seat.moment; source = seat.source }

pub raised-changed : (client clock : ℕ) (rows : List Row) → raised client clock rows ≡ changed client (at_clock clock) rows
raised-changed client clock [] = refl
raised-changed client clock (row ∷ rest) = elim (tested (nat_eq row.0 client)) [
  | inl same ↦ rw same
  | inr other ↦ rw other (ap (λ rows. row ∷ rows) (raised-changed client clock rest))
]
