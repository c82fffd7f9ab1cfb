-- What is known of a client stands in its seat.
use Rattle.std.proofs.Common.{◌≡◌, ℕ, suc, ◌<◌, ◌+◌, ◌-◌, ◌^◌, Bool, true, false, ◌&&◌, not, is_some, List, [], ◌∷◌, Option, Some, None, inl, inr, refl, sym, ap, ◌∙◌, arith, tests, nat_eq, nat_le, nat_lt}
use Rattle.std.specs.Prelude.{IfSome, if◌then◌else◌}
use Rattle.std.proofs.lemmas.Bool.{eq-eqb}
use Rattle.yd_words.specs.Each.{Each}
use Rattle.yd_words.proofs.EachLemmas.{each_weaker}
use Rattle.yd_ids.specs.declared.id.Client.{Client}
use Rattle.yd_sync.specs.declared.entry.AwareEntry.{AwareEntry}
use Rattle.yd_sync.specs.declared.seat.Seat.{Seat}
use Rattle.yd_sync.specs.Table.{AreRows, Row, after_entry, is_due, ends_own, is_newer_in, is_taken, moment_in, raised, row_of, seated, standing_in}
use Rattle.yd_sync.proofs.PresenceLemmas.{tested, same_number}
use Rattle.yd_sync.proofs.RowLemmas.{Behind}
use Rattle.yd_aware.specs.Rows.{changed, is_due_of, moment_of_seat, seat_in, standing_of_seat}
use Rattle.yd_aware.specs.declared.verdict.Verdict.TheVariants.{Left, Raises, Taken}
use Rattle.yd_aware.specs.Verdict.{after_verdict, takes, verdict_of}
use Rattle.yd_aware.proofs.TreeLemmas.{seat_here, seat_there, same_seat, no_seat}

pub standing_in-seat : (rows : List Row) (client : ℕ) → standing_in rows client ≡ standing_of_seat (seat_in rows client)
standing_in-seat [] client = refl
standing_in-seat (row ∷ rest) client = elim (tested (nat_eq row.0 client)) [
  | inl same ↦ rw same
  | inr other ↦ rw other (standing_in-seat rest client)
]

pub moment_in-seat : (rows : List Row) (client : ℕ) → moment_in rows client ≡ moment_of_seat (seat_in rows client)
moment_in-seat [] client = refl
moment_in-seat (row ∷ rest) client = elim (tested (nat_eq row.0 client)) [
  | inl same ↦ rw same
  | inr other ↦ rw other (moment_in-seat rest client)
]

-- ---- a seat that is put

pub turned : (m n : ℕ) → nat_eq m n ≡ false → nat_eq n m ≡ false
turned m n e = grind (arith, tests)

pub turned_same : (m n : ℕ) → nat_eq m n ≡ true → nat_eq n m ≡ true
turned_same m n e = grind (arith, tests)

pub not_below : (m n : ℕ) → nat_lt m n ≡ true → nat_eq n m ≡ false
not_below m n e = grind (arith, tests)

pub itself : (n : ℕ) → nat_eq n n ≡ true
itself n = eq-eqb n n refl

less_trans : (k m n : ℕ) → nat_lt k m ≡ true → nat_lt m n ≡ true → nat_lt k n ≡ true
less_trans k m n e f = grind (arith, tests)

-- nobody below the first row has a seat
pub absent_below : (client : ℕ) (rows : List Row) → Each (Behind client) rows → seat_in rows client ≡ None
absent_below client [] all = refl
absent_below client (row ∷ rest) all = rw (not_below client row.0 all.0) (absent_below client rest all.1)

absent_in_front : (client : ℕ) (row : Row) (rest : List Row) → AreRows (row ∷ rest) → nat_lt client row.0 ≡ true → seat_in (row ∷ rest) client ≡ None
absent_in_front client row rest ascend less =
    absent_below client (row ∷ rest) (less, each_weaker (Behind row.0) (Behind client) (λ r. less_trans client row.0 r.0 less) rest ascend.0)

-- a seat that is put where there is one is a change of it
pub seated-changed : (client : ℕ) (seat was : Seat) (rows : List Row) → AreRows rows → seat_in rows client ≡ Some was →
    seated (client, seat) rows ≡ changed client (λ other. seat) rows
seated-changed client seat was [] ascend found = no_seat was (sym found)
seated-changed client seat was (row ∷ rest) ascend found = elim (tested (nat_lt client row.0)) [
  | inl less ↦ no_seat was (sym found ∙ absent_in_front client row rest ascend less)
  | inr more ↦ elim (tested (nat_eq client row.0)) [
    | inl same ↦ rw (more, same, turned_same client row.0 same) (ap (λ k. (k, seat) ∷ rest) (same_number client row.0 same))
    | inr other ↦ rw (more, other, turned client row.0 other)
        (ap (λ rows. row ∷ rows) (seated-changed client seat was rest ascend.1 (sym (seat_there client row rest (turned client row.0 other)) ∙ found)))
  ]
]

-- two changes in a row
pub changed-changed : (client : ℕ) (first then_so : Seat → Seat) (rows : List Row) →
    changed client then_so (changed client first rows) ≡ changed client (λ seat. then_so (first seat)) rows
changed-changed client first then_so [] = refl
changed-changed client first then_so (row ∷ rest) = elim (tested (nat_eq row.0 client)) [
  | inl same ↦ rw (same, same)
  | inr other ↦ rw (other, other) (ap (λ rows. row ∷ rows) (changed-changed client first then_so rest))
]

-- a change by a seat that is there is a change by any way to the same seat
pub changed-to : (client : ℕ) (change : Seat → Seat) (was : Seat) (rows : List Row) → seat_in rows client ≡ Some was →
    changed client change rows ≡ changed client (λ other. change was) rows
changed-to client change was [] found = refl
changed-to client change was (row ∷ rest) found = elim (tested (nat_eq row.0 client)) [
  | inl same ↦ rw same (ap (λ s. (row.0, change s) ∷ rest) (same_seat row.1 was (sym (seat_here client row rest same) ∙ found)))
  | inr other ↦ rw other (ap (λ rows. row ∷ rows) (changed-to client change was rest (sym (seat_there client row rest other) ∙ found)))
]

-- ---- an entry that comes

by_tests : (news ends fits : Bool) (now source : ℕ) (e : AwareEntry) (rows : List Row) →
    (if news then (if ends then (if fits then raised e.client.0 (suc e.clock) rows else rows) else seated (row_of now source e) rows) else rows)
    ≡ after_verdict (if news then (if ends then (if fits then Raises (suc e.clock) else Left) else Taken) else Left) now source e rows
by_tests false ends fits now source e rows = refl
by_tests true false fits now source e rows = refl
by_tests true true false now source e rows = refl
by_tests true true true now source e rows = refl

pub after_entry-verdict : (own : Option Client) (now source : ℕ) (e : AwareEntry) (rows : List Row) →
    after_entry own now source e rows ≡ after_verdict (verdict_of own (standing_in rows e.client.0) e) now source e rows
after_entry-verdict own now source e rows = by_tests (is_newer_in rows e) (ends_own own rows e) (nat_lt e.clock (2 ^ 53 - 1)) now source e rows

taken_by_tests : (news ends fits : Bool) (clock : ℕ) → news && not ends ≡ takes (if news then (if ends then (if fits then Raises clock else Left) else Taken) else Left)
taken_by_tests false ends fits clock = refl
taken_by_tests true false fits clock = refl
taken_by_tests true true false clock = refl
taken_by_tests true true true clock = refl

pub is_taken-verdict : (own : Option Client) (e : AwareEntry) (rows : List Row) → is_taken own rows e ≡ takes (verdict_of own (standing_in rows e.client.0) e)
is_taken-verdict own e rows = taken_by_tests (is_newer_in rows e) (ends_own own rows e) (nat_lt e.clock (2 ^ 53 - 1)) (suc e.clock)

-- ---- the own client

pub seat_fits : (clock : ℕ) (seat : Option Seat) → clock < 9007199254740991 → clock ≡ (standing_of_seat seat).clock → IfSome seat (λ s. s.clock < 9007199254740992)
seat_fits clock None less is = tt
seat_fits clock (Some seat) less is = omega (arith, less, is)

pub is_due-seat : (own : Client) (now : ℕ) (rows : List Row) → is_due (Some own) now rows ≡ is_due_of now (seat_in rows own.0)
is_due-seat own now rows =
    ap (λ s. is_some s.state && nat_le (moment_in rows own.0 + 15000) now) (standing_in-seat rows own.0)
    ∙ ap (λ m. is_some (standing_of_seat (seat_in rows own.0)).state && nat_le (m + 15000) now) (moment_in-seat rows own.0)
    ∙ both (seat_in rows own.0)
  where
    both : (seat : Option Seat) → is_some (standing_of_seat seat).state && nat_le (moment_of_seat seat + 15000) now ≡ is_due_of now seat
    both None = refl
    both (Some seat) = refl
