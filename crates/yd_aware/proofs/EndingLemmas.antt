-- States that end one by one, and all at once.
use Rattle.std.proofs.Common.{◌≡◌, ℕ, Bool, true, false, List, [], ◌∷◌, Option, Some, None, is_some, inl, inr, refl, sym, ap, ◌∙◌, subst, arith, tests, true≢false, nat_eq, nat_lt}
use Rattle.yd_words.specs.Each.{Each}
use Rattle.yd_words.proofs.EachLemmas.{each_append}
use Rattle.yd_sync.specs.declared.entry.AwareEntry.{AwareEntry}
use Rattle.yd_sync.specs.declared.seat.Seat.{Seat}
use Rattle.yd_sync.specs.Table.{AreRows, Row, emptied, ended_of, entry_of, is_of, where_so, without_states}
use Rattle.yd_sync.proofs.PresenceLemmas.{tested, same_number}
use Rattle.yd_sync.proofs.RowLemmas.{Behind}
use Rattle.yd_aware.specs.Ending.{ended_each}
use Rattle.yd_aware.specs.Rows.{clock_where_stated, emptied_seat, ended_at, standing_of_seat}
use Rattle.yd_aware.proofs.SeatLemmas.{itself, not_below}

-- ending states of later clients leaves the first row as it is
ended_each-later : (es : List AwareEntry) (row : Row) (rows : List Row) → Each (λ e. nat_lt row.0 e.client.0 ≡ true) es →
    ended_each es (row ∷ rows) ≡ row ∷ ended_each es rows
ended_each-later [] row rows all = refl
ended_each-later (e ∷ es) row rows all = rw (not_below_too row.0 e.client.0 all.0) (ended_each-later es row (ended_at e.client.0 rows) all.1)
  where
    not_below_too : (m n : ℕ) → nat_lt m n ≡ true → nat_eq m n ≡ false
    not_below_too m n e = grind (arith, tests)

where_later : (t : Bool) (client : ℕ) (e : AwareEntry) → nat_lt client e.client.0 ≡ true → Each (λ f. nat_lt client f.client.0 ≡ true) (where_so t e)
where_later true client e less = (less, tt)
where_later false client e less = tt

-- what is told of later rows is told of later clients
ended_later : (test : Row → Bool) (client : ℕ) (rows : List Row) → Each (Behind client) rows → Each (λ e. nat_lt client e.client.0 ≡ true) (ended_of test rows)
ended_later test client [] all = tt
ended_later test client (row ∷ rest) all =
    each_append (λ e. nat_lt client e.client.0 ≡ true) (where_so (test row) (entry_of (emptied row))) (ended_of test rest)
    (where_later (test row) client (entry_of (emptied row)) all.0) (ended_later test client rest all.1)

-- the states that are told to end, ended one by one
pub ended_each-ended : (test : Row → Bool) (rows : List Row) → AreRows rows → ended_each (ended_of test rows) rows ≡ without_states test rows
ended_each-ended test [] ascend = refl
ended_each-ended test (row ∷ rest) ascend = elim (tested (test row)) [
  | inl e ↦ rw (e, itself row.0)
      (ended_each-later (ended_of test rest) (emptied row) rest (ended_later test row.0 rest ascend.0)
      ∙ ap (λ rows. emptied row ∷ rows) (ended_each-ended test rest ascend.1))
  | inr e ↦ rw e
      (ended_each-later (ended_of test rest) row rest (ended_later test row.0 rest ascend.0)
      ∙ ap (λ rows. row ∷ rows) (ended_each-ended test rest ascend.1))
]

-- ---- one client

-- the client has no row here
others_stay : (client : ℕ) (rows : List Row) → Each (Behind client) rows → without_states (is_of client) rows ≡ rows
others_stay client [] all = refl
others_stay client (row ∷ rest) all = rw (not_below client row.0 all.0) (ap (λ rows. row ∷ rows) (others_stay client rest all.1))

no_state : (state : Option (List ℕ)) → is_some state ≡ false → state ≡ None
no_state None e = refl
no_state (Some s) e = absurd (true≢false e)

pub ended_at-dropped : (client : ℕ) (rows : List Row) → AreRows rows → ended_at client rows ≡ without_states (is_of client) rows
ended_at-dropped client [] ascend = refl
ended_at-dropped client (row ∷ rest) ascend = elim (tested (nat_eq row.0 client)) [
  | inr other ↦ rw other (ap (λ rows. row ∷ rows) (ended_at-dropped client rest ascend.1))
  | inl same ↦ elim (tested (is_some row.1.state)) [
    | inl stated ↦ rw (same, stated) (ap (λ rows. emptied row ∷ rows) (sym (stay same)))
    | inr none ↦ rw (same, none)
        (ap (λ state. (row.0, record { clock = row.1.clock; state = state; moment = row.1.moment; source = row.1.source }) ∷ rest) (sym (no_state row.1.state none))
        ∙ ap (λ rows. row ∷ rows) (sym (stay same)))
  ]
]
  where
    stay : nat_eq row.0 client ≡ true → without_states (is_of client) rest ≡ rest
    stay same = others_stay client rest (subst (λ k. Each (Behind k) rest) (same_number row.0 client same) ascend.0)

-- ---- a seat without a state

pub emptied-none : (seat : Seat) → is_some seat.state ≡ false → seat ≡ emptied_seat seat
emptied-none seat none = ap (λ state. record { clock = seat.clock; state = state; moment = seat.moment; source = seat.source }) (no_state seat.state none)

pub clock_none : (seat : Seat) → is_some seat.state ≡ false → clock_where_stated (standing_of_seat (Some seat)) ≡ None
clock_none seat none = rw none

pub clock_some : (seat : Seat) → is_some seat.state ≡ true → clock_where_stated (standing_of_seat (Some seat)) ≡ Some seat.clock
clock_some seat stated = rw stated
