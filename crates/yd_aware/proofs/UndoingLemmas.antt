-- A change that is undone leaves the rows as they were.
use Rattle.std.proofs.Common.{◌≡◌, ℕ, List, [], ◌∷◌, ◌++◌, Option, Some, None, is_some, unwrap_or, inl, inr, refl, sym, ap, ◌∙◌, true≢false, nat_eq, nat_lt}
use Rattle.std.specs.Option.{option_map}
use Rattle.yd_sync.specs.declared.seat.Seat.{Seat}
use Rattle.yd_sync.specs.Table.{AreRows, Row, raised, seated}
use Rattle.yd_sync.proofs.PresenceLemmas.{tested}
use Rattle.yd_aware.specs.declared.taking.Change.{Change}
use Rattle.yd_aware.specs.Rows.{changed, seat_in, without_row}
use Rattle.yd_aware.specs.Undoing.{given_back, restored, undone, was_of}
use Rattle.yd_aware.proofs.SeatLemmas.{changed-changed, itself, seated-changed, turned, turned_same}
use Rattle.yd_aware.proofs.TreeLemmas.{at_clock, changed-absent, changed-same, no_seat, raised-changed, seat_here, seat_there}

-- what was put where there was nothing is taken out
without_row-seated : (client : ℕ) (seat : Seat) (rows : List Row) → seat_in rows client ≡ None → without_row client (seated (client, seat) rows) ≡ rows
without_row-seated client seat [] none = rw (itself client)
without_row-seated client seat (row ∷ rest) none = elim (tested (nat_lt client row.0)) [
  | inl less ↦ rw (less, itself client)
  | inr more ↦ elim (tested (nat_eq client row.0)) [
    | inl same ↦ no_seat row.1 (sym (seat_here client row rest (turned_same client row.0 same)) ∙ none)
    | inr other ↦ rw (more, other, turned client row.0 other)
        (ap (λ rows. row ∷ rows) (without_row-seated client seat rest (sym (seat_there client row rest (turned client row.0 other)) ∙ none)))
  ]
]

-- a seat that was put is undone
pub seated_undone : (client : ℕ) (seat : Seat) (was : Option Seat) (rows : List Row) → AreRows rows → was ≡ seat_in rows client →
    given_back client (was_of was) (seated (client, seat) rows) ≡ rows
seated_undone client seat None rows ascend is = without_row-seated client seat rows (sym is)
seated_undone client seat (Some was) rows ascend is =
    ap (changed client (λ other. was)) (seated-changed client seat was rows ascend (sym is))
    ∙ changed-changed client (λ other. seat) (λ other. was) rows
    ∙ changed-same client (λ other. was) rows was (sym is) refl

-- a clock that was raised is given back
pub raised_undone : (client clock : ℕ) (was : Seat) (rows : List Row) → seat_in rows client ≡ Some was → raised client was.clock (raised client clock rows) ≡ rows
raised_undone client clock was rows found =
    raised-changed client was.clock (raised client clock rows)
    ∙ ap (changed client (at_clock was.clock)) (raised-changed client clock rows)
    ∙ changed-changed client (at_clock clock) (at_clock was.clock) rows
    ∙ changed-same client (λ seat. at_clock was.clock (at_clock clock seat)) rows was found refl

-- the last change is undone first
pub restored-push : (changes : List Change) (change : Change) (rows : List Row) → restored (changes ++ change ∷ []) rows ≡ restored changes (undone change rows)
restored-push [] change rows = refl
restored-push (first ∷ changes) change rows = ap (undone first) (restored-push changes change rows)

-- a change that was noted is undone first
pub noted : (old mid new : List Change) (change : Change) (rows now : List Row) → mid ≡ old → new ≡ mid ++ change ∷ [] → undone change now ≡ rows →
    restored new now ≡ restored old rows
noted old mid new change rows now same is undo =
    ap (λ changes. restored changes now) (is ∙ ap (λ changes. changes ++ change ∷ []) same)
    ∙ restored-push old change now
    ∙ ap (restored old) undo

-- a clock that was raised, by the one that was there
pub raise_undone : (client clock was : ℕ) (rows : List Row) (seat : Option Seat) → seat_in rows client ≡ seat → Some was ≡ option_map (λ (s : Seat). s.clock) seat →
    raised client was (raised client clock rows) ≡ rows
raise_undone client clock was rows None is at = absurd (true≢false (ap (λ o. is_some o) at))
raise_undone client clock was rows (Some seat) is at =
    ap (λ n. raised client n (raised client clock rows)) (some_clock was seat.clock at) ∙ raised_undone client clock seat rows is
  where
    some_clock : (m n : ℕ) → Some m ≡ Some n → m ≡ n
    some_clock m n e = ap (λ o. unwrap_or o 0) e

-- where nobody is, no clock is raised
pub raise_nothing : (client clock : ℕ) (rows : List Row) (seat : Option Seat) → seat_in rows client ≡ seat → None ≡ option_map (λ (s : Seat). s.clock) seat →
    raised client clock rows ≡ rows
raise_nothing client clock rows (Some seat) is at = absurd (true≢false (sym (ap (λ o. is_some o) at)))
raise_nothing client clock rows None is at = raised-changed client clock rows ∙ changed-absent client (at_clock clock) rows is
