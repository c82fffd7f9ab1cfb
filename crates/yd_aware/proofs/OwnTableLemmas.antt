-- The own state, set again.
use Rattle.std.proofs.Common.{◌≡◌, ℕ, suc, true, false, List, Option, Some, None, is_some, refl, sym, ap, ◌∙◌, true≢false}
use Rattle.yd_ids.specs.declared.id.Client.{Client}
use Rattle.yd_sync.specs.declared.seat.Seat.{Seat}
use Rattle.yd_sync.specs.Table.{AreRows, Row, seated, standing_in}
use Rattle.yd_aware.specs.AwareTable.{after_renewal}
use Rattle.yd_aware.specs.Rows.{changed, renewed_seat, seat_in, standing_of_seat}
use Rattle.yd_aware.proofs.SeatLemmas.{changed-to, seated-changed, standing_in-seat}

-- a seat that is renewed is set once more with its state
renewed_is_set : (own : Client) (now : ℕ) (rows : List Row) (seat : Option Seat) → AreRows rows → seat_in rows own.0 ≡ seat → is_some (standing_of_seat seat).state ≡ true →
    changed own.0 (renewed_seat now) rows
    ≡ seated (own.0, record { clock = suc (standing_of_seat seat).clock; state = (standing_of_seat seat).state; moment = now; source = 0 }) rows
renewed_is_set own now rows None ascend is stated = absurd (true≢false (sym stated))
renewed_is_set own now rows (Some seat) ascend is stated =
    changed-to own.0 (renewed_seat now) seat rows is ∙ sym (seated-changed own.0 (renewed_seat now seat) seat rows ascend is)

pub renewed_own : (own : Client) (now : ℕ) (rows : List Row) → AreRows rows → is_some (standing_in rows own.0).state ≡ true →
    changed own.0 (renewed_seat now) rows ≡ after_renewal (Some own) now rows
renewed_own own now rows ascend stated = rw stated
    (renewed_is_set own now rows (seat_in rows own.0) ascend refl (sym (ap (λ s. is_some s.state) (standing_in-seat rows own.0)) ∙ stated)
    ∙ ap (λ s. seated (own.0, record { clock = suc s.clock; state = s.state; moment = now; source = 0 }) rows) (sym (standing_in-seat rows own.0)))

-- without an own state nothing is set
pub renewed_nothing : (own : Client) (now : ℕ) (rows : List Row) → is_some (standing_in rows own.0).state ≡ false → rows ≡ after_renewal (Some own) now rows
renewed_nothing own now rows none = rw none
