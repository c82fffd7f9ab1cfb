use Rattle.std.proofs.Common.{ap, ◌∙◌}
use Rattle.yd_aware.specs.Undoing.{given_back, was_of}
use Rattle.yd_aware.proofs.UndoingLemmas.{noted, seated_undone}
use Rattle.yd_aware.proofs.taking.seat_entry.Goals as goal

pub returns-clause-kept : goal.returns-clause-kept
returns-clause-kept c =
    noted c.args.changes.now.items c.reserve.new.self.items c.note.new.changes.items (record { client = c.args.entry.now.client.0; was = c.was_of-was.result })
    c.args.rows.now.entries c.put_seat.new.rows.entries c.in_ok-reserve.ensures.items c.note.ensures
    (ap (λ was. given_back c.args.entry.now.client.0 was c.put_seat.new.rows.entries) c.was_of-was.ensures
    ∙ ap (given_back c.args.entry.now.client.0 (was_of c.in_ok-put_seat.field-0)) c.in_ok-put_seat.ensures.put
    ∙ seated_undone c.args.entry.now.client.0 c.in_ok-seat.seat c.in_ok-put_seat.field-0 c.args.rows.now.entries c.requires c.in_ok-put_seat.ensures.was)
