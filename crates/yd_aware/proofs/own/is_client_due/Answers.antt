use Rattle.std.proofs.Common.{ap, sym, ◌∙◌}
use Rattle.yd_aware.specs.Rows.{is_due_of}
use Rattle.yd_aware.proofs.SeatLemmas.{is_due-seat}
use Rattle.yd_aware.proofs.own.is_client_due.Goals as goal

pub returns-in-None : goal.returns-in-None
returns-in-None c = sym (is_due-seat c.args.own c.args.now c.args.rows.now.entries ∙ ap (is_due_of c.args.now) (sym c.in-None.ensures))

pub returns-in-Some : goal.returns-in-Some
returns-in-Some c =
    c.is_seat_due.ensures ∙ sym (is_due-seat c.args.own c.args.now c.args.rows.now.entries ∙ ap (is_due_of c.args.now) (sym c.in-Some.ensures))
