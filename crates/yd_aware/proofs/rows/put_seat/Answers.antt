use Rattle.std.proofs.Common.{◌∙◌}
use Rattle.yd_aware.proofs.TreeLemmas.{insert_entry-seated, lookup-seat}
use Rattle.yd_aware.proofs.rows.put_seat.Goals as goal

pub returns-clause-was : goal.returns-clause-was
returns-clause-was c = c.in_ok-was.ensures.old ∙ lookup-seat c.args.client c.args.rows.now.entries

pub returns-clause-put : goal.returns-clause-put
returns-clause-put c = c.in_ok-was.ensures.entries ∙ insert_entry-seated c.args.client c.args.seat c.args.rows.now.entries
