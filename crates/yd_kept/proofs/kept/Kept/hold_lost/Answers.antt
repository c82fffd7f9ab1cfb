use Rattle.yd_ops.specs.View.{run_value}
use Rattle.std.proofs.Common.{Some, None}
use Rattle.yd_store.specs.Store.{stretch_of}
use Rattle.yd_kept.proofs.ChangeLemmas.{lost_fills}
use Rattle.yd_kept.proofs.kept.Kept.hold_lost.Goals as goal

pub returns-clause-filled : goal.returns-clause-filled
returns-clause-filled c =
    rw (← c.self.view_is) (lost_fills c.self.inside.names c.self.inside.store c.add_lost.new.self (stretch_of (run_value c.args.run) None) (Some (run_value c.args.run))
    c.is_sound.ensures.lists (rw (← c.self.view_is) at c.requires.next) c.in_ok-add_lost.ensures.done)
