use Rattle.std.proofs.Common.{None}
use Rattle.yd_store.specs.Store.{gone_stretch}
use Rattle.yd_kept.proofs.ChangeLemmas.{lost_fills}
use Rattle.yd_kept.proofs.kept.Kept.hold_gone.Goals as goal

pub returns-clause-filled : goal.returns-clause-filled
returns-clause-filled c =
    rw (← c.self.view_is) (lost_fills c.self.inside.names c.self.inside.store c.add_gone.new.self (gone_stretch c.args.span) None
    c.is_sound.ensures.lists (rw (← c.self.view_is) at c.requires.next) c.in_ok-add_gone.ensures.done)
