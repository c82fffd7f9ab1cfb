use Rattle.yd_kept.proofs.MarkingLemmas.{marks_each}
use Rattle.yd_kept.proofs.kept.Kept.mark_each.Goals as goal

pub returns : goal.returns
returns c = rw (← c.self.view_is) (marks_each c.self.inside.names c.self.inside.store c.mark_all.new.store c.args.ids.now c.mark_all.ensures)
