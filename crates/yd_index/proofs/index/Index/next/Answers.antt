use Rattle.std.proofs.Common.{◌∙◌}
use Rattle.yd_index.proofs.LinesLemmas.{next_seen}
use Rattle.yd_index.proofs.index.Index.next.Goals as goal

pub returns : goal.returns
returns c = rw (← c.self.view_is) (c.next.ensures ∙ next_seen (rw c.deref.ensures.value at c.in-Some.ensures.seat) c.index.ensures)
