use Rattle.std.proofs.Common.{ap₂, ◌∙◌}
use Rattle.yd_index.specs.Line.{entry_in}
use Rattle.yd_index.proofs.LinesLemmas.{entries_seen, next_seen}
use Rattle.yd_index.proofs.index.Index.entry.Goals as goal

pub returns : goal.returns
returns c = rw (← c.self.view_is) (c.find.ensures.value ∙ ap₂ (λ es n. entry_in es n c.args.id.clock) (entries_seen (rw c.deref.ensures.value at c.in_ok-i.ensures.seat) c.index.ensures) (next_seen (rw c.deref.ensures.value at c.in_ok-i.ensures.seat) c.index.ensures))
