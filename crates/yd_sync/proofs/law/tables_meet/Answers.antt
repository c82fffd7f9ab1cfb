-- Both are what remains of the entries, which are the same.
use Rattle.std.proofs.Common.{[], sym, ◌∙◌}
use Rattle.yd_sync.specs.TableEvent.{all_entries}
use Rattle.yd_sync.proofs.TableLemmas.{events_join, tables_one}
use Rattle.yd_sync.proofs.law.tables_meet.Goals as goal

pub returns : goal.returns
returns c = λ own other events others same agree client foreign foreign_too.
    events_join own events [] client foreign tt
    ∙ tables_one client (all_entries own events []) (all_entries other others []) (λ e. (same e).0) (λ e. (same e).1) agree
    ∙ sym (events_join other others [] client foreign_too tt)
