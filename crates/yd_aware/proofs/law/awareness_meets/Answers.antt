use Rattle.std.proofs.Common.{[], sym, ap, ◌∙◌}
use Rattle.yd_sync.specs.Table.{standing_in}
use Rattle.yd_sync.specs.TableEvent.{all_entries}
use Rattle.yd_sync.proofs.TableLemmas.{events_join, tables_one}
use Rattle.yd_aware.specs.AwareTable.{nobody}
use Rattle.yd_aware.proofs.LawLemmas.{rows-after_events}
use Rattle.yd_aware.proofs.law.awareness_meets.Goals as goal

pub returns : goal.returns
returns c = λ own other events others same agree client foreign foreign_too.
    ap (λ rows. standing_in rows client) (rows-after_events events (nobody own))
    ∙ events_join own events [] client foreign tt
    ∙ tables_one client (all_entries own events []) (all_entries other others []) (λ e. (same e).0) (λ e. (same e).1) agree
    ∙ sym (events_join other others [] client foreign_too tt)
    ∙ sym (ap (λ rows. standing_in rows client) (rows-after_events others (nobody other)))
