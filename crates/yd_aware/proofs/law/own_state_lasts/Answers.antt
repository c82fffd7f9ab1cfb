use Rattle.std.proofs.Common.{ap, ◌∙◌}
use Rattle.yd_sync.specs.Table.{standing_in}
use Rattle.yd_sync.specs.TableEvent.{tables_after}
use Rattle.yd_aware.proofs.LawLemmas.{all_stay, rows-after_events}
use Rattle.yd_aware.proofs.law.own_state_lasts.Goals as goal

pub returns : goal.returns
returns c = λ own events table s is held all.
    ap (λ rows. (standing_in rows own.0).state) (rows-after_events events table)
    ∙ ap (λ o. (standing_in (tables_after o events table.rows) own.0).state) is
    ∙ all_stay own events table.rows s held all
