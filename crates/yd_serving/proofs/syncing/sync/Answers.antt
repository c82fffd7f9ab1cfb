use Rattle.std.proofs.Common.{◌∙◌}
use Rattle.yd_serving.proofs.BoardLemmas.{trades_nothing}
use Rattle.yd_serving.proofs.ExchangeLemmas.{no_link_fault}
use Rattle.yd_serving.proofs.ServeLemmas.{keeps_events}
use Rattle.yd_serving.proofs.SyncLemmas.{starts_not, syncs_behind}
use Rattle.yd_serving.proofs.syncing.sync.Goals as goal

pub returns-in_err-start-clause-synced : goal.returns-in_err-start-clause-synced
returns-in_err-start-clause-synced g c =
    let none = c.in_err-start.ensures in
    starts_not c.args.turns _ _ _ _ c.from_residual.result c.from_residual.ensures.1 none.told none.cause none.send_faults

pub returns-in_err-start-clause-linked : goal.returns-in_err-start-clause-linked
returns-in_err-start-clause-linked g c = λ calm has.
    let came = c.in_err-start.ensures.calm calm in
    (no_link_fault (Unit {0}) _ c.from_residual.result c.from_residual.ensures.1 came.1, came.2)

pub returns-clause-synced : goal.returns-clause-synced
returns-clause-synced g c =
    let started = c.in_ok-start.ensures in
    syncs_behind c.args.turns _ _ _ _ _ c.sync_turns.result (trades_nothing _ _ started.told started.cause started.send_faults) c.sync_turns.ensures.synced

pub returns-clause-linked : goal.returns-clause-linked
returns-clause-linked g c = λ calm has.
    let started = c.in_ok-start.ensures.calm calm in
    let came = c.sync_turns.ensures.linked started.0 (keeps_events _ _ c.args.turns c.in_ok-start.ensures.told has) in
    (came.0, came.1 ∙ started.2)
