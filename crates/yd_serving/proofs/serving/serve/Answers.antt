use Rattle.std.proofs.Common.{◌∙◌}
use Rattle.yd_serving.proofs.BoardLemmas.{trades_nothing}
use Rattle.yd_serving.proofs.ServeLemmas.{keeps_events, serves_behind}
use Rattle.yd_serving.proofs.TurnLemmas.{no_fault, none_serves}
use Rattle.yd_serving.proofs.serving.serve.Goals as goal

pub returns-in_err-start-clause-served : goal.returns-in_err-start-clause-served
returns-in_err-start-clause-served g c =
    let none = c.in_err-start.ensures in
    none_serves (Unit {0}) c.args.turns _ _ _ _ c.from_residual.result c.from_residual.ensures.1 none.told none.cause none.send_faults

pub returns-in_err-start-clause-linked : goal.returns-in_err-start-clause-linked
returns-in_err-start-clause-linked g c = λ calm has.
    let came = c.in_err-start.ensures.calm calm in
    (no_fault (Unit {0}) _ c.from_residual.result c.from_residual.ensures.1 came.1, came.2)

pub returns-clause-served : goal.returns-clause-served
returns-clause-served g c =
    let started = c.in_ok-start.ensures in
    serves_behind c.args.turns _ _ _ _ _ c.serve_turns.result (trades_nothing _ _ started.told started.cause started.send_faults) c.serve_turns.ensures.served

pub returns-clause-linked : goal.returns-clause-linked
returns-clause-linked g c = λ calm has.
    let started = c.in_ok-start.ensures.calm calm in
    let came = c.serve_turns.ensures.linked started.0 (keeps_events _ _ c.args.turns c.in_ok-start.ensures.told has) in
    (came.0, came.1 ∙ started.2)
