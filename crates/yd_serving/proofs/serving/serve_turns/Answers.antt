use Rattle.std.proofs.Common.{◌∙◌, arith, refl}
use Rattle.yd_serving.proofs.ServeLemmas.{event_left, linked_on, serves_more, serves_none, serves_stop, serves_whole}
use Rattle.yd_serving.proofs.serving.serve_turns.Goals as goal

pub loop-init : goal.loop-init
loop-init g c = record { served = serves_none _ _; calm = λ calm. calm; linked = λ calm has. refl }

pub returns-in_err-serve_turn-clause-served : goal.returns-in_err-serve_turn-clause-served
returns-in_err-serve_turn-clause-served g c =
    serves_stop c.args.turns c.loop.counter _ _ _ _ _ _ _ c.from_residual.result c.from_residual.ensures.1 c.loop-test.true c.loop.invariant.served c.in_err-serve_turn.ensures.served

pub returns-in_err-serve_turn-clause-linked : goal.returns-in_err-serve_turn-clause-linked
returns-in_err-serve_turn-clause-linked g c = λ calm has.
    let loop = c.loop.invariant in
    let came = c.in_err-serve_turn.ensures.linked (loop.calm calm) (event_left c.args.turns c.loop.counter _ _ _ _ c.loop-test.true loop.served has) in
    (linked_on _ c.from_residual.result c.from_residual.ensures.1 came.0, came.1 ∙ loop.linked calm has)

pub loop-preserved : goal.loop-preserved
loop-preserved g c =
    let loop = c.loop.invariant in
    let done = c.in_ok-serve_turn.ensures in
    record {
      served = serves_more c.loop.counter _ _ _ _ _ _ loop.served done.served;
      calm = λ calm. done.calm (loop.calm calm);
      linked = λ calm has. (done.linked (loop.calm calm) (event_left c.args.turns c.loop.counter _ _ _ _ c.loop-test.true loop.served has)).1 ∙ loop.linked calm has;
    }

pub returns-clause-served : goal.returns-clause-served
returns-clause-served g c = serves_whole c.args.turns c.loop.counter _ _ _ _ (omega arith) (omega (arith, c.loop-test.false)) c.loop.invariant.served

pub returns-clause-linked : goal.returns-clause-linked
returns-clause-linked g c = λ calm has. (tt, c.loop.invariant.linked calm has)
