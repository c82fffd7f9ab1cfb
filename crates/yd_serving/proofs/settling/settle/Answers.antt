use Rattle.std.proofs.Common.{◌∙◌, ap, arith, refl, sym}
use Rattle.yd_hub.specs.Orders.{orders_of}
use Rattle.yd_serving.proofs.SettleLemmas.{settle_cut, settle_ends, settle_falls, settle_more, settle_stops, so_far_none}
use Rattle.yd_serving.proofs.settling.settle.Goals as goal

pub loop-alloc-init : goal.loop-alloc-init
loop-alloc-init g c = record { settled = so_far_none _ _ _ _ c.requires; calm = λ calm. calm; faults = refl }

pub returns-in_err-actions-clause-settled : goal.returns-in_err-actions-clause-settled
returns-in_err-actions-clause-settled g c =
    settle_stops _ _ _ _ _ _ _ _ c.from_residual.result c.from_residual.ensures.0 c.in_err-actions.ensures.unchanged c.loop-alloc.invariant.settled

pub returns-in_err-carry-clause-settled : goal.returns-in_err-carry-clause-settled
returns-in_err-carry-clause-settled g c =
    let took = c.in_ok-actions.ensures.taken in
    settle_cut _ _ _ _ _ _ _ _ _ _ _ _ c.from_residual-in_err-carry.result c.from_residual-in_err-carry.ensures.0 c.loop-alloc.invariant.settled c.first_of-session.ensures took.after
    (took.orders ∙ sym (ap orders_of c.as_slice.ensures)) c.in_err-carry.ensures.carried

pub loop-alloc-preserved : goal.loop-alloc-preserved
loop-alloc-preserved g c =
    let loop = c.loop-alloc in
    let took = c.in_ok-actions.ensures.taken in
    let done = c.in_ok-carry.ensures in
    record {
      settled = settle_more _ _ _ _ _ _ _ _ _ _ _ _ _ loop.invariant.settled c.first_of-session.ensures took.after (took.orders ∙ sym (ap orders_of c.as_slice.ensures)) done.carried;
      calm = λ calm. done.calm (loop.invariant.calm calm);
      faults = done.faults ∙ loop.invariant.faults;
    }

pub loop-alloc-smaller : goal.loop-alloc-smaller
loop-alloc-smaller g c = settle_falls _ _ _ _ _ _ _ _ _ _ c.loop-alloc.invariant.settled c.first_of-session.ensures c.in_ok-actions.ensures.taken.after

pub returns-clause-settled : goal.returns-clause-settled
returns-clause-settled g c = settle_ends _ _ _ _ _ _ _ c.loop-alloc.invariant.settled (omega (arith, c.loop-alloc-test.false, c.len.ensures))
