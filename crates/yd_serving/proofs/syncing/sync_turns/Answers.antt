use Rattle.std.proofs.Common.{◌≡◌, ◌∙◌, arith, false, refl, sym, true}
use Rattle.yd_hub.specs.Syncing.{is_in_step}
use Rattle.yd_machines.specs.PeerStep.{peer_state}
use Rattle.yd_serving.proofs.SyncLemmas.{sync_event_left, sync_linked_on, syncs_all, syncs_ended, syncs_in_step, syncs_more, syncs_none, syncs_stop}
use Rattle.yd_serving.proofs.syncing.sync_turns.Goals as goal

pub loop-init : goal.loop-init
loop-init g c = record { synced = syncs_none _ _; calm = λ calm. calm; linked = λ calm has. refl }

pub returns-then-is_in_step-clause-synced : goal.returns-then-is_in_step-clause-synced
returns-then-is_in_step-clause-synced g c =
    syncs_in_step c.args.turns _ _ c.loop.heard c.loop.counter _ _ c.loop.invariant.synced c.loop-test.true (sym c.is_in_step.ensures ∙ c.if-is_in_step.true)

pub returns-then-is_in_step-clause-linked : goal.returns-then-is_in_step-clause-linked
returns-then-is_in_step-clause-linked g c = λ calm has. (tt, c.loop.invariant.linked calm has)

pub sync_turn-requires : goal.sync_turn-requires
sync_turn-requires g c = omega (arith, c.loop.invariant.synced.few, c.loop-test.true)

pub returns-in_err-ended-clause-synced : goal.returns-in_err-ended-clause-synced
returns-in_err-ended-clause-synced g c =
    syncs_stop c.args.turns _ _ _ c.loop.heard c.sync_turn.new.heard c.loop.counter _ _ _ _ c.from_residual.result c.from_residual.ensures.1 c.loop.invariant.synced c.loop-test.true
    (sym c.is_in_step.ensures ∙ c.if-is_in_step.false) c.in_err-ended.ensures.taken

pub returns-in_err-ended-clause-linked : goal.returns-in_err-ended-clause-linked
returns-in_err-ended-clause-linked g c = λ calm has.
    let loop = c.loop.invariant in
    let came = c.in_err-ended.ensures.linked (loop.calm calm) (sync_event_left c.args.turns _ _ c.loop.heard c.loop.counter _ _ c.loop-test.true loop.synced has) in
    (sync_linked_on _ c.from_residual.result c.from_residual.ensures.1 came.0, came.1 ∙ loop.linked calm has)

pub returns-then-ended-clause-synced : goal.returns-then-ended-clause-synced
returns-then-ended-clause-synced g c =
    syncs_ended c.args.turns _ _ _ c.loop.heard c.loop.counter _ _ _ c.loop.invariant.synced c.loop-test.true (sym c.is_in_step.ensures ∙ c.if-is_in_step.false)
    (rw c.if-ended.true at c.in_ok-ended.ensures.taken)

pub returns-then-ended-clause-linked : goal.returns-then-ended-clause-linked
returns-then-ended-clause-linked g c = λ calm has.
    let loop = c.loop.invariant in
    let came = c.in_ok-ended.ensures.linked (loop.calm calm) (sync_event_left c.args.turns _ _ c.loop.heard c.loop.counter _ _ c.loop-test.true loop.synced has) in
    (tt, came.1 ∙ loop.linked calm has)

pub loop-preserved : goal.loop-preserved
loop-preserved g c =
    let loop = c.loop.invariant in
    let done = c.in_ok-ended.ensures in
    record {
      synced = syncs_more _ _ _ c.loop.heard c.sync_turn.new.heard c.loop.counter _ _ _ loop.synced (sym c.is_in_step.ensures ∙ c.if-is_in_step.false) done.few (rw c.if-ended.false at done.taken);
      calm = λ calm. done.calm (loop.calm calm);
      linked = λ calm has. (done.linked (loop.calm calm) (sync_event_left c.args.turns _ _ c.loop.heard c.loop.counter _ _ c.loop-test.true loop.synced has)).1 ∙ loop.linked calm has;
    }

pub returns-clause-synced : goal.returns-clause-synced
returns-clause-synced g c = syncs_all c.args.turns _ _ c.loop.heard c.loop.counter _ _ c.loop.invariant.synced (omega arith) (omega (arith, c.loop-test.false))

pub returns-clause-linked : goal.returns-clause-linked
returns-clause-linked g c = λ calm has. (tt, c.loop.invariant.linked calm has)
