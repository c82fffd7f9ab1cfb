use Rattle.std.proofs.Common.{◌∙◌, ◌-◌, ◌<◌, ◌≤◌, length, sym, arith}
use Rattle.yd_v1.specs.Log.{log_reading}
use Rattle.yd_parts.proofs.FaultLemmas.{passes_fault}
use Rattle.yd_v1.proofs.LogLemmas.{log_done, log_ended, log_stops, no_bytes, some_bytes}
use Rattle.yd_v1.proofs.LogTakingLemmas.{takes_all, takes_next, takes_none}
use Rattle.yd_v1.proofs.log_reading.take_entries.Goals as goal

pub loop-init : goal.loop-init
loop-init g c = takes_none c.args.bytes.now (length c.args.bytes.now - 0) _ (g.T.UpdateTaker.took c.args.taker.now) (omega arith) c.new-parts.ensures

pub returns-then-left-eq0-clause-taken : goal.returns-then-left-eq0-clause-taken
returns-then-left-eq0-clause-taken g c =
    let none : length c.loop.parts.bytes ≤ 0 = omega (arith, c.left.ensures, c.if-left-eq0.true) in
    takes_all c.args.bytes.now (length c.args.bytes.now - c.loop.counter) c.loop.parts (g.T.UpdateTaker.took c.args.taker.now) (g.T.UpdateTaker.took c.loop.taker) c.loop.invariant
    (λ found. log_ended _ found c.loop.parts (no_bytes c.loop.parts.bytes none))

pub returns-in_err-take_next_entry-clause-fails : goal.returns-in_err-take_next_entry-clause-fails
returns-in_err-take_next_entry-clause-fails g c =
    let some : 0 < length c.loop.parts.bytes = omega (arith, c.left.ensures, c.if-left-eq0.false) in
    let within : c.loop.counter < length c.args.bytes.now = omega (arith, c.loop-test.true, c.loop.auto.counter-end) in
    passes_fault c.from_residual.result _ (log_reading c.args.bytes.now) _ c.from_residual.ensures.1 c.in_err-take_next_entry.ensures.fails
    (λ fault there. sym c.loop.invariant.read ∙ log_stops (length c.args.bytes.now) c.loop.counter c.loop.invariant.updates c.loop.parts fault within (some_bytes c.loop.parts.bytes some) there)

pub loop-preserved : goal.loop-preserved
loop-preserved g c =
    let some : 0 < length c.loop.parts.bytes = omega (arith, c.left.ensures, c.if-left-eq0.false) in
    let within : c.loop.counter < length c.args.bytes.now = omega (arith, c.loop-test.true, c.loop.auto.counter-end) in
    takes_next c.args.bytes.now (length c.args.bytes.now) c.loop.counter c.loop.parts c.take_next_entry.new.parts (g.T.UpdateTaker.took c.args.taker.now) (g.T.UpdateTaker.took c.loop.taker)
    (g.T.UpdateTaker.took c.take_next_entry.new.taker) within (some_bytes c.loop.parts.bytes some) c.loop.invariant c.in_ok-take_next_entry.ensures.taken

pub returns-clause-taken : goal.returns-clause-taken
returns-clause-taken g c =
    let all : length c.args.bytes.now ≤ c.loop.counter = omega (arith, c.loop-test.false, c.loop.auto.counter-end) in
    takes_all c.args.bytes.now (length c.args.bytes.now - c.loop.counter) c.loop.parts (g.T.UpdateTaker.took c.args.taker.now) (g.T.UpdateTaker.took c.loop.taker) c.loop.invariant
    (λ found. log_done (length c.args.bytes.now) c.loop.counter found c.loop.parts all)
