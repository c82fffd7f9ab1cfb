use Rattle.std.proofs.Common.{◌-◌, refl, sym, ◌∙◌, arith}
use Rattle.yd_ops.specs.View.{run_value}
use Rattle.yd_agreement.specs.Differing.{place_of}
use Rattle.yd_agreement.proofs.DifferLemmas.{begins_by, two_clients}
use Rattle.yd_agreement.proofs.PlaceLemmas.{places_end, places_none, places_some}
use Rattle.yd_agreement.proofs.differing.differ_in_place.Goals as goal

pub returns-then-run-next : goal.returns-then-run-next
returns-then-run-next c = two_clients place_of (run_value c.args.run.now) (run_value c.args.next.now) c.if-run-next.true

pub returns-then-from-len : goal.returns-then-from-len
returns-then-from-len c = places_end (run_value c.args.run.now) (run_value c.args.next.now) c.if-run-next.false (begins_by c.args.run.now.id c.args.next.now.id c.requires.order c.if-run-next.false)
    (c.args.next.now.id.clock - c.args.run.now.id.clock) refl (omega (arith, c.if-from-len.true, c.len.ensures))

pub returns-then-is_placed : goal.returns-then-is_placed
returns-then-is_placed c = places_none (run_value c.args.run.now) (run_value c.args.next.now) c.if-run-next.false (begins_by c.args.run.now.id c.args.next.now.id c.requires.order c.if-run-next.false)
    (c.args.next.now.id.clock - c.args.run.now.id.clock) refl (sym c.is_placed.ensures ∙ c.if-is_placed.true)

pub returns : goal.returns
returns c = places_some (run_value c.args.run.now) (run_value c.args.next.now) c.if-run-next.false (begins_by c.args.run.now.id c.args.next.now.id c.requires.order c.if-run-next.false)
    (c.args.next.now.id.clock - c.args.run.now.id.clock) refl (sym c.is_placed.ensures ∙ c.if-is_placed.false)
    (omega (arith, c.if-from-len.false, c.len.ensures)) c.requires.next.some
