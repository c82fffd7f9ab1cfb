use Rattle.std.proofs.Common.{sym, ◌∙◌}
use Rattle.yd_editing.specs.Refused.{place_refusal}
use Rattle.yd_making.specs.Given.{basis_of_given}
use Rattle.yd_making.proofs.AskedLemmas.{refused_here, asked_on}
use Rattle.yd_making.proofs.basis.Basis.place_fault.Goals as goal

pub returns-in-Some : goal.returns-in-Some
returns-in-Some c = refused_here (place_refusal (basis_of_given c.args.self.now)) c.args.steps.now c.loop-step.step-index c.step-item.result _ c.loop-step-test.true c.step-item.is
    c.loop-step.invariant c.in-Some.fault (sym c.in-Some.is ∙ c.step_place.ensures)

pub loop-step-preserved : goal.loop-step-preserved
loop-step-preserved c = asked_on (place_refusal (basis_of_given c.args.self.now)) c.args.steps.now c.loop-step.step-index c.step-item.result _ c.loop-step-test.true c.step-item.is
    c.loop-step.invariant (sym c.in_default.is ∙ c.step_place.ensures)
