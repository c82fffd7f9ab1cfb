use Rattle.std.proofs.Common.{sym, ◌∙◌}
use Rattle.yd_editing.specs.Refused.{pair_refusal}
use Rattle.yd_making.specs.Given.{basis_of_given}
use Rattle.yd_making.proofs.AskedLemmas.{proper_at, refused_here, asked_on}
use Rattle.yd_making.proofs.basis.Basis.pair_fault.Goals as goal

pub returns-in-Some : goal.returns-in-Some
returns-in-Some c = refused_here (pair_refusal (basis_of_given c.args.self.now)) c.args.steps.now c.loop-step.step-index c.step-item.result _ c.loop-step-test.true c.step-item.is
    c.loop-step.invariant c.in-Some.fault (sym c.in-Some.is ∙ c.step_pair.ensures)

pub loop-step-preserved : goal.loop-step-preserved
loop-step-preserved c = asked_on (pair_refusal (basis_of_given c.args.self.now)) c.args.steps.now c.loop-step.step-index c.step-item.result _ c.loop-step-test.true c.step-item.is
    c.loop-step.invariant (sym c.in_default.is ∙ c.step_pair.ensures)

pub step_pair-requires : goal.step_pair-requires
step_pair-requires c = proper_at c.args.steps.now c.loop-step.step-index c.step-item.result c.requires c.loop-step-test.true c.step-item.is
