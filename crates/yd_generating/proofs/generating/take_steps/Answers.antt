use Rattle.std.proofs.Common.{◌≡◌, ◌≤◌, ℕ, ◌∙◌, add-one, ap, arith, subst, sym}
use Rattle.yd_generator.specs.Draws.{draws_from}
use Rattle.yd_generator.specs.declared.draws.Draws.{Draws}
use Rattle.yd_generator.specs.Generated.{generation}
use Rattle.yd_generator.specs.Law.{AreAccepted}
use Rattle.yd_generating.proofs.generating.take_steps.Goals as goal

at_end : (n steps : ℕ) → n ≤ steps → steps ≤ n → n ≡ steps
at_end n steps within done = omega (arith, within, done)

pub step_on-requires-clause-draws : goal.step_on-requires-clause-draws
step_on-requires-clause-draws c = c.draws_from-draws.ensures.draws ∙ ap draws_from c.loop-step.invariant.state

pub loop-step-preserved : goal.loop-step-preserved
loop-step-preserved c = record {
  within = omega arith;
  range = c.draws_from-draws.ensures.state;
  state = ap (λ (d : Draws). d.state) (c.draws_from-draws.ensures.draws ∙ ap draws_from c.loop-step.invariant.state) ∙ sym (ap (λ n. (generation n).state) (add-one c.loop-step.step));
  three = c.in_ok-step_on.ensures.taken;
  accepted = c.in_ok-step_on.ensures.accepted;
  clients = c.step_on.ensures.clients;
}

pub returns-clause-taken : goal.returns-clause-taken
returns-clause-taken c = c.loop-step.invariant.three ∙ ap (λ n. (generation n).three) (at_end c.loop-step.step c.args.steps c.loop-step.invariant.within c.loop-step-test.false)

pub returns-clause-accepted : goal.returns-clause-accepted
returns-clause-accepted c = subst AreAccepted (at_end c.loop-step.step c.args.steps c.loop-step.invariant.within c.loop-step-test.false) c.loop-step.invariant.accepted
