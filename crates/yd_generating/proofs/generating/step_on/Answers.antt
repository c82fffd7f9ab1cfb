use Rattle.std.proofs.Common.{◌%◌, ◌+◌, add-one, refl, subst, sym}
use Rattle.yd_generator.specs.Generated.{Three, generation}
use Rattle.yd_generator.specs.Plain.{AreShared}
use Rattle.yd_generator.proofs.GenerationLemmas.{generations_shared}
use Rattle.yd_generating.specs.Replicas.{received_by}
use Rattle.yd_generating.proofs.TurnLemmas.{accepted_then, step_stops, three_then}
use Rattle.yd_generating.proofs.generating.step_on.Goals as goal

pub take_step-requires-clause-shared : goal.take_step-requires-clause-shared
take_step-requires-clause-shared c = subst (λ (g : Three). AreShared g) (sym c.requires.behind) (generations_shared c.args.step c.requires.accepted)

pub returns-in-Ok-clause-taken : goal.returns-in-Ok-clause-taken
returns-in-Ok-clause-taken c = three_then c.args.step (c.args.step + 1) (generation c.args.step).state c.args.draws (received_by c.args.first.now c.args.second.now c.args.third.now) (received_by c.take_step.new.first c.take_step.new.second c.take_step.new.third)
    (add-one c.args.step) refl c.requires.behind c.requires.draws c.in-Ok.ensures.turned

pub returns-in-Ok-clause-accepted : goal.returns-in-Ok-clause-accepted
returns-in-Ok-clause-accepted c = accepted_then c.args.step (c.args.step + 1) (generation c.args.step).state c.args.draws (received_by c.args.first.now c.args.second.now c.args.third.now) (received_by c.take_step.new.first c.take_step.new.second c.take_step.new.third)
    (add-one c.args.step) refl c.requires.behind c.requires.draws c.requires.accepted c.in-Ok.ensures.accepted

pub returns-in-Err-clause-stops : goal.returns-in-Err-clause-stops
returns-in-Err-clause-stops c = step_stops c.args.step c.args.steps ((c.args.step + 1) % 3) (received_by c.args.first.now c.args.second.now c.args.third.now) c.in-Err.fault c.requires.behind c.requires.accepted c.requires.more
    c.in-Err.ensures.full
