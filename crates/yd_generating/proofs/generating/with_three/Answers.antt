use Rattle.std.proofs.Common.{subst, sym}
use Rattle.yd_generator.specs.Generated.{Three}
use Rattle.yd_generator.specs.Plain.{AreShared}
use Rattle.yd_generator.proofs.GenerationLemmas.{generations_shared}
use Rattle.yd_generating.specs.Replicas.{received_by}
use Rattle.yd_generating.proofs.FoundLemmas.{found_then, start_clients, start_three}
use Rattle.yd_generating.proofs.generating.with_three.Goals as goal

pub take_steps-requires-clause-clients : goal.take_steps-requires-clause-clients
take_steps-requires-clause-clients c = start_clients c.args.first.now c.args.second.now c.args.third.now c.requires.first c.requires.second c.requires.third

pub take_steps-requires-clause-start : goal.take_steps-requires-clause-start
take_steps-requires-clause-start c = start_three c.args.first.now c.args.second.now c.args.third.now c.requires.first c.requires.second c.requires.third

pub end-requires-clause-shared : goal.end-requires-clause-shared
end-requires-clause-shared c = subst (λ (g : Three). AreShared g) (sym c.in_ok-take_steps.ensures.taken) (generations_shared c.args.steps c.in_ok-take_steps.ensures.accepted)

pub returns-in-Ok-clause-found : goal.returns-in-Ok-clause-found
returns-in-Ok-clause-found c = found_then c.args.steps (received_by c.take_steps.new.first c.take_steps.new.second c.take_steps.new.third) c.in-Ok.found
    c.in_ok-take_steps.ensures.accepted c.in_ok-take_steps.ensures.taken c.in-Ok.ensures.line
