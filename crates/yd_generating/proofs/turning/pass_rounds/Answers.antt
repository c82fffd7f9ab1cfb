use Rattle.std.proofs.Common.{◌∙◌, ap}
use Rattle.yd_generator.specs.Generated.{Three, rounded}
use Rattle.yd_generating.proofs.turning.pass_rounds.Goals as goal

pub returns-clause-rounded : goal.returns-clause-rounded
returns-clause-rounded c = c.in_ok-pass_round-2.ensures.rounded ∙ ap (λ (g : Three). rounded g) c.in_ok-pass_round.ensures.rounded
