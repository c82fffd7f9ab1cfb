use Rattle.std.proofs.Common.{subst}
use Rattle.yd_generator.specs.Generated.{Three}
use Rattle.yd_generating.specs.Line.{IsLineOf}
use Rattle.yd_generating.proofs.generating.end.Goals as goal

pub returns-clause-line : goal.returns-clause-line
returns-clause-line c = subst (λ (g : Three). IsLineOf c.in_ok-found.found g) c.in_ok-pass_rounds.ensures.rounded c.in_ok-found.ensures.line
