use Rattle.yd_generator.proofs.GenerationLemmas.{generations_converge}
use Rattle.yd_generator.proofs.law.generations_converge.Goals as goal

pub returns : goal.returns
returns c = generations_converge
