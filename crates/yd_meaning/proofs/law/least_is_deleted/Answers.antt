use Rattle.yd_meaning.proofs.DeletionLemmas.{least_is_deleted}
use Rattle.yd_meaning.proofs.law.least_is_deleted.Goals as goal

pub returns : goal.returns
returns c = λ held written lists named deleted ordered closed least x. least_is_deleted held written named lists ordered deleted closed least x
