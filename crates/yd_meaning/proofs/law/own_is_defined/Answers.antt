use Rattle.yd_meaning.proofs.ComingLemmas.{defined_is_own}
use Rattle.yd_meaning.proofs.GrownDocumentLemmas.{own_is_defined}
use Rattle.yd_meaning.proofs.law.own_is_defined.Goals as goal

pub returns : goal.returns
returns c = record { defined = own_is_defined; own = defined_is_own }
