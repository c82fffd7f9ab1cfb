use Rattle.yd_state.proofs.LawLemmas.{document_is_own}
use Rattle.yd_state.proofs.law.document_is_own.Goals as goal

pub returns : goal.returns
returns c = document_is_own
