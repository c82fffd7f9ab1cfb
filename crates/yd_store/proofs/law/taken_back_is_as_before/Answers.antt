use Rattle.yd_store.proofs.BackLemmas as back
use Rattle.yd_store.proofs.law.taken_back_is_as_before.Goals as goal

pub returns : goal.returns
returns c = back.taken_back_is_as_before
