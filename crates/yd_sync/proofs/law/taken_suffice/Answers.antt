use Rattle.yd_sync.proofs.PresenceLemmas.{taken_suffice}
use Rattle.yd_sync.proofs.law.taken_suffice.Goals as goal

pub returns : goal.returns
returns c = taken_suffice
