use Rattle.yd_kept.proofs.MarkingLemmas.{parting_and_marking_deletes}
use Rattle.yd_kept.proofs.law.parting_and_marking_deletes.Goals as goal

pub returns : goal.returns
returns c = parting_and_marking_deletes
