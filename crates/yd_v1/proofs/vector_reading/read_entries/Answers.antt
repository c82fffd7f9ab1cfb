use Rattle.yd_v1.specs.Reading.{IsSoundV1, v1_at, v1_spot}
use Rattle.yd_v1.proofs.FitLemmas.{v1_fits}
use Rattle.yd_reading.proofs.VectorPlanLemmas.{entries_read}
use Rattle.yd_v1.proofs.vector_reading.read_entries.Goals as goal

pub of_entries-requires : goal.of_entries-requires
of_entries-requires c = entries_read v1_at v1_spot IsSoundV1 c.in_ok-count.count _ _ _ v1_fits tt c.in_ok-entries.ensures
