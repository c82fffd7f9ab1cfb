use Rattle.yd_ids.proofs.EntriesLemmas.{entries_alone}
use Rattle.yd_ids.proofs.vector.Vector.of_entries.Goals as goal

pub returns-clause-exact : goal.returns-clause-exact
returns-clause-exact c = entries_alone c.args.entries.items _ c.requires c.in_ok-entries.ensures.vector c.in_ok-entries.ensures.clocks
