use Rattle.yd_entries.proofs.LongerLemmas.{ends_its_run}
use Rattle.yd_entries.proofs.joining.ends_run.Goals as goal

pub returns : goal.returns
returns c = ends_its_run c.args.runs.now c.args.entry c.index-runs-entry.result c.len.result c.requires.entry.run_there c.index-runs-entry.is c.len.ensures
