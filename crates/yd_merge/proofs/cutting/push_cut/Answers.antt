use Rattle.yd_merge.proofs.CutEntriesLemmas.{part_taken}
use Rattle.yd_merge.proofs.cutting.push_cut.Goals as goal

pub group_of-requires : goal.group_of-requires
group_of-requires c = part_taken c.args.runs.now c.args.clock c.args.entry c.behind.result c.left_out-n.result c.requires c.left_out-n.ensures c.if-n-entry.true c.behind.ensures
