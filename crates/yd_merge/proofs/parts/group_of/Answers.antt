use Rattle.std.proofs.Common.{length, refl, ◌∙◌}
use Rattle.std.proofs.lemmas.Option.{slice_get_read}
use Rattle.yd_merge.proofs.ToldLemmas.{is_part, told_is}
use Rattle.yd_merge.proofs.parts.group_of.Goals as goal

pub part_of-requires : goal.part_of-requires
part_of-requires c = is_part c.args.runs.now c.args.entry c.index-runs-entry.result c.requires c.if-entry.false
    (slice_get_read c.args.runs.now (length c.args.runs.now) c.args.entry.run c.index-runs-entry.result refl c.requires.run_there c.index-runs-entry.is)

pub returns : goal.returns
returns c = c.in_ok-run.ensures ∙ told_is c.args.runs.now c.args.entry c.index-runs-entry.result c.if-entry.false
    (slice_get_read c.args.runs.now (length c.args.runs.now) c.args.entry.run c.index-runs-entry.result refl c.requires.run_there c.index-runs-entry.is)
