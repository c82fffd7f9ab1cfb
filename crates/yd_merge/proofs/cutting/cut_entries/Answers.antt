use Rattle.std.proofs.Common.{◌∙◌}
use Rattle.yd_ids.specs.Vector.{clock_of}
use Rattle.yd_building.specs.Builder.{built_of}
use Rattle.yd_merge.proofs.CutEntriesLemmas.{all_cut, cut_next}
use Rattle.yd_merge.proofs.cutting.cut_entries.Goals as goal

pub loop-entry-preserved : goal.loop-entry-preserved
loop-entry-preserved c = cut_next c.args.runs.now (clock_of c.args.vector.now) c.in-Some.entry c.loop-entry.entry-iterator c.next.new.self c.get-clock.result (built_of c.loop-entry.builder)
    (built_of c.push_cut.new.builder) c.in-Some.ensures.steps c.get-clock.ensures.reached c.in_ok-push_cut.ensures ∙ c.loop-entry.invariant

pub returns : goal.returns
returns c = c.in_ok-update.ensures ∙ all_cut c.args.runs.now (clock_of c.args.vector.now) c.args.entries.now c.loop-entry.entry-iterator (built_of c.loop-entry.builder) c.args.deletes c.requires
    c.in-None.ensures.steps.0 c.loop-entry.invariant
