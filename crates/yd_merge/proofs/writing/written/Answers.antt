use Rattle.std.proofs.Common.{◌∙◌, ap, sym, map}
use Rattle.yd_grouping.specs.Building.{all_pushed, with_pushed}
use Rattle.yd_building.specs.Builder.{built_of}
use Rattle.yd_merge.specs.Told.{group_of_entry}
use Rattle.yd_merge.proofs.ToldLemmas.{all_written}
use Rattle.yd_merge.proofs.writing.written.Goals as goal

pub loop-entry-preserved : goal.loop-entry-preserved
loop-entry-preserved c =
    ap (λ b. all_pushed b (map (group_of_entry c.args.runs.now) c.next.new.self)) (c.in_ok-push.ensures.pushed ∙ ap (with_pushed (built_of c.loop-entry.builder)) c.in_ok-group_of.ensures)
    ∙ sym (ap (λ us. all_pushed (built_of c.loop-entry.builder) (map (group_of_entry c.args.runs.now) us)) c.in-Some.ensures.steps) ∙ c.loop-entry.invariant

pub returns : goal.returns
returns c = c.in_ok-update.ensures ∙ all_written c.args.runs.now c.args.entries.now c.loop-entry.entry-iterator (built_of c.loop-entry.builder) c.args.deletes c.requires.each c.requires.in_order
    c.in-None.ensures.steps.0 c.loop-entry.invariant
