use Rattle.yd_ids.specs.Vector.{clock_of}
use Rattle.yd_ids.proofs.SetOfLemmas.{maximal_spans}
use Rattle.yd_subsets.proofs.PartLemmas.{part_alone}
use Rattle.yd_undo.specs.Remade.{seen_of}
use Rattle.yd_undo.specs.Steps.{is_live}
use Rattle.yd_undo.proofs.KeyLemmas.{live_ids}
use Rattle.yd_undo.proofs.steps.live_part.Goals as goal

pub returns : goal.returns
returns c = part_alone (is_live (seen_of c.args.replica.now)) c.args.ids.now c.in_ok-live.live (maximal_spans c.args.ids.now c.spans-spans.ensures.maximal) c.in_ok-live.ensures.maximal
    (live_ids (seen_of c.args.replica.now) c.args.ids.now c.in_ok-held.held c.deletes.result.now c.in_ok-live.live (clock_of c.vector.result.now) c.vector.ensures
    c.deletes.ensures.deleted c.in_ok-held.ensures.ids c.in_ok-live.ensures.ids)
