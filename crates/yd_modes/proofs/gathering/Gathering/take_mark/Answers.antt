use Rattle.std.proofs.Common.{inr}
use Rattle.std.proofs.lemmas.Result.{on_ok_weaker}
use Rattle.yd_any.specs.JsonView.{json_tree}
use Rattle.yd_modes.specs.Marks.{marks_fields}
use Rattle.yd_modes.proofs.GatheringLemmas.{marked, marked_settled}
use Rattle.yd_modes.proofs.gathering.Gathering.take_mark.Goals as goal

pub returns : goal.returns
returns c = on_ok_weaker c.set_mark.result (λ set show. record {
  pieces = λ us. marked show c.args.self.now c.flush.new.self c.args.id c.args.mark.key.now (json_tree c.args.mark.value.now) (marks_fields c.set_mark.new.marks.items) c.in_ok-flush.ensures set us;
  settled = inr (marked_settled c.args.self.now c.flush.new.self c.args.id c.in_ok-flush.ensures);
}) c.set_mark.ensures
