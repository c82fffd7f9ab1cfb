use Rattle.std.proofs.Common.{◌≡◌, ◌∙◌, Some, ap, subst, sym}
use Rattle.yd_fields.proofs.UpdateExpectLemmas.{update_expects_within}
use Rattle.yd_fields.specs.UpdateFields.{fields_of_update}
use Rattle.yd_fields.specs.UpdatePlan.{update_plan}
use Rattle.yd_fields.specs.Writes.{with_fields}
use Rattle.yd_ops.specs.View.{update_value}
use Rattle.yd_v2.proofs.WrittenLemmas.{written_come_back}
use Rattle.yd_v2.specs.Grammar.{StandsForV2}
use Rattle.yd_v2.specs.Reading.{most_structs}
use Rattle.yd_v2.specs.Writing.{FitsFile, V2Written, no_fields, v2_bytes, v2_file, v2_put}
use Rattle.yd_v2.proofs.writing.write_v2.Goals as goal

pub returns-clause-read_again : goal.returns-clause-read_again
returns-clause-read_again c = λ within.
    let u = update_value c.args.update.now in
    let fs = fields_of_update u in
    let put : c.write_update.new.writer ≡ with_fields v2_put fs no_fields = c.in_ok-write_update.ensures.put ∙ ap (λ (old : V2Written). with_fields v2_put fs old) c.new-writer.ensures in
    let written : c.in_ok-bytes.bytes.items ≡ v2_file u = c.in_ok-bytes.ensures.written ∙ ap v2_bytes put in
    let stands = written_come_back fs (update_plan (Some most_structs)) u c.in_ok-write_update.ensures.spelled (subst FitsFile put c.in_ok-bytes.ensures.whole) (update_expects_within (Some most_structs) u c.requires within) in
    subst (λ bytes. StandsForV2 bytes u) (sym written) stands
