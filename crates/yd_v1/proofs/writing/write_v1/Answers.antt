use Rattle.std.proofs.Common.{◌≡◌, ◌++◌, ◌∙◌, None, List, [], ℕ, ap}
use Rattle.yd_ops.specs.View.{update_value}
use Rattle.yd_fields.specs.UpdateFields.{fields_of_update}
use Rattle.yd_v1.specs.Bytes.{v1_bytes, v1_bytes_of_all}
use Rattle.yd_fields.specs.Writes.{with_fields}
use Rattle.yd_fields.specs.UpdatePlan.{update_plan}
use Rattle.yd_fields.proofs.UpdateExpectLemmas.{update_expects}
use Rattle.yd_v1.proofs.WrittenLemmas.{with_v1_bytes, written_fills}
use Rattle.yd_v1.proofs.writing.write_v1.Goals as goal

pub returns-clause-written : goal.returns-clause-written
returns-clause-written c =
    let fs = fields_of_update (update_value c.args.update.now) in
    c.in_ok-bytes.ensures.written ∙ c.in_ok-write_update.ensures.put
    ∙ ap (λ (old : List ℕ). with_fields (λ f bytes. bytes ++ v1_bytes f) fs old) c.new-writer.ensures
    ∙ with_v1_bytes fs []

pub returns-clause-read_again : goal.returns-clause-read_again
returns-clause-read_again c =
    let u = update_value c.args.update.now in
    let fs = fields_of_update u in
    let written : c.in_ok-bytes.bytes.items ≡ v1_bytes_of_all fs =
    c.in_ok-bytes.ensures.written ∙ c.in_ok-write_update.ensures.put
    ∙ ap (λ (old : List ℕ). with_fields (λ f bytes. bytes ++ v1_bytes f) fs old) c.new-writer.ensures
    ∙ with_v1_bytes fs [] in
    rw written (written_fills fs (update_plan None) u (update_expects u c.requires) c.in_ok-write_update.ensures.spelled)
