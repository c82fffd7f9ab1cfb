use Rattle.std.proofs.Common.{◌≡◌, ℕ, List, ◌∷◌, ◌++◌, length, map, sym, ◌∙◌, subst}
use Rattle.std.proofs.lemmas.List.{length-map}
use Rattle.yd_ops.specs.View.{block_value}
use Rattle.yd_ops.specs.declared.updates.Block.{Block}
use Rattle.yd_fields.specs.Field as field
use Rattle.yd_fields.specs.UpdateFields.{fields_of_blocks, fields_of_deletes}
use Rattle.yd_fields.specs.Writes.{with_fields}
use Rattle.yd_fields.proofs.WritesLemmas.{writes_more, writes_then}
use Rattle.yd_fields.proofs.update_writing.write_update.Goals as goal

pub returns-clause-put : goal.returns-clause-put
returns-clause-put g c =
    let put = g.W.FieldWriter.with_field in
    let old = c.args.writer.now in
    let new = c.write_deletes.new.writer in
    let lent = c.as_slice-blocks.result.now in
    let deletes = fields_of_deletes c.args.update.now.deletes in
    let all = writes_more (field.number, c.in_ok-count.count) old c.in_ok-put_number.ensures.put c.in_ok-put_number.ensures.spelled (writes_then c.in_ok-write_blocks.ensures c.in_ok-write_deletes.ensures) in
    subst (λ (bs : List Block). new ≡ with_fields put ((field.number, length (map block_value bs)) ∷ (fields_of_blocks (map block_value bs) ++ deletes)) old) c.as_slice-blocks.ensures
    (subst (λ (n : ℕ). new ≡ with_fields put ((field.number, n) ∷ (fields_of_blocks (map block_value lent) ++ deletes)) old) (c.in_ok-count.ensures.count ∙ sym (length-map lent block_value)) all.written)
