use Rattle.std.proofs.Common.{◌≡◌, ℕ, ◌∷◌, ◌∙◌, sym, subst}
use Rattle.yd_any.specs.AnyView.{items_trees}
use Rattle.yd_any.specs.Tree.{AnyTrees}
use Rattle.yd_ops.specs.Value.{count_of}
use Rattle.yd_fields.specs.Field as field
use Rattle.yd_fields.specs.UpdateFields.{fields_of_trees}
use Rattle.yd_fields.specs.Writes.{Writes}
use Rattle.yd_parts.proofs.AnyTreeLemmas.{count_of-items}
use Rattle.yd_fields.proofs.WritesLemmas.{writes_more}
use Rattle.yd_fields.proofs.content_writing.write_values.Goals as goal

pub returns : goal.returns
returns g c =
    let put = g.W.FieldWriter.with_field in
    let is_spelled = g.W.FieldWriter.is_spelled in
    let old = c.args.writer.now in
    let mid = c.put_length.new.self in
    let vs = c.as_slice-items.result.now in
    let count : c.in_ok-count.count ≡ count_of (items_trees vs) = c.in_ok-count.ensures.count ∙ sym (count_of-items vs) in
    subst (λ (ts : AnyTrees). Writes put is_spelled ((field.len, count_of ts) ∷ fields_of_trees ts) old c.write_items.new.writer) c.as_slice-items.ensures
    (writes_more (field.len, count_of (items_trees vs)) old
    (subst (λ (n : ℕ). mid ≡ put (field.len, n) old) count c.in_ok-put_length.ensures.put)
    (subst (λ (n : ℕ). is_spelled (field.len, n)) count c.in_ok-put_length.ensures.spelled)
    c.in_ok-write_items.ensures)
