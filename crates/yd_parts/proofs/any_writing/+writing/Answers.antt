use Rattle.std.proofs.Common.{◌≡◌, ℕ, ◌^◌, ◌<◌, ◌∷◌, ◌++◌, ◌∙◌, sym, ap, subst}
use Rattle.yd_any.specs.AnyView.{items_trees, entries_fields}
use Rattle.yd_any.specs.Tree.{AnyTrees, AnyFields}
use Rattle.yd_num.specs.Writing.{shortest}
use Rattle.yd_ops.specs.Value.{count_of}
use Rattle.yd_parts.specs.AnyBytes.{bytes_of_trees, bytes_of_fields, count_of_fields}
use Rattle.yd_parts.proofs.AnyWritingLemmas.{count_of-entries, counted_body}
use Rattle.yd_parts.proofs.AnyTreeLemmas.{count_of-items}
use Rattle.yd_parts.proofs.any_writing.+writing.Goals as goal

pub write_list-returns-clause-written : goal.write_list-returns-clause-written
write_list-returns-clause-written t c =
    let items = c.as_slice-items.result.now in
    let old = c.args.bytes.now in
    let mid = c.write_count.new.bytes in
    let new = c.write_items.new.bytes in
    subst (λ (ts : AnyTrees). new ≡ old ++ 117 ∷ (shortest (count_of ts) ++ bytes_of_trees ts)) c.as_slice-items.ensures
    (counted_body 117 (shortest (count_of (items_trees items))) (bytes_of_trees (items_trees items)) old mid new
    (subst (λ (n : ℕ). mid ≡ old ++ 117 ∷ shortest n) (sym (count_of-items items)) c.in_ok-write_count.ensures.written) c.in_ok-write_items.ensures.written)

pub write_list-returns-clause-in_range : goal.write_list-returns-clause-in_range
write_list-returns-clause-in_range t c =
    subst (λ (n : ℕ). n < 2 ^ 53) (sym (count_of-items c.as_slice-items.result.now) ∙ ap count_of c.as_slice-items.ensures) c.in_ok-write_count.ensures.writable

pub write_pairs-returns-clause-written : goal.write_pairs-returns-clause-written
write_pairs-returns-clause-written t c =
    let entries = c.as_slice-entries.result.now in
    let old = c.args.bytes.now in
    let mid = c.write_count.new.bytes in
    let new = c.write_entries.new.bytes in
    subst (λ (fs : AnyFields). new ≡ old ++ 118 ∷ (shortest (count_of_fields fs) ++ bytes_of_fields fs)) c.as_slice-entries.ensures
    (counted_body 118 (shortest (count_of_fields (entries_fields entries))) (bytes_of_fields (entries_fields entries)) old mid new
    (subst (λ (n : ℕ). mid ≡ old ++ 118 ∷ shortest n) (sym (count_of-entries entries)) c.in_ok-write_count.ensures.written) c.in_ok-write_entries.ensures.written)

pub write_pairs-returns-clause-in_range : goal.write_pairs-returns-clause-in_range
write_pairs-returns-clause-in_range t c =
    subst (λ (n : ℕ). n < 2 ^ 53) (sym (count_of-entries c.as_slice-entries.result.now) ∙ ap count_of_fields c.as_slice-entries.ensures) c.in_ok-write_count.ensures.writable
