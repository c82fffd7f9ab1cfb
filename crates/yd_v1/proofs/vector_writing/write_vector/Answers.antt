use Rattle.std.proofs.Common.{◌≡◌, ◌∙◌, sym, subst}
use Rattle.yd_words.specs.Each.{Each}
use Rattle.yd_ids.specs.Vector.{IsEntry}
use Rattle.yd_fields.specs.UpdatePlan.{vector_plan}
use Rattle.yd_v1.specs.Bytes.{v1_bytes_of_all}
use Rattle.yd_fields.specs.VectorFields.{fields_of_vector}
use Rattle.yd_fields.proofs.VectorExpectLemmas.{reversed_entries, vector_expects}
use Rattle.yd_v1.proofs.VectorWrittenLemmas.{vector_written}
use Rattle.yd_v1.proofs.WrittenLemmas.{written_fills}
use Rattle.yd_v1.proofs.vector_writing.write_vector.Goals as goal

pub write_entries-requires : goal.write_entries-requires
write_entries-requires c =
    let same = c.deref.ensures.value ∙ c.in_ok-entries.ensures.entries in
    subst (Each IsEntry) (sym same) (reversed_entries c.args.vector.now c.in_ok-entries.ensures.vector)

pub returns-clause-written : goal.returns-clause-written
returns-clause-written c =
    let all = vector_written c.args.vector.now c.deref.result.now c.in_ok-count.count c.new-writer.result c.put_number.new.self c.write_entries.new.writer (c.deref.ensures.value ∙ c.in_ok-entries.ensures.entries) (c.in_ok-count.ensures.count ∙ c.len.ensures ∙ sym c.deref.ensures.len) c.new-writer.ensures c.in_ok-put_number.ensures.put c.in_ok-put_number.ensures.spelled c.in_ok-write_entries.ensures in
    c.in_ok-bytes.ensures.written ∙ all.0

pub returns-clause-read_again : goal.returns-clause-read_again
returns-clause-read_again c =
    let all = vector_written c.args.vector.now c.deref.result.now c.in_ok-count.count c.new-writer.result c.put_number.new.self c.write_entries.new.writer (c.deref.ensures.value ∙ c.in_ok-entries.ensures.entries) (c.in_ok-count.ensures.count ∙ c.len.ensures ∙ sym c.deref.ensures.len) c.new-writer.ensures c.in_ok-put_number.ensures.put c.in_ok-put_number.ensures.spelled c.in_ok-write_entries.ensures in
    let written : c.in_ok-bytes.bytes.items ≡ v1_bytes_of_all (fields_of_vector c.args.vector.now) = c.in_ok-bytes.ensures.written ∙ all.0 in
    rw written (written_fills (fields_of_vector c.args.vector.now) vector_plan c.args.vector.now (vector_expects c.args.vector.now c.in_ok-entries.ensures.vector) all.1)
