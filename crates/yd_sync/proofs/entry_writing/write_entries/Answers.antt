use Rattle.std.proofs.Common.{◌≡◌, ◌∙◌, ap, subst, sym}
use Rattle.yd_words.specs.Each.{Each}
use Rattle.yd_v1.proofs.WrittenLemmas.{written_fills}
use Rattle.yd_v1.specs.Bytes.{v1_bytes_of_all}
use Rattle.yd_v1.specs.Grammar.{FillsV1}
use Rattle.yd_sync.specs.Entry.{IsEntry, aware_plan, fields_of_aware}
use Rattle.yd_sync.proofs.EntryLemmas.{aware_expects, aware_written}
use Rattle.yd_sync.proofs.entry_writing.write_entries.Goals as goal

pub returns-clause-written : goal.returns-clause-written
returns-clause-written c =
    let all = aware_written c.as_slice-entries.result.now c.in_ok-count.count c.new-writer.result c.put_number.new.self c.write_each.new.writer c.in_ok-count.ensures.count c.new-writer.ensures c.in_ok-put_number.ensures.put c.in_ok-put_number.ensures.spelled c.in_ok-write_each.ensures in
    c.in_ok-bytes.ensures.written ∙ all.0 ∙ ap (λ es. v1_bytes_of_all (fields_of_aware es)) c.as_slice-entries.ensures

pub returns-clause-read_again : goal.returns-clause-read_again
returns-clause-read_again c =
    let all = aware_written c.as_slice-entries.result.now c.in_ok-count.count c.new-writer.result c.put_number.new.self c.write_each.new.writer c.in_ok-count.ensures.count c.new-writer.ensures c.in_ok-put_number.ensures.put c.in_ok-put_number.ensures.spelled c.in_ok-write_each.ensures in
    let written : c.in_ok-bytes.bytes.items ≡ v1_bytes_of_all (fields_of_aware c.as_slice-entries.result.now) = c.in_ok-bytes.ensures.written ∙ all.0 in
    let are : Each IsEntry c.as_slice-entries.result.now = subst (Each IsEntry) (sym c.as_slice-entries.ensures) c.requires in
    subst (λ es. FillsV1 aware_plan c.in_ok-bytes.bytes.items es) c.as_slice-entries.ensures
    (rw written (written_fills (fields_of_aware c.as_slice-entries.result.now) aware_plan c.as_slice-entries.result.now (aware_expects c.as_slice-entries.result.now are) all.1))
