use Rattle.std.proofs.Common.{◌++◌, ◌∙◌, List, [], ℕ, ap, refl, subst, ◌<◌, ◌^◌, length}
use Rattle.yd_num.specs.Writing.{shortest_blob}
use Rattle.yd_ids.specs.declared.id.Span.{Span}
use Rattle.yd_fields.specs.Field.{Field}
use Rattle.yd_fields.specs.UpdateFields.{fields_of_deletes, fields_of_update}
use Rattle.yd_fields.specs.Writes.{Writes}
use Rattle.yd_fields.proofs.WritesLemmas.{writes_then}
use Rattle.yd_reading.specs.Taking.{fields_of_sections, sections_of}
use Rattle.yd_reading.proofs.SectionLemmas.{fields_of_all_sections}
use Rattle.yd_v1.specs.Bytes.{V1Spells, v1_bytes}
use Rattle.yd_v1.specs.Taking.{WroteSections}
use Rattle.yd_v1.proofs.LogWrittenLemmas.{MakesBody, body_made}
use Rattle.yd_v1.proofs.log_writing.pass_entry.Goals as goal

pub returns-in-Ok-clause-appended : goal.returns-in-Ok-clause-appended
returns-in-Ok-clause-appended c =
    let took = c.in_ok-deletes.ensures.took in
    let u = took.update in
    let body = c.as_slice.result.now in
    let begun : WroteSections c.clear.new.self [] = record { written = c.clear.ensures; spelled = tt } in
    let fields = ap (λ (spans : List Span). fields_of_sections (sections_of u) ++ fields_of_deletes spans) took.deletes_are ∙ fields_of_all_sections u in
    let written : Writes (λ f old. old ++ v1_bytes f) V1Spells (fields_of_update u) [] c.write_deletes.new.writer =
    subst (λ (fs : List Field). Writes (λ f old. old ++ v1_bytes f) V1Spells fs [] c.write_deletes.new.writer) fields (writes_then (took.taken [] begun) c.in_ok-write_deletes.ensures) in
    let made : MakesBody body u = body_made u [] body took.valid refl (c.as_slice.ensures ∙ written.written) written.spelled in
    record {
      update = u;
      read = took.is_read;
      valid = took.valid;
      appended = c.in-Ok.ensures.appended ∙ ap (λ (l : List ℕ). c.args.log.now ++ shortest_blob l) made.body_is;
      again = record { stands = made.stands; fits = subst (λ (l : List ℕ). length l < 2 ^ 53) made.body_is c.in-Ok.ensures.fits };
    }
