use Rattle.yd_reading.proofs.DeletesFitLemmas.{spans_read}
use Rattle.std.proofs.Common.{◌≡◌, ℕ, Ok, subst}
use Rattle.yd_fields.specs.Field as field
use Rattle.yd_reading.proofs.DeletesPlanLemmas.{read_no_deletes}
use Rattle.yd_reading.proofs.delete_reading.read_deletes.Goals as goal

pub of_spans-requires : goal.of_spans-requires
of_spans-requires g c =
    let counted = c.requires.fits field.number c.args.reader.now c.in_ok-count.count c.get_number.new.self c.requires.sound c.in_ok-count.ensures.given in
    spans_read g.R.FieldReader.field_at g.R.FieldReader.spot_of g.R.FieldReader.is_sound c.in_ok-count.count _ _ _ c.requires.fits counted.1 c.in_ok-spans.ensures

pub returns-then-count-eq0 : goal.returns-then-count-eq0
returns-then-count-eq0 g c =
    let none = subst (λ (n : ℕ). g.R.FieldReader.field_at field.number c.args.reader.now ≡ Ok (n, c.get_number.new.self)) c.if-count-eq0.true c.in_ok-count.ensures.given in
    rw c.new.ensures (read_no_deletes g.R.FieldReader.field_at g.R.FieldReader.spot_of c.args.reader.now c.get_number.new.self none)
