use Rattle.std.proofs.Common.{ℕ, List, ◌∷◌, [], sym, subst}
use Rattle.yd_units.proofs.TextLemmas.{text_back}
use Rattle.yd_fields.specs.Field as field
use Rattle.yd_fields.specs.Writes.{Writes}
use Rattle.yd_fields.proofs.lent_writing.write_text.Goals as goal

pub returns : goal.returns
returns g c =
    subst (λ (text : List ℕ). Writes g.W.FieldWriter.with_field g.W.FieldWriter.is_spelled ((field.string, text) ∷ []) c.args.writer.now c.put_string.new.self) (sym (text_back c.args.text.now c.utf8.text))
    (record { written = c.in_ok-put_string.ensures.put; spelled = (c.in_ok-put_string.ensures.spelled, tt) })
