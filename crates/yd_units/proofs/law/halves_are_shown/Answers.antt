use Rattle.yd_units.proofs.TextLemmas.{text_parts, text_lone}
use Rattle.yd_units.proofs.law.halves_are_shown.Goals as goal

pub returns : goal.returns
returns c = record { parts = text_parts; lone = text_lone }
