use Rattle.yd_units.proofs.TextLemmas.{units_text, units_back}
use Rattle.yd_units.proofs.law.units_come_back.Goals as goal

pub returns : goal.returns
returns c = record { a_text = units_text; same = units_back }
