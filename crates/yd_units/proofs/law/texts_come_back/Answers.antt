use Rattle.yd_units.proofs.TextLemmas.{text_back, text_whole, text_fits}
use Rattle.yd_units.proofs.law.texts_come_back.Goals as goal

pub returns : goal.returns
returns c = record { same = text_back; whole = text_whole; fits = text_fits }
