use Rattle.yd_shown.proofs.FrontLemmas.{delta_from_front, list_from_front}
use Rattle.yd_shown.proofs.law.pieces_from_front.Goals as goal

pub returns : goal.returns
returns c = record { delta = delta_from_front; list = list_from_front }
