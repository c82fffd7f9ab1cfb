use Rattle.yd_serving.proofs.AnsweringLemmas.{hub_right, peer_right}
use Rattle.yd_serving.proofs.law.answers_are_right.Goals as goal

pub returns : goal.returns
returns c = record { hub = hub_right; peer = peer_right }
