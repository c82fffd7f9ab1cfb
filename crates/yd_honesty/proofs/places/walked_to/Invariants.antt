use Rattle.yd_honesty.proofs.PlacesLemmas.{IsNotBefore}
use Rattle.yd_honesty.proofs.places.walked_to.Given as goal

abbrev pub invariant-loop-at : goal.invariant-loop-at
invariant-loop-at l = IsNotBefore l.ids l.id l.at
