use Rattle.yd_chains.proofs.LinkLemmas.{are_sound}
use Rattle.yd_chains.proofs.chains.Chains.len.Goals as goal

pub returns-clause-sound : goal.returns-clause-sound
returns-clause-sound c = rw (← c.self.view_is) (are_sound c.self.inside.links.items c.self.inside.ends.items c.self.invariant.chains)
