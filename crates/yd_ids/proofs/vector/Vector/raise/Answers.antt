use Rattle.yd_ids.proofs.MaximumLemmas.{raise_alone}
use Rattle.yd_ids.proofs.vector.Vector.raise.Goals as goal

pub returns-clause-exact : goal.returns-clause-exact
returns-clause-exact c =
    rw (← c.self.view_is) (raise_alone c.self.inside.entries.items _ c.args.client c.args.clock c.self.invariant c.in_ok-raise_in.ensures.kept c.requires.is_client c.requires.is_clock c.in_ok-raise_in.ensures.raised)
