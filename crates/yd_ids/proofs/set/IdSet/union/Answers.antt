use Rattle.yd_ids.proofs.UnionLemmas.{union_alone}
use Rattle.yd_ids.proofs.set.IdSet.union.Goals as goal

pub returns-clause-exact : goal.returns-clause-exact
returns-clause-exact c =
    rw (← c.self.view_is, ← c.other.view_is)
    (union_alone c.self.inside.spans.items c.in_ok-spans.spans.items c.other.inside.spans.items c.self.invariant c.in_ok-spans.ensures.maximal c.other.invariant c.in_ok-spans.ensures.added)
