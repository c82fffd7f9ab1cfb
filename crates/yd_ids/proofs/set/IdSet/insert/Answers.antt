use Rattle.yd_ids.proofs.UnionLemmas.{insert_alone}
use Rattle.yd_ids.proofs.set.IdSet.insert.Goals as goal

pub returns-clause-exact : goal.returns-clause-exact
returns-clause-exact c =
    rw (← c.self.view_is) (insert_alone c.self.inside.spans.items _ c.args.span c.self.invariant c.in_ok-insert_in.ensures.kept c.requires c.in_ok-insert_in.ensures.added)
