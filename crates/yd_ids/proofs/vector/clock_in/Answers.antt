use Rattle.yd_ids.proofs.VectorLemmas.{clock_found, clock_bound, clock_missing, has_place}
use Rattle.yd_ids.proofs.vector.clock_in.Goals as goal

pub returns-then-is_at-clause-reached : goal.returns-then-is_at-clause-reached
returns-then-is_at-clause-reached c = clock_found c.args.entries.now _ _ _ c.requires c.if-is_at.ensures.inside (c.if-is_at.ensures.found _)

pub returns-then-is_at-clause-bound : goal.returns-then-is_at-clause-bound
returns-then-is_at-clause-bound c = rw (returns-then-is_at-clause-reached c) (clock_bound c.args.entries.now c.args.client.0 c.requires)

pub returns-clause-reached : goal.returns-clause-reached
returns-clause-reached c =
    clock_missing c.args.entries.now _ _ (has_place c.args.entries.now c.place-at.result c.args.client.0 c.requires c.place-at.ensures.before c.place-at.ensures.behind c.if-is_at.ensures.other)
