use Rattle.std.proofs.Common.{sym, ◌∙◌, subst, arith}
use Rattle.yd_ids.specs.Id.{IsClient}
use Rattle.yd_remaking.proofs.LastLemmas.{named_next}
use Rattle.yd_remaking.proofs.last.last_named.Goals as goal

pub named_or-last-requires : goal.named_or-last-requires
named_or-last-requires c = record {
  client = subst IsClient (sym c.loop-left.invariant.client) c.requires.client;
  clock = let end = c.requires.end in omega (arith, end, c.loop-left.invariant.end, c.loop-left-test.true);
}

pub loop-left-preserved : goal.loop-left-preserved
loop-left-preserved c = record {
  client = c.loop-left.invariant.client;
  end = omega (arith, c.loop-left.invariant.end, c.loop-left-test.true);
  last = named_next c.args.named.now c.loop-left.last c.named_or-last.result c.loop-left.at c.loop-left.left c.loop-left-test.true c.named_or-last.ensures ∙ c.loop-left.invariant.last;
}
