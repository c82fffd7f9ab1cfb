use Rattle.std.proofs.Common.{sym, ◌∙◌}
use Rattle.std.proofs.lemmas.Option.{slice_get-get_or}
use Rattle.yd_honesty.proofs.EndsLemmas.{end_more}
use Rattle.yd_honesty.proofs.EndingLemmas.{past_of_test}
use Rattle.yd_honesty.proofs.ends.end_of.Goals as goal

pub is_past-requires-clause-client : goal.is_past-requires-clause-client
is_past-requires-clause-client c = (c.requires.held c.args.at _ (slice_get-get_or c.args.ids.now c.args.at _ c.requires.inside)).1

pub loop-end-preserved : goal.loop-end-preserved
loop-end-preserved c = end_more c.args.received.now c.args.ids.now c.args.ends.now c.args.at c.loop-end.end _ _ c.requires.ends c.loop-end.invariant
    (slice_get-get_or c.args.ids.now c.args.at _ c.requires.inside) (slice_get-get_or c.args.ids.now c.loop-end.end _ c.loop-end-test.true)
    (past_of_test c.args.received.now c.requires.whole _ _ (c.requires.held c.loop-end.end _ (slice_get-get_or c.args.ids.now c.loop-end.end _ c.loop-end-test.true)).0
    (sym c.is_past.ensures ∙ c.if-is_past.true))
