use Rattle.std.proofs.Common.{arith}
use Rattle.std.proofs.lemmas.Bool.{OnTrue_at, OnFalse_at}
use Rattle.yd_entries.proofs.EntryLemmas.{gap_is_free, covered_on}
use Rattle.yd_entries.proofs.gaps.known_from.Goals as goal

pub returns-then-ids-clause-new : goal.returns-then-ids-clause-new
returns-then-ids-clause-new c lt =
    gap_is_free c.args.taken.now c.ids_from-ids.result.at _ c.ids_from-ids.result.len _ (OnTrue_at c.if-ids.true c.ids_from-ids.ensures.new) (omega arith)

pub loop-count-preserved : goal.loop-count-preserved
loop-count-preserved c =
    (omega arith, covered_on c.args.taken.now c.args.id c.loop-count.count c.ids_from-ids.result.len c.loop-count.invariant.1 (OnFalse_at c.if-ids.false c.ids_from-ids.ensures.old))
