use Rattle.std.proofs.Common.{◌+◌, ◌++◌, List, sym, ap, ◌∙◌}
use Rattle.std.proofs.lemmas.List.{append-nil}
use Rattle.yd_order.specs.declared.counting.Rank.{Rank}
use Rattle.yd_order.proofs.CountingLemmas.{ranks_from, ranks_from_start, rank_pushed, ranks_done}
use Rattle.yd_order.proofs.counting.counted.Goals as goal

pub loop-at-init : goal.loop-at-init
loop-at-init c = ap (λ (ranks : List Rank). ranks ++ ranks_from c.args.rows.now 0) c.new-ranks.ensures.items ∙ ranks_from_start c.args.rows.now

pub loop-at-preserved : goal.loop-at-preserved
loop-at-preserved c =
    ap (λ (ranks : List Rank). ranks ++ ranks_from c.args.rows.now (c.loop-at.at + 1)) c.in_ok-push.ensures.items
    ∙ rank_pushed c.args.rows.now c.loop-at.ranks.items c.loop-at.at _ _ c.loop-at-test.true c.count_before-count.ensures
    ∙ c.loop-at.invariant

pub returns : goal.returns
returns c =
    sym (append-nil c.loop-at.ranks.items)
    ∙ ap (λ (rest : List Rank). c.loop-at.ranks.items ++ rest) (sym (ranks_done c.args.rows.now c.loop-at.at c.loop-at-test.false))
    ∙ c.loop-at.invariant
