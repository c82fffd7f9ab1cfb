use Rattle.std.proofs.Common.{true≢false, sym, ◌∙◌}
use Rattle.yd_order.proofs.NumberingLemmas.{pass_goes_on}
use Rattle.yd_order.proofs.numbering.number_ready.Goals as goal
use Rattle.yd_order.proofs.numbering.number_ready.Goals.{then-not-branch, else-not-branch}

pub loop-at-preserved : goal.loop-at-preserved
loop-at-preserved c =
    pass_goes_on c.args.rows.now c.args.marks.now c.loop-at.marks c.number.new.marks c.loop-at.by_neighbours.items c.number.new.by_neighbours.items c.loop-at.at c.loop-at.all _ _ c.loop-at.invariant c.in_ok-number.ensures
    (elim c.if-not-branch.branch [
      | then-not-branch w ↦ ((λ e. absurd (true≢false (sym e ∙ w.all-is))), (λ told. absurd (true≢false (sym told.1 ∙ w.if-not-branch.true))))
      | else-not-branch w ↦ ((λ e. (sym w.all-is ∙ e, w.if-not-branch.false)), (λ told. w.all-is ∙ told.0))
    ])
