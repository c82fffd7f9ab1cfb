use Rattle.std.proofs.Common.{◌∙◌, sym, ap, length, arith, true≢false}
use Rattle.yd_honesty.proofs.NotingLemmas.{passed_more, passed_all}
use Rattle.yd_honesty.proofs.pasts.pass.Goals.{then-branch, else-branch}
use Rattle.yd_honesty.proofs.pasts.pass.Goals as goal

pub loop-at-preserved : goal.loop-at-preserved
loop-at-preserved c = passed_more c.args.received.now c.requires.whole c.loop-at.pasts.items c.note_entry.new.pasts.items c.loop-at.at c.loop-at.grew _ c.if-branch.grew
    c.loop-at.invariant c.in_ok-note_entry.ensures (elim c.if-branch.branch [
      | then-branch w ↦ (λ e. absurd (true≢false (sym w.grew-is ∙ e)))
      | else-branch w ↦ (λ e. (sym w.grew-is ∙ e, w.if-branch.false))
    ])

pub returns-clause-closed : goal.returns-clause-closed
returns-clause-closed c e = passed_all c.args.received.now c.requires.whole c.loop-at.pasts.items c.loop-at.at c.loop-at.grew
    (omega (arith, c.loop-at-test.false, c.len-at-end.ensures, ap length c.entries.ensures.entries)) c.loop-at.invariant e
