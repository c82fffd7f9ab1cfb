use Rattle.std.proofs.Common.{refl, sym, ◌∙◌, true≢false}
use Rattle.yd_honesty.proofs.NotingLemmas.{need_at, need_covered, need_in_range, notes_none, notes_more}
use Rattle.yd_honesty.proofs.pasts.note_needs.Goals.{then-branch, else-branch}
use Rattle.yd_honesty.proofs.pasts.note_needs.Goals as goal

pub loop-need-init : goal.loop-need-init
loop-need-init c = notes_none c.args.received.now c.requires.whole c.args.entry c.requires.there c.requires.held c.args.pasts.now c.requires.sound
    c.args.needs.now c.requires.needs c.args.past.now c.requires.only

pub note_need-requires-clause-covered : goal.note_need-requires-clause-covered
note_need-requires-clause-covered c = need_covered c.args.received.now c.requires.whole c.args.entry c.requires.there c.requires.held _
    (need_at c.args.received.now c.requires.whole c.args.entry c.requires.there c.requires.held c.args.pasts.now c.requires.sound c.args.needs.now c.requires.needs
    c.loop-need.need-index _ _ c.loop-need-test.true refl)

pub note_need-requires-clause-client : goal.note_need-requires-clause-client
note_need-requires-clause-client c = (need_in_range c.args.received.now c.requires.whole c.args.entry c.requires.there c.requires.held _
    (need_at c.args.received.now c.requires.whole c.args.entry c.requires.there c.requires.held c.args.pasts.now c.requires.sound c.args.needs.now c.requires.needs
    c.loop-need.need-index _ _ c.loop-need-test.true refl)).0

pub note_need-requires-clause-clock : goal.note_need-requires-clause-clock
note_need-requires-clause-clock c = (need_in_range c.args.received.now c.requires.whole c.args.entry c.requires.there c.requires.held _
    (need_at c.args.received.now c.requires.whole c.args.entry c.requires.there c.requires.held c.args.pasts.now c.requires.sound c.args.needs.now c.requires.needs
    c.loop-need.need-index _ _ c.loop-need-test.true refl)).1

pub loop-need-preserved : goal.loop-need-preserved
loop-need-preserved c = notes_more c.args.received.now c.requires.whole c.args.entry c.requires.there c.requires.held c.args.pasts.now c.requires.sound
    c.args.needs.now c.requires.needs c.loop-need.need-index _ _ c.args.past.now c.loop-need.past c.note_need.new.past c.loop-need.grew _ _ c.loop-need-test.true refl
    c.loop-need.invariant c.in_ok-note_need.ensures (elim c.if-branch.branch [
      | then-branch w ↦ (λ e. absurd (true≢false (sym w.grew-is ∙ e)))
      | else-branch w ↦ (λ e. (sym w.grew-is ∙ e, w.if-branch.false))
    ])
