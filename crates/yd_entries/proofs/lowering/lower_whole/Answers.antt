use Rattle.std.proofs.Common.{◌≡◌, ◌∙◌, true, false, sym, subst, arith}
use Rattle.yd_entries.specs.Lowering.{begins_within}
use Rattle.yd_entries.proofs.EntryLemmas.{no_entry}
use Rattle.yd_entries.proofs.WholeLemmas.{lowering_begins, lowering_more, lowering_ends}
use Rattle.yd_entries.proofs.lowering.lower_whole.Goals as goal

pub loop-at-init : goal.loop-at-init
loop-at-init c =
    lowering_begins c.args.id c.args.len c.args.level c.args.runs.now.items c.args.taken.now c.place-at.result c.requires.each c.requires.in_order c.requires.first c.requires.last
    c.place-at.ensures.before c.place-at.ensures.behind

pub loop-at-preserved : goal.loop-at-preserved
loop-at-preserved c =
    lowering_more c.args.id c.args.len c.args.level c.args.runs.now.items c.args.taken.now c.loop-at.runs.items c.lower_entry.new.runs.items c.loop-at.taken c.lower_entry.new.taken
    c.loop-at.at c.loop-at.invariant (omega arith) c.get.result
    (subst (λ t. begins_within c.args.id c.args.len t ≡ true) c.get.ensures (sym c.begins_within.ensures ∙ c.if-begins_within.true))
    c.in_ok-lower_entry.ensures.lowered c.in_ok-lower_entry.ensures.grows

pub returns-else-begins_within-clause-lowered : goal.returns-else-begins_within-clause-lowered
returns-else-begins_within-clause-lowered c =
    lowering_ends c.args.id c.args.len c.args.level c.args.runs.now.items c.args.taken.now c.loop-at.runs.items c.loop-at.taken c.loop-at.at c.get.result c.loop-at.invariant
    (λ lt. subst (λ t. begins_within c.args.id c.args.len t ≡ false) c.get.ensures (sym c.begins_within.ensures ∙ c.if-begins_within.false))

pub returns-after-loop-at-clause-lowered : goal.returns-after-loop-at-clause-lowered
returns-after-loop-at-clause-lowered c =
    lowering_ends c.args.id c.args.len c.args.level c.args.runs.now.items c.args.taken.now c.loop-at.runs.items c.loop-at.taken c.loop-at.at no_entry c.loop-at.invariant
    (λ lt. absurd (omega arith))
