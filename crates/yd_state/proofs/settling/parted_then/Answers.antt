use Rattle.yd_kept.proofs.ChangeLemmas.{held_itself, held_both}
use Rattle.yd_held.specs.Turn.{IsToldAnew}
use Rattle.yd_state.proofs.ReadyingLemmas.{ids_cut, can_cut, parted_cut, held_cut}
use Rattle.yd_state.proofs.ToldLemmas.{is_told}
use Rattle.yd_state.proofs.settling.parted_then.Goals as goal

pub fallen_then-requires-clause-told : goal.fallen_then-requires-clause-told
fallen_then-requires-clause-told c = is_told c.args.held.now c.received.ensures.holds c.args.kept.now c.requires.ids c.requires.store
    (IsToldAnew c.args.held.now.received c.args.told.now) c.requires.less.each

pub returns-in_err-fallen-clause-kept : goal.returns-in_err-fallen-clause-kept
returns-in_err-fallen-clause-kept c = held_itself c.args.kept.now

pub ready-requires-clause-ids : goal.ready-requires-clause-ids
ready-requires-clause-ids c = ids_cut c.args.held.now c.received.ensures.holds c.args.kept.now c.part_each.new.self c.part_each.ensures.kept c.requires.ids

pub ready-requires-clause-less : goal.ready-requires-clause-less
ready-requires-clause-less c = can_cut c.args.held.now c.args.told.now c.args.kept.now c.part_each.new.self c.part_each.ensures.kept c.requires.less

pub returns-in_err-less-clause-kept : goal.returns-in_err-less-clause-kept
returns-in_err-less-clause-kept c = held_both c.args.kept.now c.part_each.new.self c.ready.new.kept c.part_each.ensures.kept c.ready.ensures.cuts.keeps

pub returns-clause-kept : goal.returns-clause-kept
returns-clause-kept c = held_both c.args.kept.now c.part_each.new.self c.ready.new.kept c.part_each.ensures.kept c.ready.ensures.cuts.keeps

pub returns-clause-parted : goal.returns-clause-parted
returns-clause-parted c = parted_cut c.part_each.new.self c.ready.new.kept c.ready.ensures.cuts.keeps c.in_ok-fallen.fallen.besides c.in_ok-part_each.ensures.parted

pub returns-clause-held : goal.returns-clause-held
returns-clause-held c = held_cut c.args.kept.now c.ready.new.kept
    (held_both c.args.kept.now c.part_each.new.self c.ready.new.kept c.part_each.ensures.kept c.ready.ensures.cuts.keeps) c.in_ok-fallen.fallen.besides c.in_ok-fallen.ensures.held
