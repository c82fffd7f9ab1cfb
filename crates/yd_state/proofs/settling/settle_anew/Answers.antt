use Rattle.std.proofs.Common.{length, ap, subst, arith}
use Rattle.yd_state.proofs.PlacingLawLemmas.{entries_can_be_placed}
use Rattle.yd_state.specs.Settling.{DeletesOn, MarksOn}
use Rattle.yd_state.proofs.MarkingLemmas.{marks_anew}
use Rattle.yd_state.proofs.SettlingLemmas.{deletes_anew}
use Rattle.yd_state.proofs.settling.settle_anew.Goals as goal

pub settle_on-requires : goal.settle_on-requires
settle_on-requires c = record {
  placed = entries_can_be_placed.anew c.args.held.now c.received.ensures.holds c.args.order.now c.requires c.new-fresh.result
      (record { names = c.new-fresh.ensures.names; runs = c.new-fresh.ensures.runs; lists = c.new-fresh.ensures.lists; clocks = c.new-fresh.ensures.clocks });
  less = record { each = λ o h. absurd (omega (arith, h.within, ap length c.new-fresh.ensures.runs)); less = tt };
}

pub returns-clause-deletes : goal.returns-clause-deletes
returns-clause-deletes c = deletes_anew c.args.held.now c.new-fresh.result c.settle_on.new.kept
    (record { names = c.new-fresh.ensures.names; runs = c.new-fresh.ensures.runs; lists = c.new-fresh.ensures.lists; clocks = c.new-fresh.ensures.clocks })
    (record { lists = c.store.ensures.lists; told = c.store.ensures.told })
    c.args.named.now c.args.more.now c.settle_on.new.deletes
    (subst (λ d. DeletesOn c.args.held.now d c.args.named.now c.args.more.now c.new-fresh.result c.settle_on.new.kept c.settle_on.new.deletes) c.new-fallen.ensures
    c.in_ok-settle_on.ensures.deletes)

pub returns-clause-marks : goal.returns-clause-marks
returns-clause-marks c = marks_anew c.args.held.now c.new-fresh.result c.settle_on.new.kept
    (record { names = c.new-fresh.ensures.names; runs = c.new-fresh.ensures.runs; lists = c.new-fresh.ensures.lists; clocks = c.new-fresh.ensures.clocks })
    c.settle_on.new.deletes
    (subst (λ d. MarksOn c.args.held.now c.new-fresh.result c.settle_on.new.kept d c.settle_on.new.deletes) c.new-fallen.ensures
    c.in_ok-settle_on.ensures.marks)
