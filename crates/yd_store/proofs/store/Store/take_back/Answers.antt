use Rattle.std.proofs.Common.{ap, arith, subst, sym}
use Rattle.yd_arena.specs.Arena.{runs_of, next_clock}
use Rattle.yd_arena.specs.Marks.{IsBorder}
use Rattle.yd_arena.proofs.BorderLemmas.{next_border_of}
use Rattle.yd_store.proofs.TakenLemmas.{takes_marked, marked_dead}
use Rattle.yd_store.proofs.store.Store.take_back.Goals as goal

pub mark_deleted-requires-clause-held : goal.mark_deleted-requires-clause-held
mark_deleted-requires-clause-held c = omega (arith, c.requires.below, c.next_clock.ensures.value)

pub mark_deleted-requires-clause-back : goal.mark_deleted-requires-clause-back
mark_deleted-requires-clause-back c =
    next_border_of c.args.self.now.placed.lines (runs_of c.args.self.now.placed) c.args.client.0 _ c.is_sound.ensures.arena (omega (arith, c.requires.below, c.next_clock.ensures.value))

pub take_dead-requires-clause-below : goal.take_dead-requires-clause-below
take_dead-requires-clause-below c = omega (arith, c.requires.below, ap (λ p. next_clock p c.args.client.0) c.mark_deleted.ensures.placed)

pub take_dead-requires-clause-border : goal.take_dead-requires-clause-border
take_dead-requires-clause-border c = subst (λ p. IsBorder (runs_of p) c.args.client.0 c.args.clock) (sym c.mark_deleted.ensures.placed) c.requires.border

pub take_dead-requires-clause-dead : goal.take_dead-requires-clause-dead
take_dead-requires-clause-dead c =
    marked_dead c.args.self.now c.mark_deleted.new.self c.args.client.0 c.args.clock _ (omega (arith, c.requires.below, c.next_clock.ensures.value)) c.mark_deleted.ensures.placed c.mark_deleted.ensures.marked.within

pub returns-clause-taken : goal.returns-clause-taken
returns-clause-taken c =
    takes_marked c.args.self.now c.mark_deleted.new.self c.take_dead.new.self _ c.is_sound.ensures.arena c.requires.border
    (next_border_of c.args.self.now.placed.lines (runs_of c.args.self.now.placed) c.args.client.0 _ c.is_sound.ensures.arena (omega (arith, c.requires.below, c.next_clock.ensures.value)))
    (omega (arith, c.requires.below, c.next_clock.ensures.value)) c.mark_deleted.ensures.marked c.mark_deleted.ensures.placed c.mark_deleted.ensures.contents c.take_dead.ensures.taken

pub returns-clause-spares : goal.returns-clause-spares
returns-clause-spares c = λ k. omega (arith, c.mark_deleted.ensures.spare k, c.take_dead.ensures.spares k)
