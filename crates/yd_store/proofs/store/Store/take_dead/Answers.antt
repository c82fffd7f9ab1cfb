use Rattle.std.proofs.Common.{◌≡◌, sym, subst, arith}
use Rattle.yd_store.specs.Taking.{TakesBack}
use Rattle.yd_store.proofs.TakingLemmas.{takes_nothing}
use Rattle.yd_store.proofs.TakenLemmas.{takes_both}
use Rattle.yd_store.proofs.store.Store.take_dead.Goals as goal

pub loop-next-init : goal.loop-next-init
loop-next-init c = record {
  next = c.next_clock-next.ensures.value;
  above = omega (arith, c.requires.below, c.next_clock-next.ensures.value);
  border = c.requires.border;
  dead = c.requires.dead;
  taken = subst (λ n. TakesBack c.args.self.now c.args.self.now c.args.client.0 n) (sym c.next_clock-next.ensures.value)
      (takes_nothing c.args.self.now c.args.client.0 c.is_sound.ensures.arena c.is_sound.ensures.told c.is_sound.ensures.lists);
  spares = λ k. omega arith;
}

pub loop-next-preserved : goal.loop-next-preserved
loop-next-preserved c = record {
  next = c.take_last-next.ensures.next;
  above = c.take_last-next.ensures.above;
  border = c.take_last-next.ensures.taken.borders c.args.client.0 c.args.clock c.loop-next.invariant.border;
  dead = c.take_last-next.ensures.dead;
  taken = takes_both c.args.self.now c.loop-next.self c.take_last-next.new.self c.args.client.0 c.loop-next.next c.take_last-next.result (omega (arith, c.take_last-next.ensures.lower, c.loop-next.invariant.next)) c.loop-next.invariant.taken c.take_last-next.ensures.taken;
  spares = λ k. omega (arith, c.loop-next.invariant.spares k, c.take_last-next.ensures.spares k);
}

pub returns-clause-taken : goal.returns-clause-taken
returns-clause-taken c =
    let end : c.loop-next.next ≡ c.args.clock = omega (arith, c.loop-next.invariant.above, c.loop-next-test.false) in
    subst (λ n. TakesBack c.args.self.now c.loop-next.self c.args.client.0 n) end c.loop-next.invariant.taken
