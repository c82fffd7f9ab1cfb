use Rattle.std.proofs.Common.{sym, subst}
use Rattle.yd_words.specs.Each.{Each}
use Rattle.yd_arena.specs.Arena.{next_clock}
use Rattle.yd_listing.specs.Falling.{IsCame, IsNamedIn, Drops}
use Rattle.yd_state.proofs.CameLemmas.{turn_within, all_are_came}
use Rattle.yd_state.proofs.MarkingLemmas.{falls_below}
use Rattle.yd_state.proofs.settling.fallen_then.Goals as goal

pub came_of-requires : goal.came_of-requires
came_of-requires c =
    let k = c.args.held.now in
    turn_within k.received.runs k.received.entries c.args.order.now c.requires.came.clocks (next_clock c.args.kept.now.store.placed) c.requires.came.turn

pub deletions_besides-requires-clause-came : goal.deletions_besides-requires-clause-came
deletions_besides-requires-clause-came c = subst (Each (IsCame c.args.kept.now)) (sym c.deref.ensures.value)
    (all_are_came c.args.held.now c.received.ensures.holds c.args.kept.now c.requires.ids c.args.order.now c.in_ok-came.came.items c.in_ok-came.ensures)

pub returns-clause-deletes : goal.returns-clause-deletes
returns-clause-deletes c = record {
  came = c.in_ok-came.came.items;
  came_are = c.in_ok-came.ensures;
  drops = subst (λ deleted. Drops c.args.kept.now deleted (IsNamedIn c.args.waiting.now c.args.more.now) c.in_ok-came.came.items c.in_ok-besides.besides) c.ids.ensures
      (subst (λ came. Drops c.args.kept.now c.ids.result.now (IsNamedIn c.args.waiting.now c.args.more.now) came c.in_ok-besides.besides) c.deref.ensures.value c.in_ok-besides.ensures);
  grown = c.in_ok-grown.ensures.grown;
}

pub returns-clause-held : goal.returns-clause-held
returns-clause-held c = λ x h. falls_below c.args.held.now c.received.ensures.holds c.args.kept.now c.requires.ids c.args.order.now c.requires.came c.in_ok-came.came.items
    c.in_ok-came.ensures c.ids.result.now (IsNamedIn c.args.waiting.now c.args.more.now) x
    ((subst (λ came. Drops c.args.kept.now c.ids.result.now (IsNamedIn c.args.waiting.now c.args.more.now) came c.in_ok-besides.besides) c.deref.ensures.value c.in_ok-besides.ensures).only x h)
