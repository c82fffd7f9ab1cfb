use Rattle.std.proofs.Common.{◌<◌}
use Rattle.yd_ids.specs.declared.id.Id.{Id}
use Rattle.yd_arena.specs.Arena.{next_clock}
use Rattle.yd_listing.proofs.AddingLemmas.{IsAdding}
use Rattle.yd_listing.proofs.naming.add_named.Given as goal

abbrev pub invariant-loop-span : goal.invariant-loop-span
invariant-loop-span l = IsAdding l.deleted l.named l.span-iterator l.initial.spans.items l.spans.items
    (λ (x : Id). x.clock < next_clock l.kept.store.placed x.client.0)
