use Rattle.std.proofs.Common.{◌∙◌, ◌++◌, ◌≡◌, ◌∷◌, [], subst, sym}
use Rattle.yd_held.specs.Noted.{AreNoted, AreMissing}
use Rattle.yd_held.proofs.TryingLemmas.{lack_read, tried_without, tried_noted, tried_missing, tried_ready}
use Rattle.yd_held.proofs.trying.next_ready.Goals as goal

pub returns-in-None-clause-finds : goal.returns-in-None-clause-finds
returns-in-None-clause-finds c =
    let popped : c.loop-client.tries.items ≡ c.pop.new.self.items ++ c.in-Some.client ∷ [] = c.in-Some.ensures.items in
    tried_ready c.args.vector.now c.args.received.now.runs c.args.received.now.entries c.entries-entries.ensures.kept.each c.entries-entries.ensures.kept.in_order c.requires.waiting c.loop-client.lacks.items c.loop-client.tries.items
    c.pop.new.self.items c.in-Some.client popped c.loop-client.invariant.0
    c.in-Some-next_of.at c.in-Some-next_of.ensures.0 c.in-Some-next_of.ensures.1 c.get-entry.result
    (lack_read c.args.vector.now c.args.received.now.runs c.runs.result.now c.args.received.now.entries c.entries-entries.result.now c.in-Some-next_of.at c.get-entry.result _
    c.runs.ensures c.entries-entries.ensures.entries c.get-entry.ensures (sym c.lack_of.ensures ∙ c.in-None.is))

pub loop-client-preserved-in-Continue-1 : goal.loop-client-preserved-in-Continue-1
loop-client-preserved-in-Continue-1 c =
    let popped : c.loop-client.tries.items ≡ c.pop.new.self.items ++ c.in-Some.client ∷ [] = c.in-Some.ensures.items in
    let lacked = lack_read c.args.vector.now c.args.received.now.runs c.runs.result.now c.args.received.now.entries c.entries-entries.result.now c.in-Some-next_of.at c.get-entry.result _
    c.runs.ensures c.entries-entries.ensures.entries c.get-entry.ensures (sym c.lack_of.ensures ∙ c.in-Some-lack_of.is) in (
      subst (λ lacks. AreNoted c.args.vector.now c.args.received.now.runs lacks c.pop.new.self.items c.args.received.now.entries) (sym c.in_ok-note-in-Some-lack_of.ensures)
          (tried_noted c.args.vector.now c.args.received.now.runs c.args.received.now.entries c.entries-entries.ensures.kept.each c.entries-entries.ensures.kept.in_order c.requires.waiting c.loop-client.lacks.items c.loop-client.tries.items
          c.pop.new.self.items c.in-Some.client popped c.loop-client.invariant.0
          c.in-Some-next_of.at c.in-Some-next_of.ensures.0 c.in-Some-next_of.ensures.1 c.get-entry.result c.in-Some-lack_of.id lacked),
      λ missing. subst (AreMissing c.args.vector.now) (sym c.in_ok-note-in-Some-lack_of.ensures)
          (tried_missing c.args.vector.now c.args.received.now.runs c.args.received.now.entries c.entries-entries.ensures.kept.each c.entries-entries.ensures.kept.in_order c.requires.waiting c.loop-client.lacks.items c.loop-client.tries.items
          c.pop.new.self.items c.in-Some.client popped c.loop-client.invariant.0
          c.in-Some-next_of.at c.in-Some-next_of.ensures.0 c.in-Some-next_of.ensures.1 c.get-entry.result c.in-Some-lack_of.id lacked (c.loop-client.invariant.1 missing)),
    )

pub loop-client-preserved : goal.loop-client-preserved
loop-client-preserved c =
    let popped : c.loop-client.tries.items ≡ c.pop.new.self.items ++ c.in-Some.client ∷ [] = c.in-Some.ensures.items in (
      tried_without c.args.vector.now c.args.received.now.runs c.args.received.now.entries c.entries-entries.ensures.kept.each c.entries-entries.ensures.kept.in_order c.requires.waiting c.loop-client.lacks.items c.loop-client.tries.items
          c.pop.new.self.items c.in-Some.client popped c.loop-client.invariant.0 c.in_default-next_of.ensures,
      c.loop-client.invariant.1,
    )
