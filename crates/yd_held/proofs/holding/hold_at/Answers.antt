use Rattle.std.proofs.Common.{refl}
use Rattle.yd_held.specs.Held.{held_value}
use Rattle.yd_held.proofs.HoldAtLemmas.{origins_covered, is_entry, fewer_waiting, holds_entry, holding_then, same_received}
use Rattle.yd_held.proofs.holding.hold_at.Goals as goal

pub place_for-requires-clause-entry : goal.place_for-requires-clause-entry
place_for-requires-clause-entry c = is_entry (held_value c.args.held.now) c.entries.result.now c.args.at c.get-entry.result c.entries.ensures.entries c.get-entry.ensures c.requires.holding c.requires.inside c.requires.ready

pub place_for-requires-clause-held : goal.place_for-requires-clause-held
place_for-requires-clause-held c =
    origins_covered (held_value c.args.held.now) c.entries.result.now c.args.at c.get-entry.result c.entries.ensures.entries c.get-entry.ensures c.requires.holding c.requires.inside c.requires.ready

pub returns-clause-holding : goal.returns-clause-holding
returns-clause-holding c =
    holding_then (held_value c.args.held.now) c.entries.result.now c.args.at c.get-entry.result c.entries.ensures.entries c.get-entry.ensures c.requires.holding c.requires.inside c.requires.ready
    c.in_ok-place.place c.hold.new.self c.hold.ensures c.place_for.new.names c.in_ok-place.ensures.place
    (record { received = c.hold.new.self; vector = c.raise.new.self; names = c.place_for.new.names; lacks = c.args.held.now.lacks.items })
    refl c.in_ok-raise.ensures.raised refl

pub returns-clause-operations : goal.returns-clause-operations
returns-clause-operations c =
    same_received (held_value c.args.held.now) c.entries.result.now c.args.at c.get-entry.result c.entries.ensures.entries c.get-entry.ensures c.requires.holding c.requires.inside c.requires.ready
    c.in_ok-place.place c.hold.new.self c.hold.ensures c.place_for.new.names c.in_ok-place.ensures.place

pub returns-clause-fewer : goal.returns-clause-fewer
returns-clause-fewer c =
    fewer_waiting (held_value c.args.held.now) c.entries.result.now c.args.at c.get-entry.result c.entries.ensures.entries c.get-entry.ensures c.requires.holding c.requires.inside c.requires.ready
    c.in_ok-place.place c.hold.new.self c.hold.ensures c.place_for.new.names c.in_ok-place.ensures.place

pub returns-clause-held : goal.returns-clause-held
returns-clause-held c =
    holds_entry (held_value c.args.held.now) c.entries.result.now c.args.at c.get-entry.result c.entries.ensures.entries c.get-entry.ensures c.requires.holding c.requires.inside c.requires.ready
    c.in_ok-place.place c.hold.new.self c.hold.ensures c.place_for.new.names c.in_ok-place.ensures.place c.raise.new.self c.in_ok-raise.ensures.raised
