use Rattle.yd_entries.proofs.WholeLemmas.{span_lowers, span_places}
use Rattle.yd_entries.proofs.lowering.lower_span.Goals as goal

pub lower_whole-requires-clause-first : goal.lower_whole-requires-clause-first
lower_whole-requires-clause-first c = c.in_ok-begin_at-2.ensures.begins.others c.args.id c.in_ok-begin_at.ensures.begins.beside

pub returns-clause-lowered : goal.returns-clause-lowered
returns-clause-lowered c =
    span_lowers c.args.id c.args.len c.args.level c.args.runs.now.items c.begin_at.new.runs.items c.begin_at-2.new.runs.items c.lower_whole.new.runs.items
    c.args.taken.now c.begin_at.new.taken c.begin_at-2.new.taken c.lower_whole.new.taken
    c.in_ok-begin_at.ensures.begins c.in_ok-begin_at-2.ensures.begins c.in_ok-lower_whole.ensures.lowered

pub returns-clause-places : goal.returns-clause-places
returns-clause-places c =
    span_places c.args.id c.args.len c.args.level c.args.runs.now.items c.begin_at.new.runs.items c.begin_at-2.new.runs.items c.lower_whole.new.runs.items
    c.args.taken.now c.begin_at.new.taken c.begin_at-2.new.taken c.lower_whole.new.taken
    c.in_ok-begin_at.ensures.begins c.in_ok-begin_at-2.ensures.begins c.in_ok-lower_whole.ensures.lowered c.in_ok-begin_at.ensures.grows c.in_ok-begin_at-2.ensures.grows
