use Rattle.yd_state.specs.Lent.{units_left}
use Rattle.yd_doc.specs.Kept.{own_document}
use Rattle.yd_text.proofs.LastLemmas.{nothing_told, last_told}
use Rattle.yd_text.proofs.last.last_in.Goals as goal

pub returns-in_default-clause-last : goal.returns-in_default-clause-last
returns-in_default-clause-last c = nothing_told (own_document c.args.replica.now) c.args.list.now (units_left c.list.result) c.list.ensures.units c.in_default.ensures.none

pub returns-clause-last : goal.returns-clause-last
returns-clause-last c = last_told (own_document c.args.replica.now) c.args.list.now c.in-Some.piece (units_left c.list.result) c.in-Some.ensures.last.0 c.counted_len.result
    c.in-Some.ensures.within c.in-Some.ensures.one c.list.ensures.units c.in-Some.ensures.last.1 c.counted_len.ensures.ids
