use Rattle.std.proofs.Common.{arith}
use Rattle.yd_state.specs.Lent.{units_of_view}
use Rattle.yd_doc.specs.Counted.{counted_ids}
use Rattle.yd_text.proofs.RangeLemmas.{passes, takes_part}
use Rattle.yd_text.proofs.ranges.take_piece.Goals as goal

pub returns-then-count-want-clause-taken : goal.returns-then-count-want-clause-taken
returns-then-count-want-clause-taken c = passes c.args.ids.now (counted_ids (units_of_view c.args.piece.now)) c.args.piece.now.id c.counted_len-count.result
    c.args.want.skip c.args.want.len c.counted_len-count.ensures.ids c.if-count-want.true

pub returns-clause-taken : goal.returns-clause-taken
returns-clause-taken c = takes_part c.args.ids.now c.insert.new.self (counted_ids (units_of_view c.args.piece.now)) c.args.piece.now.id c.counted_len-count.result
    c.args.want.skip c.args.want.len c.least-part.result c.counted_len-count.ensures.ids (omega (arith, c.if-count-want.false)) c.least-part.ensures.first c.least-part.ensures.second
    c.least-part.ensures.one c.in_ok-insert.ensures.added
