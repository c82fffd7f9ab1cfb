use Rattle.std.proofs.Common.{◌≡◌, ◌+◌, ◌-◌, length, arith}
use Rattle.yd_skimming.proofs.NotingLemmas.{grown_ids}
use Rattle.yd_skimming.proofs.noting.note.Goals as goal

pub returns-then-is_behind-clause-noted : goal.returns-then-is_behind-clause-noted
returns-then-is_behind-clause-noted c =
    let size = c.args.spans.now.ok in
    let last : (c.len-count.result - 1) + 1 ≡ length c.args.spans.now.items = omega arith in
    grown_ids c.args.spans.now.items (c.len-count.result - 1) c.index.result.now c.index_mut.result.now c.args.id c.args.len last c.index.ensures c.index_mut.ensures.value
    (c.is_behind.ensures.0 c.if-is_behind.true)
