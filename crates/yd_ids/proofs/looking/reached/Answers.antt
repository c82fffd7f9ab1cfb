use Rattle.std.proofs.Common.{get_or}
use Rattle.yd_words.proofs.EachLemmas.{each_take, each_drop}
use Rattle.yd_ids.specs.Span.{ReachesInto, EndsBefore}
use Rattle.yd_ids.proofs.SetLemmas.{reached_parted}
use Rattle.yd_ids.proofs.SpanLemmas.{reaches_true, reaches_false}
use Rattle.yd_ids.proofs.looking.reached.Goals as goal

pub returns-clause-before : goal.returns-clause-before
returns-clause-before c =
    let point = c.partition_point.ensures.partitioned (reached_parted c.args.span c.args.spans.now.items c.requires) in
    each_take (ReachesInto c.args.span) c.args.spans.now.items c.partition_point.result (λ k d low lt. reaches_true c.args.span (get_or c.args.spans.now.items k d) (point.0 k d low lt))

pub returns-clause-behind : goal.returns-clause-behind
returns-clause-behind c =
    let point = c.partition_point.ensures.partitioned (reached_parted c.args.span c.args.spans.now.items c.requires) in
    each_drop (EndsBefore c.args.span) c.args.spans.now.items c.partition_point.result (λ k d low lt. reaches_false c.args.span (get_or c.args.spans.now.items k d) (point.1 k d low lt))
