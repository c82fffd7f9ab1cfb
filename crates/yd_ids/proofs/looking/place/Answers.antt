use Rattle.yd_words.proofs.EachLemmas.{each_take, each_drop}
use Rattle.yd_ids.specs.declared.id.Span.{Span}
use Rattle.yd_ids.specs.Span.{EndsBelow, Reaches}
use Rattle.yd_ids.proofs.SetLemmas.{spans_parted}
use Rattle.yd_ids.proofs.SpanLemmas.{below_true, below_false}
use Rattle.yd_ids.proofs.looking.place.Goals as goal

pub returns-clause-before : goal.returns-clause-before
returns-clause-before c =
    let point = c.partition_point.ensures.partitioned (spans_parted c.args.spans.now.items c.args.client c.args.clock c.requires) in
    each_take (λ (s : Span). EndsBelow s c.args.client c.args.clock) c.args.spans.now.items c.partition_point.result (λ k d low lt. below_true _ c.args.client c.args.clock (point.0 k d low lt))

pub returns-clause-behind : goal.returns-clause-behind
returns-clause-behind c =
    let point = c.partition_point.ensures.partitioned (spans_parted c.args.spans.now.items c.args.client c.args.clock c.requires) in
    each_drop (λ (s : Span). Reaches s c.args.client c.args.clock) c.args.spans.now.items c.partition_point.result (λ k d low lt. below_false _ c.args.client c.args.clock (point.1 k d low lt))
