use Rattle.yd_ids.specs.Span.{InSpan}
use Rattle.yd_listing.proofs.AddingLemmas.{but_adds, but_all}
use Rattle.yd_listing.proofs.spans.add_but.Goals as goal

pub returns : goal.returns
returns c =
    let l : InSpan c.args.span c.args.last = c.is_in.ensures.here cc in record {
      adds = but_adds c.args.span c.span_below.result c.span_behind.result c.args.last c.args.spans.now.items c.add_span-2.new.spans.items c.add_span-3.new.spans.items
          l c.span_below.ensures c.span_behind.ensures c.in_ok-add_span.ensures.adds c.in_ok-add_span-2.ensures.adds;
      all = but_all c.args.span c.span_below.result c.span_behind.result c.args.last c.args.spans.now.items c.add_span-2.new.spans.items c.add_span-3.new.spans.items
          l c.span_below.ensures c.span_behind.ensures c.in_ok-add_span.ensures.adds c.in_ok-add_span-2.ensures.adds c.in_ok-add_span.ensures.all c.in_ok-add_span-2.ensures.all;
    }
