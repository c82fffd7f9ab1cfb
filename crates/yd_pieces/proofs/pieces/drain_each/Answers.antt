use Rattle.std.proofs.Common.{◌≡◌, ◌+◌, ◌-◌, ap, ◌∙◌, arith}
use Rattle.std.specs.List.{remove_range}
use Rattle.yd_pieces.proofs.DrainLemmas.{remove_range_more}
use Rattle.yd_pieces.proofs.pieces.drain_each.Goals as goal

pub loop-left-preserved : goal.loop-left-preserved
loop-left-preserved g c =
    let xs = c.args.list.now.items in
    let n = c.drain_some-left.result in
    let some = c.drain_some-left.ensures.some in
    let order = c.loop-left.invariant.order in
    let at = c.args.to - c.loop-left.left in
    let next : at + n ≡ c.args.to - (c.loop-left.left - n) = omega arith in
    record {
      order = omega arith;
      done = c.drain_some-left.ensures.done ∙ ap (λ ys. remove_range ys c.args.from (c.args.from + n)) c.loop-left.invariant.done
          ∙ remove_range_more xs c.args.from at n (omega arith) (omega arith) ∙ ap (λ k. remove_range xs c.args.from k) next;
      room = omega (arith, c.loop-left.invariant.room, c.drain_some-left.ensures.room);
    }
