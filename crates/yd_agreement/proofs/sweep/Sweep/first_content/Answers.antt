use Rattle.std.proofs.Common.{◌<◌, length, arith}
use Rattle.yd_agreement.specs.Differing.{content_of}
use Rattle.yd_agreement.specs.Sweep.{runs_in}
use Rattle.yd_agreement.proofs.ApartLemmas.{contents_apart}
use Rattle.yd_agreement.proofs.ComparingLemmas.{all_compared, compared, cover_comes, cover_range, next_range, none_yet}
use Rattle.yd_agreement.proofs.CoverLemmas.{cover_so_far, length-lent}
use Rattle.yd_agreement.proofs.sweep.Sweep.first_content.Goals as goal

pub loop-next-init : goal.loop-next-init
loop-next-init c = record { some = omega arith; so_far = none_yet content_of contents_apart (runs_in c.args.self.now) }

pub differ_in_content-found-requires-clause-run : goal.differ_in_content-found-requires-clause-run
differ_in_content-found-requires-clause-run c =
    let lt : c.loop-next.next < length c.args.self.now.runs.items = omega (arith, c.loop-next-test.true, c.len-next-end.ensures, c.args.self.now.runs.ok.0) in
    cover_range c.args.self.now.runs.items c.loop-next.next c.index.result.now c.index-in-loop-next.result.now c.requires.ranges c.requires.ascending lt
    (cover_so_far c.args.self.now.runs.items c.args.self.now.covers.items (length (runs_in c.args.self.now)) c.loop-next.next c.index.result.now c.requires.covers
    c.loop-next.invariant.some (omega (arith, lt, length-lent c.args.self.now.runs.items)) c.index.ensures) c.index-in-loop-next.ensures

pub differ_in_content-found-requires-clause-next : goal.differ_in_content-found-requires-clause-next
differ_in_content-found-requires-clause-next c =
    let lt : c.loop-next.next < length c.args.self.now.runs.items = omega (arith, c.loop-next-test.true, c.len-next-end.ensures, c.args.self.now.runs.ok.0) in
    next_range c.args.self.now.runs.items c.loop-next.next c.index.result.now c.index-in-loop-next.result.now c.requires.ranges c.requires.ascending lt
    (cover_so_far c.args.self.now.runs.items c.args.self.now.covers.items (length (runs_in c.args.self.now)) c.loop-next.next c.index.result.now c.requires.covers
    c.loop-next.invariant.some (omega (arith, lt, length-lent c.args.self.now.runs.items)) c.index.ensures) c.index-in-loop-next.ensures

pub differ_in_content-found-requires-clause-order : goal.differ_in_content-found-requires-clause-order
differ_in_content-found-requires-clause-order c =
    let lt : c.loop-next.next < length c.args.self.now.runs.items = omega (arith, c.loop-next-test.true, c.len-next-end.ensures, c.args.self.now.runs.ok.0) in
    cover_comes c.args.self.now.runs.items c.loop-next.next c.index.result.now c.index-in-loop-next.result.now c.requires.ranges c.requires.ascending lt
    (cover_so_far c.args.self.now.runs.items c.args.self.now.covers.items (length (runs_in c.args.self.now)) c.loop-next.next c.index.result.now c.requires.covers
    c.loop-next.invariant.some (omega (arith, lt, length-lent c.args.self.now.runs.items)) c.index.ensures) c.index-in-loop-next.ensures

pub loop-next-preserved : goal.loop-next-preserved
loop-next-preserved c =
    let lt : c.loop-next.next < length c.args.self.now.runs.items = omega (arith, c.loop-next-test.true, c.len-next-end.ensures, c.args.self.now.runs.ok.0) in record {
      some = omega (arith, c.loop-next.invariant.some);
      so_far = compared c.args.self.now.runs.items c.loop-next.next c.index.result.now c.index-in-loop-next.result.now c.requires.ranges c.requires.ascending lt
          (cover_so_far c.args.self.now.runs.items c.args.self.now.covers.items (length (runs_in c.args.self.now)) c.loop-next.next c.index.result.now c.requires.covers
          c.loop-next.invariant.some (omega (arith, lt, length-lent c.args.self.now.runs.items)) c.index.ensures) c.index-in-loop-next.ensures
          content_of contents_apart c.loop-next.first c.differ_in_content-found.result c.first_of-first.result c.loop-next.invariant.so_far c.differ_in_content-found.ensures
          c.first_of-first.ensures;
    }

pub returns : goal.returns
returns c = all_compared content_of c.args.self.now.runs.items c.loop-next.next c.loop-next.first
    (omega (arith, c.loop-next-test.false, c.len-next-end.ensures, c.args.self.now.runs.ok.0)) c.loop-next.invariant.so_far
