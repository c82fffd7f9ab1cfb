use Rattle.std.proofs.Common.{map, ◌∙◌, arith}
use Rattle.yd_files.proofs.ReadingLemmas.{named_at, so_far_all, so_far_more, so_far_none, stops_at, stops_passed}
use Rattle.yd_files.specs.Counts.{count_of}
use Rattle.yd_files.specs.Reading.{StopsAmong}
use Rattle.yd_files.specs.Seen.{file_of}
use Rattle.yd_files.proofs.reading.take_files.Goals as goal

pub loop-file-init : goal.loop-file-init
loop-file-init g c = so_far_none _ _ _ _ (g.T.FileTaker.took c.args.taker.now) c.requires

pub returns-in_err-take_next-clause-stops : goal.returns-in_err-take_next-clause-stops
returns-in_err-take_next-clause-stops g c =
    let loop = c.loop-file in
    let failed = c.in_err-take_next in
    let calm = g.L.Library.is_calm c.args.library.now in
    let told = g.L.Library.told c.args.library.now in
    let told_now = g.L.Library.told c.take_next.new.library in
    let reads = count_of (g.L.Library.faults c.args.library.now) (g.L.Library.faults c.take_next.new.library) in
    stops_passed (StopsAmong calm told told_now (map file_of c.args.files.now) reads) c.from_residual.result failed.field-0.0 c.from_residual.ensures
    (stops_at told_now c.args.files.now loop.file-index _ _ failed.field-0.0 c.loop-file-test.true loop.invariant failed.ensures.counts failed.ensures.stops)

pub returns-in_err-take_next-clause-calm : goal.returns-in_err-take_next-clause-calm
returns-in_err-take_next-clause-calm g c = λ calmly is_told none.
    let loop = c.loop-file in
    let failed = c.in_err-take_next in
    let before = loop.invariant.calm calmly is_told in
    let after = failed.ensures.calm before.0 (named_at c.args.files.now loop.file-index _ c.loop-file-test.true loop.invariant is_told none) in
    after.1 ∙ before.1

pub loop-file-preserved : goal.loop-file-preserved
loop-file-preserved g c =
    let loop = c.loop-file in
    let done = c.in_ok-take_next in
    so_far_more c.args.files.now loop.file-index _ c.loop-file-test.true loop.invariant done.ensures.read done.ensures.files done.ensures.counts
    (λ calm named. done.ensures.calm calm named)

pub returns-clause-read : goal.returns-clause-read
returns-clause-read g c = so_far_all c.args.files.now c.loop-file.file-index (omega (arith, c.loop-file-test.false, c.loop-file.auto.file-index-end)) c.loop-file.invariant
