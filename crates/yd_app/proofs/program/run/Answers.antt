use Rattle.std.proofs.Common.{◌≢◌, ap}
use Rattle.yd_ending.specs.Ending.{status_of}
use Rattle.yd_files.specs.Counts.{count_of}
use Rattle.yd_serving.specs.Board.{board_of}
use Rattle.yd_app.specs.Link.{link_of}
use Rattle.yd_app.proofs.MakingLemmas.{ends_of, no_link_fault, no_write_fault}
use Rattle.yd_app.proofs.RunLemmas.{calm_follows, calm_online, counted_follows, counted_online, reported_comes, reported_cuts, reported_reason, reported_writes, tells_err}
use Rattle.yd_app.proofs.program.run.Goals as goal

pub returns-clause-reason : goal.returns-clause-reason
returns-clause-reason g c =
    let words = c.args.words.now in
    let told = g.L.Library.told c.args.library.now in
    let told_now = g.L.Library.told c.make-made.new.library in
    let link = link_of (board_of (g.B.Switchboard.told c.args.board.now) (g.B.Switchboard.faults c.args.board.now) (g.B.Switchboard.send_faults c.args.board.now))
    (board_of (g.B.Switchboard.told c.make-made.new.board) (g.B.Switchboard.faults c.make-made.new.board) (g.B.Switchboard.send_faults c.make-made.new.board)) in
    let reads = count_of (g.L.Library.faults c.args.library.now) (g.L.Library.faults c.make-made.new.library) in
    let writes = count_of (g.S.Sink.faults c.args.out.now) (g.S.Sink.faults c.deliver-ending.new.out) in
    let taken = g.S.Sink.bytes_taken c.args.out.now in
    let now = g.S.Sink.bytes_taken c.deliver-ending.new.out in
    let ending = c.deliver-ending.result in
    let calm = g.L.Library.is_calm c.args.library.now in
    let ends = ends_of calm words told told_now link reads writes taken now c.make-made.result ending c.make-made.ensures.makes c.deliver-ending.ensures.delivers in
    reported_reason calm words told told_now link reads writes taken now ending c.report.result ends c.report.ensures.status

pub returns-clause-comes : goal.returns-clause-comes
returns-clause-comes g c =
    let words = c.args.words.now in
    let told = g.L.Library.told c.args.library.now in
    let told_now = g.L.Library.told c.make-made.new.library in
    let link = link_of (board_of (g.B.Switchboard.told c.args.board.now) (g.B.Switchboard.faults c.args.board.now) (g.B.Switchboard.send_faults c.args.board.now))
    (board_of (g.B.Switchboard.told c.make-made.new.board) (g.B.Switchboard.faults c.make-made.new.board) (g.B.Switchboard.send_faults c.make-made.new.board)) in
    let reads = count_of (g.L.Library.faults c.args.library.now) (g.L.Library.faults c.make-made.new.library) in
    let writes = count_of (g.S.Sink.faults c.args.out.now) (g.S.Sink.faults c.deliver-ending.new.out) in
    let taken = g.S.Sink.bytes_taken c.args.out.now in
    let now = g.S.Sink.bytes_taken c.deliver-ending.new.out in
    let ending = c.deliver-ending.result in
    let calm = g.L.Library.is_calm c.args.library.now in
    let ends = ends_of calm words told told_now link reads writes taken now c.make-made.result ending c.make-made.ensures.makes c.deliver-ending.ensures.delivers in
    reported_comes calm words told told_now link reads writes taken now ending c.report.result ends c.report.ensures.status

pub returns-clause-completes : goal.returns-clause-completes
returns-clause-completes g c =
    let words = c.args.words.now in
    let told = g.L.Library.told c.args.library.now in
    let told_now = g.L.Library.told c.make-made.new.library in
    let link = link_of (board_of (g.B.Switchboard.told c.args.board.now) (g.B.Switchboard.faults c.args.board.now) (g.B.Switchboard.send_faults c.args.board.now))
    (board_of (g.B.Switchboard.told c.make-made.new.board) (g.B.Switchboard.faults c.make-made.new.board) (g.B.Switchboard.send_faults c.make-made.new.board)) in
    let reads = count_of (g.L.Library.faults c.args.library.now) (g.L.Library.faults c.make-made.new.library) in
    let writes = count_of (g.S.Sink.faults c.args.out.now) (g.S.Sink.faults c.deliver-ending.new.out) in
    let taken = g.S.Sink.bytes_taken c.args.out.now in
    let now = g.S.Sink.bytes_taken c.deliver-ending.new.out in
    let ending = c.deliver-ending.result in
    let calm = g.L.Library.is_calm c.args.library.now in
    let ends = ends_of calm words told told_now link reads writes taken now c.make-made.result ending c.make-made.ensures.makes c.deliver-ending.ensures.delivers in
    let delivers = c.deliver-ending.ensures.delivers in
    let written : g.S.Sink.is_calm c.args.out.now → status_of ending ≢ 4 = λ calm_out. no_write_fault calm words told told_now link reads writes taken now c.make-made.result ending c.make-made.ensures.makes delivers (c.deliver-ending.ensures.writes calm_out) in
    record {
      calm = λ calm_library calm_out. (
        calm_follows calm words told told_now link reads writes taken now ending c.report.result ends c.report.ensures.status calm_library (written calm_out),
        λ command files asks is_told none. (c.make-made.ensures.reads calm_library command files asks is_told none, c.deliver-ending.ensures.written (written calm_out)),
      );
      counted = counted_follows calm words told told_now link reads writes taken now ending c.report.result ends c.report.ensures.status;
      calm_online = λ calm_library calm_out calm_board has.
          let linked = c.make-made.ensures.linked calm_board has in (
            calm_online calm words told told_now link reads writes taken now ending c.report.result ends c.report.ensures.status calm_library (written calm_out)
                (no_link_fault writes taken now c.make-made.result ending delivers linked.0),
            linked.1,
          );
      counted_online = counted_online calm words told told_now link reads writes taken now ending c.report.result ends c.report.ensures.status;
    }

pub returns-clause-converges : goal.returns-clause-converges
returns-clause-converges g c =
    let words = c.args.words.now in
    let told = g.L.Library.told c.args.library.now in
    let told_now = g.L.Library.told c.make-made.new.library in
    let link = link_of (board_of (g.B.Switchboard.told c.args.board.now) (g.B.Switchboard.faults c.args.board.now) (g.B.Switchboard.send_faults c.args.board.now))
    (board_of (g.B.Switchboard.told c.make-made.new.board) (g.B.Switchboard.faults c.make-made.new.board) (g.B.Switchboard.send_faults c.make-made.new.board)) in
    let reads = count_of (g.L.Library.faults c.args.library.now) (g.L.Library.faults c.make-made.new.library) in
    let writes = count_of (g.S.Sink.faults c.args.out.now) (g.S.Sink.faults c.deliver-ending.new.out) in
    let taken = g.S.Sink.bytes_taken c.args.out.now in
    let now = g.S.Sink.bytes_taken c.deliver-ending.new.out in
    let ending = c.deliver-ending.result in
    let calm = g.L.Library.is_calm c.args.library.now in
    let ends = ends_of calm words told told_now link reads writes taken now c.make-made.result ending c.make-made.ensures.makes c.deliver-ending.ensures.delivers in
    reported_writes calm words told told_now link reads writes taken now ending c.report.result ends c.report.ensures.status

pub returns-clause-cuts_off : goal.returns-clause-cuts_off
returns-clause-cuts_off g c =
    let words = c.args.words.now in
    let told = g.L.Library.told c.args.library.now in
    let told_now = g.L.Library.told c.make-made.new.library in
    let link = link_of (board_of (g.B.Switchboard.told c.args.board.now) (g.B.Switchboard.faults c.args.board.now) (g.B.Switchboard.send_faults c.args.board.now))
    (board_of (g.B.Switchboard.told c.make-made.new.board) (g.B.Switchboard.faults c.make-made.new.board) (g.B.Switchboard.send_faults c.make-made.new.board)) in
    let reads = count_of (g.L.Library.faults c.args.library.now) (g.L.Library.faults c.make-made.new.library) in
    let writes = count_of (g.S.Sink.faults c.args.out.now) (g.S.Sink.faults c.deliver-ending.new.out) in
    let taken = g.S.Sink.bytes_taken c.args.out.now in
    let now = g.S.Sink.bytes_taken c.deliver-ending.new.out in
    let ending = c.deliver-ending.result in
    let calm = g.L.Library.is_calm c.args.library.now in
    let ends = ends_of calm words told told_now link reads writes taken now c.make-made.result ending c.make-made.ensures.makes c.deliver-ending.ensures.delivers in
    reported_cuts calm words told told_now link reads writes taken now ending c.report.result ends c.report.ensures.status (λ one. ap g.S.Sink.bytes_taken (c.deliver-ending.ensures.untouched one))

pub returns-clause-err : goal.returns-clause-err
returns-clause-err g c =
    let words = c.args.words.now in
    let told = g.L.Library.told c.args.library.now in
    let told_now = g.L.Library.told c.make-made.new.library in
    let link = link_of (board_of (g.B.Switchboard.told c.args.board.now) (g.B.Switchboard.faults c.args.board.now) (g.B.Switchboard.send_faults c.args.board.now))
    (board_of (g.B.Switchboard.told c.make-made.new.board) (g.B.Switchboard.faults c.make-made.new.board) (g.B.Switchboard.send_faults c.make-made.new.board)) in
    let reads = count_of (g.L.Library.faults c.args.library.now) (g.L.Library.faults c.make-made.new.library) in
    let writes = count_of (g.S.Sink.faults c.args.out.now) (g.S.Sink.faults c.deliver-ending.new.out) in
    let taken = g.S.Sink.bytes_taken c.args.out.now in
    let now = g.S.Sink.bytes_taken c.deliver-ending.new.out in
    let ending = c.deliver-ending.result in
    let calm = g.L.Library.is_calm c.args.library.now in
    let ends = ends_of calm words told told_now link reads writes taken now c.make-made.result ending c.make-made.ensures.makes c.deliver-ending.ensures.delivers in
    let errs = count_of (g.S.Sink.faults c.args.err.now) (g.S.Sink.faults c.report.new.err) in
    let report = c.report.ensures in
    tells_err calm words told told_now link reads writes taken now ending c.report.result errs (g.S.Sink.bytes_taken c.args.err.now) (g.S.Sink.bytes_taken c.report.new.err) ends report.status
    (λ silent. ap g.S.Sink.bytes_taken (report.silent silent)) report.front report.whole report.short
