use Rattle.std.proofs.Common.{◌≡◌, map, refl, inl}
use Rattle.yd_files.specs.Counts.{count_of}
use Rattle.yd_files.specs.Seen.{file_of}
use Rattle.yd_serving.specs.Board.{board_of}
use Rattle.yd_asking.specs.Command.{command_of}
use Rattle.yd_app.specs.Link.{link_of}
use Rattle.yd_app.proofs.MakingLemmas.{asked_made, asked_none, asked_stopped, still_linked, stop_linked}
use Rattle.yd_app.proofs.OnlineLemmas.{its_turns, leaves_board, reads_asked}
use Rattle.yd_app.proofs.program.make.Goals as goal

pub returns-in_err-request-clause-makes : goal.returns-in_err-request-clause-makes
returns-in_err-request-clause-makes g c =
    let board = board_of (g.B.Switchboard.told c.args.board.now) (g.B.Switchboard.faults c.args.board.now) (g.B.Switchboard.send_faults c.args.board.now) in
    asked_none (g.L.Library.is_calm c.args.library.now) (link_of board board) c.args.words.now (g.L.Library.told c.args.library.now) (g.L.Library.told c.args.library.now) (count_of (g.L.Library.faults c.args.library.now) (g.L.Library.faults c.args.library.now))
    c.from_residual.result _ c.from_residual.ensures c.in_err-request.ensures.stops

pub returns-in_err-request-clause-board : goal.returns-in_err-request-clause-board
returns-in_err-request-clause-board g c = inl refl

pub returns-in_err-request-clause-linked : goal.returns-in_err-request-clause-linked
returns-in_err-request-clause-linked g c = λ calm has. (stop_linked c.args.words.now c.from_residual.result _ c.from_residual.ensures c.in_err-request.ensures.stops, refl)

pub returns-in_err-output-clause-makes : goal.returns-in_err-output-clause-makes
returns-in_err-output-clause-makes g c =
    let board = board_of (g.B.Switchboard.told c.args.board.now) (g.B.Switchboard.faults c.args.board.now) (g.B.Switchboard.send_faults c.args.board.now) in
    let board_now = board_of (g.B.Switchboard.told c.make_of.new.board) (g.B.Switchboard.faults c.make_of.new.board) (g.B.Switchboard.send_faults c.make_of.new.board) in
    let request = c.in_ok-request.request in
    asked_stopped (g.L.Library.is_calm c.args.library.now) (link_of board board_now) c.args.words.now (command_of request.command) (map file_of request.files.items)
    (g.L.Library.told c.args.library.now) (g.L.Library.told c.make_of.new.library) (count_of (g.L.Library.faults c.args.library.now) (g.L.Library.faults c.make_of.new.library))
    c.from_residual-in_err-output.result _ c.from_residual-in_err-output.ensures c.in_ok-request.ensures.found (rw c.as_slice-files.ensures.value at c.in_err-output.ensures.makes)

pub returns-clause-makes : goal.returns-clause-makes
returns-clause-makes g c =
    let board = board_of (g.B.Switchboard.told c.args.board.now) (g.B.Switchboard.faults c.args.board.now) (g.B.Switchboard.send_faults c.args.board.now) in
    let board_now = board_of (g.B.Switchboard.told c.make_of.new.board) (g.B.Switchboard.faults c.make_of.new.board) (g.B.Switchboard.send_faults c.make_of.new.board) in
    let request = c.in_ok-request.request in
    asked_made (g.L.Library.is_calm c.args.library.now) (link_of board board_now) c.args.words.now (command_of request.command) (map file_of request.files.items)
    (g.L.Library.told c.args.library.now) (g.L.Library.told c.make_of.new.library) (count_of (g.L.Library.faults c.args.library.now) (g.L.Library.faults c.make_of.new.library))
    c.in_ok-output.output c.in_ok-request.ensures.found (rw c.as_slice-files.ensures.value at c.in_ok-output.ensures.makes)

pub returns-in_err-output-clause-reads : goal.returns-in_err-output-clause-reads
returns-in_err-output-clause-reads g c = λ calmly.
    let request = c.in_ok-request.request in
    reads_asked c.args.words.now (command_of request.command) (map file_of request.files.items) (g.L.Library.told c.args.library.now) (count_of (g.L.Library.faults c.args.library.now) (g.L.Library.faults c.make_of.new.library))
    c.in_ok-request.ensures.found (rw c.as_slice-files.ensures.value at (c.make_of.ensures.calm calmly))

pub returns-clause-reads : goal.returns-clause-reads
returns-clause-reads g c = λ calmly.
    let request = c.in_ok-request.request in
    reads_asked c.args.words.now (command_of request.command) (map file_of request.files.items) (g.L.Library.told c.args.library.now) (count_of (g.L.Library.faults c.args.library.now) (g.L.Library.faults c.make_of.new.library))
    c.in_ok-request.ensures.found (rw c.as_slice-files.ensures.value at (c.make_of.ensures.calm calmly))

pub returns-in_err-output-clause-board : goal.returns-in_err-output-clause-board
returns-in_err-output-clause-board g c =
    let board = board_of (g.B.Switchboard.told c.args.board.now) (g.B.Switchboard.faults c.args.board.now) (g.B.Switchboard.send_faults c.args.board.now) in
    let board_now = board_of (g.B.Switchboard.told c.make_of.new.board) (g.B.Switchboard.faults c.make_of.new.board) (g.B.Switchboard.send_faults c.make_of.new.board) in
    let request = c.in_ok-request.request in
    leaves_board (c.make_of.new.board ≡ c.args.board.now) c.args.words.now (command_of request.command) (map file_of request.files.items) (g.L.Library.told c.args.library.now) (link_of board board_now)
    c.in_ok-request.ensures.found (rw c.as_slice-files.ensures.value at c.make_of.ensures.board)

pub returns-clause-board : goal.returns-clause-board
returns-clause-board g c =
    let board = board_of (g.B.Switchboard.told c.args.board.now) (g.B.Switchboard.faults c.args.board.now) (g.B.Switchboard.send_faults c.args.board.now) in
    let board_now = board_of (g.B.Switchboard.told c.make_of.new.board) (g.B.Switchboard.faults c.make_of.new.board) (g.B.Switchboard.send_faults c.make_of.new.board) in
    let request = c.in_ok-request.request in
    leaves_board (c.make_of.new.board ≡ c.args.board.now) c.args.words.now (command_of request.command) (map file_of request.files.items) (g.L.Library.told c.args.library.now) (link_of board board_now)
    c.in_ok-request.ensures.found (rw c.as_slice-files.ensures.value at c.make_of.ensures.board)

pub returns-in_err-output-clause-linked : goal.returns-in_err-output-clause-linked
returns-in_err-output-clause-linked g c = λ calm has.
    let request = c.in_ok-request.request in
    let came = c.in_err-output.ensures.linked calm (its_turns c.args.words.now (command_of request.command) (map file_of request.files.items) (g.B.Switchboard.told c.args.board.now) c.in_ok-request.ensures.found has) in
    (still_linked c.from_residual-in_err-output.result _ c.from_residual-in_err-output.ensures came.0, came.1)

pub returns-clause-linked : goal.returns-clause-linked
returns-clause-linked g c = λ calm has.
    let request = c.in_ok-request.request in
    let came = c.in_ok-output.ensures.linked calm (its_turns c.args.words.now (command_of request.command) (map file_of request.files.items) (g.B.Switchboard.told c.args.board.now) c.in_ok-request.ensures.found has) in
    (tt, came.1)
