use Rattle.std.proofs.Common.{◌+◌, ◌≤◌, ◌++◌, length, arith, ap, ◌∙◌}
use Rattle.std.proofs.lemmas.List.{length-append}
use Rattle.yd_pieces.specs.Pieces.{joined}
use Rattle.yd_pieces.proofs.DrainLemmas.{drain_first, drain_second, length-remove_range}
use Rattle.yd_pieces.proofs.draining.drain_from.Goals as goal

pub returns-then-at-start-clause-done : goal.returns-then-at-start-clause-done
returns-then-at-start-clause-done g c =
    drain_first (joined c.args.pieces.now.items) (joined c.drain_within.new.pieces.items) c.args.last.now.items c.args.at c.drain_within.result c.drain_within.ensures.done c.drain_within.ensures.within

pub returns-then-at-start-clause-count : goal.returns-then-at-start-clause-count
returns-then-at-start-clause-count g c =
    let olds = joined c.args.pieces.now.items ++ c.args.last.now.items in
    let fits : c.args.at + c.drain_within.result ≤ length olds = omega (arith, c.drain_within.ensures.within, length-append (joined c.args.pieces.now.items) c.args.last.now.items) in
    ap (λ xs. length xs + c.drain_within.result) (returns-then-at-start-clause-done g c) ∙ length-remove_range olds c.args.at c.drain_within.result fits

pub returns-clause-done : goal.returns-clause-done
returns-clause-done g c =
    drain_second (joined c.args.pieces.now.items) c.args.last.now.items c.drain_in.new.piece.items c.args.start c.args.at c.drain_in.result c.requires.start c.if-at-start.false c.drain_in.ensures.done
