use Rattle.std.proofs.Common.{◌≡◌, ◌<◌, subst, arith}
use Rattle.yd_ops.specs.Value.{len_of}
use Rattle.yd_ops.specs.View.{run_value, content_value}
use Rattle.yd_entries.specs.Taking.{IsPiece}
use Rattle.yd_entries.proofs.AddingLemmas.{whole_adds, half_adds}
use Rattle.yd_entries.proofs.pieces.take_piece.Goals as goal

pub returns-then-piece-clause-added : goal.returns-then-piece-clause-added
returns-then-piece-clause-added c =
    let run = run_value c.args.run.now in
    let torn = c.if-piece.true in
    let (to, piece) = c.requires.piece in
    let one : c.args.piece.len ≡ 1 = (piece.torn torn).0 in
    let (half, grown, same) = c.in_ok-take_half.ensures.half in
    let less : c.args.from < len_of (content_value c.args.run.now.content) = omega arith in
    rw (one, torn) (half_adds c.args.runs.now.items c.args.taken.now run c.args.at c.args.from c.args.is_gone c.requires.run to c.args.piece.len half _ _
    (subst (λ t. IsPiece (content_value c.args.run.now.content) c.args.from to c.args.piece.len t) torn piece) less grown same c.in_ok-take_half.ensures.entry)

pub returns-clause-added : goal.returns-clause-added
returns-clause-added c =
    let run = run_value c.args.run.now in
    let whole = c.if-piece.false in
    let (to, piece) = c.requires.piece in
    rw whole (whole_adds c.args.runs.now.items c.args.taken.now run c.args.at c.args.from c.args.is_gone c.requires.run c.args.index c.args.piece.len to _ c.requires.kept
    (subst (λ t. IsPiece (content_value c.args.run.now.content) c.args.from to c.args.piece.len t) whole piece) c.requires.bound c.in_ok-take_whole.ensures.entry)
