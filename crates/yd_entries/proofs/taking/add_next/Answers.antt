use Rattle.std.proofs.Common.{◌≡◌, ◌+◌, ◌-◌, inr, subst, arith}
use Rattle.std.proofs.lemmas.Bool.{OnTrue_at, not-false}
use Rattle.yd_ops.specs.View.{run_value}
use Rattle.yd_entries.specs.Taking.{IsTakenNext}
use Rattle.yd_entries.proofs.taking.add_next.Goals as goal

pub take_piece-requires-clause-piece : goal.take_piece-requires-clause-piece
take_piece-requires-clause-piece c = (_, c.first_piece-piece.ensures)

pub returns-clause-taken : goal.returns-clause-taken
returns-clause-taken c =
    let from = c.args.from in
    let count = c.first_piece-piece.result.len in
    let same : count ≡ from + count - from = omega arith in
    let gap = rw (c.id_at.ensures, c.len.ensures) at (OnTrue_at (not-false _ c.if-not-ids.false) c.ids_from-ids.ensures.new) in
    inr (subst (IsTakenNext c.args.is_gone c.args.runs.now.items c.args.taken.now c.take_piece.new.runs.items c.take_piece.new.taken (run_value c.args.run.now) from) same (record {
      at = c.ids_from-ids.result.at;
      new = c.ids_from-ids.result.len;
      torn = c.first_piece-piece.result.is_torn;
      gap = gap;
      piece = c.first_piece-piece.ensures;
      adds = c.in_ok-take_piece.ensures.added;
    }))
