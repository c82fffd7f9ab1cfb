use Rattle.std.proofs.Common.{◌||◌, sym, ap, ◌∙◌}
use Rattle.yd_text.specs.Rows.{is_in_row}
use Rattle.yd_text.proofs.RowLemmas.{row_tested}
use Rattle.yd_text.proofs.marks.has_come.Goals as goal

pub returns-then-came : goal.returns-then-came
returns-then-came c = sym (ap (λ t. t || is_in_row c.args.piece.now.id c.args.piece.now.len c.args.first) c.if-came.true)

pub returns : goal.returns
returns c = sym (row_tested c.args.piece.now.id c.args.piece.now.len c.args.first c.has_id.result c.has_id.ensures)
    ∙ sym (ap (λ t. t || is_in_row c.args.piece.now.id c.args.piece.now.len c.args.first) c.if-came.false)
