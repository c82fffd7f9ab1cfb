use Rattle.std.proofs.Common.{true, false, refl, sym, ◌∙◌}
use Rattle.yd_ops.specs.View.{content_value}
use Rattle.yd_doc.specs.Counted.{counts}
use Rattle.yd_doc.proofs.CountedLemmas.{none_counted, all_counted}
use Rattle.yd_doc.proofs.indexing.counted_len.Goals as goal

pub returns-then-piece-clause-ids : goal.returns-then-piece-clause-ids
returns-then-piece-clause-ids c = none_counted c.args.piece.now true (counts (content_value c.args.piece.now.content.now)) c.if-piece.true refl refl

pub returns-then-not-is_counted-clause-ids : goal.returns-then-not-is_counted-clause-ids
returns-then-not-is_counted-clause-ids c = none_counted c.args.piece.now false false c.if-piece.false (sym c.is_counted.ensures ∙ c.if-not-is_counted.true) refl

pub returns-clause-ids : goal.returns-clause-ids
returns-clause-ids c = all_counted c.args.piece.now c.requires c.if-piece.false (sym c.is_counted.ensures ∙ c.if-not-is_counted.false)
