use Rattle.std.proofs.Common.{arith}
use Rattle.yd_editing.specs.TextEdit.{counted_units}
use Rattle.yd_doc.specs.Kept.{own_document}
use Rattle.yd_doc.proofs.CountedLemmas.{none_past}
use Rattle.yd_doc.proofs.replica.Replica.unit_at.Goals as goal

pub returns-then-length-index-clause-unit : goal.returns-then-length-index-clause-unit
returns-then-length-index-clause-unit c = none_past (counted_units (own_document c.args.self.now) c.args.list.now) c.args.index
    (omega (arith, c.if-length-index.true, c.length-length.ensures))

pub returns-then-behind-index-clause-unit : goal.returns-then-behind-index-clause-unit
returns-then-behind-index-clause-unit c = c.unit_from_back.ensures.unit c.args.index (omega (arith, c.if-length-index.false, c.length-length.ensures))
