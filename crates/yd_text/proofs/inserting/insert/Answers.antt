use Rattle.std.proofs.Common.{sym, subst}
use Rattle.yd_units.specs.Half.{AreUnits, IsWhole}
use Rattle.yd_units.proofs.TextLemmas.{text_whole, text_fits}
use Rattle.yd_text.proofs.inserting.insert.Goals as goal

pub insert_content-requires-clause-valid : goal.insert_content-requires-clause-valid
insert_content-requires-clause-valid c = (subst AreUnits (sym c.in-Ok.ensures) (text_fits c.args.text.now c.utf8.text), subst IsWhole (sym c.in-Ok.ensures) (text_whole c.args.text.now c.utf8.text))

pub insert_content-requires-clause-makeable : goal.insert_content-requires-clause-makeable
insert_content-requires-clause-makeable c = insert_content-requires-clause-valid c
