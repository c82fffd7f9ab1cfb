use Rattle.std.proofs.Common.{ap, ◌∙◌}
use Rattle.yd_value.specs.View.{entries_fields}
use Rattle.yd_value.proofs.ShownLists.{entries_fields_last}
use Rattle.yd_value.proofs.shown.push_entry.Goals as goal

pub returns-clause-appended : goal.returns-clause-appended
returns-clause-appended c = ap entries_fields c.in_ok-push.ensures.items ∙ entries_fields_last c.args.items.now.items c.args.item
