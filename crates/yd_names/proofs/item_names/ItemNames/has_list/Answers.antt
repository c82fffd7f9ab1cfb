use Rattle.std.proofs.Common.{length, ◌∙◌, sym}
use Rattle.yd_names.proofs.ItemsLemmas.{list_here, list_nowhere}
use Rattle.yd_names.proofs.item_names.ItemNames.has_list.Goals as goal

pub returns-clause-here : goal.returns-clause-here
returns-clause-here c = λ e. list_here c.args.self.now c.args.item (length c.args.self.now) c.last_of.result c.last_of.ensures (sym c.is_some.ensures ∙ e)

pub returns-clause-other : goal.returns-clause-other
returns-clause-other c = λ e h. list_nowhere c.args.self.now c.args.item c.last_of.result c.last_of.ensures (sym c.is_some.ensures ∙ e) h
