use Rattle.yd_hub.proofs.ActionLemmas.{entries_ordered}
use Rattle.yd_hub.proofs.action.order_entries.Goals as goal

pub returns-clause-sends : goal.returns-clause-sends
returns-clause-sends c = entries_ordered c.args.actions.now.items c.push_reserved.new.self.items c.args.entries c.as_slice.result.now c.args.to
    c.push_reserved.ensures.items c.as_slice.ensures c.if-is_empty.ensures
