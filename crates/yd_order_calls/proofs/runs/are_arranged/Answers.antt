use Rattle.yd_order_calls.proofs.TurnLemmas.{turns_are_table}
use Rattle.yd_order_calls.proofs.runs.are_arranged.Goals as goal

pub arrange-requires-clause-table : goal.arrange-requires-clause-table
arrange-requires-clause-table g c = turns_are_table _ c.requires.table
