use Rattle.yd_order_calls.proofs.TurnLemmas.{turns_are_table}
use Rattle.yd_order_calls.proofs.stretches.are_arranged.Goals as goal

pub arrange_stretches-requires-clause-table : goal.arrange_stretches-requires-clause-table
arrange_stretches-requires-clause-table g c = turns_are_table _ c.requires.table
