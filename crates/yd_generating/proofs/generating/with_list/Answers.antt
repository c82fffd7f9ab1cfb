use Rattle.yd_generating.proofs.generating.with_list.Goals as goal

pub with_first-requires-clause-first : goal.with_first-requires-clause-first
with_first-requires-clause-first c = record { of_client = c.in-Ok.ensures.client; nothing = c.in-Ok.ensures.received }
