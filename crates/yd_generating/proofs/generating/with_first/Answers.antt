use Rattle.yd_generating.proofs.generating.with_first.Goals as goal

pub with_second-requires-clause-second : goal.with_second-requires-clause-second
with_second-requires-clause-second c = record { of_client = c.in-Ok.ensures.client; nothing = c.in-Ok.ensures.received }
