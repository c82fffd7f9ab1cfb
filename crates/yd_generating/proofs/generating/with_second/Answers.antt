use Rattle.yd_generating.proofs.generating.with_second.Goals as goal

pub with_three-requires-clause-third : goal.with_three-requires-clause-third
with_three-requires-clause-third c = record { of_client = c.in-Ok.ensures.client; nothing = c.in-Ok.ensures.received }
