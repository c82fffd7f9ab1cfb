use Rattle.std.proofs.Common.{◌-◌, length, take, drop}
use Rattle.yd_held.proofs.TryingLemmas.{client_more}
use Rattle.yd_held.proofs.trying.clients_from.Goals as goal

pub loop-run-preserved : goal.loop-run-preserved
loop-run-preserved c =
    client_more (take (length c.args.runs.now - c.args.from) (drop c.args.from c.args.runs.now)) c.loop-run.run-index c.run-item.result c.loop-run.clients.items _
    c.loop-run-test.true c.run-item.is c.in_ok-try_client.ensures.tries c.loop-run.invariant
