use Rattle.std.proofs.Common.{rules, of_calls, map, Bor}
use Rattle.std.proofs.lemmas.Fn.{always_returns_same}
use Rattle.yd_ops.specs.View.{update_value}
use Rattle.yd_ops.specs.declared.runs.Run.{Run}
use Rattle.yd_agreement.specs.Runs.{runs_of_updates}
use Rattle.yd_agreement.proofs.OrderLemmas.{sorted_ascending, sorted_same}
use Rattle.yd_agreement.proofs.spelled.runs_in_order.Goals as goal

pub returns-clause-ascending : goal.returns-clause-ascending
returns-clause-ascending c = sorted_ascending c.sort_unstable_by_key.new.self.items
    (c.sort_unstable_by_key.ensures.sorted (λ (run : Bor Run). run.now.id) (always_returns_same _ _ _ (λ a r f k. search (rules, of_calls))))

pub returns-clause-same : goal.returns-clause-same
returns-clause-same c = sorted_same c.in_ok-runs.runs.items c.sort_unstable_by_key.new.self.items (runs_of_updates (map update_value c.args.updates.now))
    c.sort_unstable_by_key.ensures.permutation c.in_ok-runs.ensures
