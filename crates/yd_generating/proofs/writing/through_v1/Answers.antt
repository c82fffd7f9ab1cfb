use Rattle.std.proofs.Common.{ℕ, List, sym, subst}
use Rattle.yd_ops.specs.View.{update_value}
use Rattle.yd_v1.specs.Grammar.{StandsForV1}
use Rattle.yd_generating.proofs.writing.through_v1.Goals as goal

pub returns-in-Ok-clause-same : goal.returns-in-Ok-clause-same
returns-in-Ok-clause-same c = c.in-Ok.ensures.exact.values (update_value c.args.update.now)
    (subst (λ (bytes : List ℕ). StandsForV1 bytes (update_value c.args.update.now)) (sym c.as_slice.ensures.value) c.in_ok-bytes.ensures.read_again)
