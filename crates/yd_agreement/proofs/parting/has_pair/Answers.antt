use Rattle.std.proofs.Common.{sym, ap, refl, arith, true≢false}
use Rattle.yd_ops.specs.View.{run_value}
use Rattle.yd_agreement.proofs.PairingLemmas.{pair_id, pair_parts}
use Rattle.yd_agreement.proofs.parting.has_pair.Goals.{then-run-high-via-then-run-high, then-run-high-via-else-run-high+then-high-run}
use Rattle.yd_agreement.proofs.parting.has_pair.Goals as goal

pub returns-then-run-high : goal.returns-then-run-high
returns-then-run-high c = (
  (λ t. absurd (true≢false (sym t))),
  (λ pair. let has = pair_id (run_value c.args.run.now) c.args.high pair in elim c.then-run-high.branch [
    | then-run-high-via-then-run-high w ↦ absurd (w.if-run-high.true (ap (λ c. c.0) has.client))
    | then-run-high-via-else-run-high+then-high-run w ↦ absurd (omega (arith, w.if-high-run.true, has.begins))
  ]),
)

pub returns : goal.returns
returns c =
    let parts = pair_parts (run_value c.args.run.now) c.args.high c.if-run-high.false (omega (arith, c.if-high-run.false)) _ refl in (
      (λ t. parts.0 (c.parts_pair.ensures.0 t)),
      (λ pair. c.parts_pair.ensures.1 (parts.1 pair)),
    )
