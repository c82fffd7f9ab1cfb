use Rattle.std.proofs.Common.{ℕ, List, subst}
use Rattle.yd_ending.specs.Writing.{TakesPart}
use Rattle.yd_ending.proofs.DeliveryLemmas.{written_err}
use Rattle.yd_ending.proofs.delivery.deliver.Goals as goal

pub returns-in_err-write_out-in-Ok-clause-delivers : goal.returns-in_err-write_out-in-Ok-clause-delivers
returns-in_err-write_out-in-Ok-clause-delivers g c =
    let failed = c.in_err-write_out-in-Ok in
    let taken = g.S.Sink.bytes_taken c.args.out.now in
    let next = g.S.Sink.bytes_taken c.write_out.new.out in
    rw c.in-Ok.is (written_err c.in-Ok.bytes (g.S.Sink.faults c.args.out.now) (g.S.Sink.faults c.write_out.new.out) taken next c.from_residual.result failed.field-0.0 c.from_residual.ensures
    (subst (λ (l : List ℕ). TakesPart taken next l) c.deref.ensures.value failed.ensures.part) failed.ensures.cause)
