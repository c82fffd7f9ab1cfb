use Rattle.std.proofs.Common.{sym, arith}
use Rattle.yd_modes.proofs.MarkLemmas.{other_marks}
use Rattle.yd_modes.proofs.marks.are_same.Goals as goal

pub returns-then-a-b : goal.returns-then-a-b
returns-then-a-b c = sym (other_marks c.args.a.now c.args.b.now (λ e. absurd (omega (arith, e, c.if-a-b.true))))
