use Rattle.std.proofs.Common.{arith}
use Rattle.yd_script.proofs.LineLemmas.{cut_at_feed, line_without_feed}
use Rattle.yd_script.proofs.lines.first_line.Goals as goal

pub returns-in-Some-clause-lines : goal.returns-in-Some-clause-lines
returns-in-Some-clause-lines c = cut_at_feed c.args.text.now c.in-Some.both.0.now c.in-Some.both.1.now (c.in-Some.ensures.byte (grind arith) (λ w o found. found))

pub returns-in-None-clause-lines : goal.returns-in-None-clause-lines
returns-in-None-clause-lines c = line_without_feed c.args.text.now c.requires (c.in-None.ensures.byte (grind arith) (λ w o found. found))
