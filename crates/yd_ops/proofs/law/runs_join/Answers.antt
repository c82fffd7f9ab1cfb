use Rattle.yd_ops.proofs.JoinLemmas.{rule_tells, runs_have, runs_long}
use Rattle.yd_ops.proofs.CutLemmas.{joined_first, joined_other, joined_valid}
use Rattle.yd_ops.proofs.law.runs_join.Goals as goal

pub returns : goal.returns
returns c = record { tells = rule_tells; operations = runs_have; length = runs_long; first = joined_first; other = joined_other; valid = joined_valid }
