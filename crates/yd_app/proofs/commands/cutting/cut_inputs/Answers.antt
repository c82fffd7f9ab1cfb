use Rattle.std.proofs.Common.{subst}
use Rattle.yd_files.specs.Verdict.{Inputs}
use Rattle.yd_asking.specs.Command.{cut}
use Rattle.yd_app.specs.Output.{IsMadeOf}
use Rattle.yd_app.proofs.commands.cutting.cut_inputs.Goals as goal

pub returns : goal.returns
returns c = λ name. subst (λ (i : Inputs). IsMadeOf (cut name) i c.in_ok-bytes.bytes.items) c.with-inputs.ensures (c.in_ok-bytes.ensures name)
