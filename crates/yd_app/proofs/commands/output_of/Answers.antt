use Rattle.std.proofs.Common.{sym, subst}
use Rattle.yd_files.specs.Seen.{inputs_of}
use Rattle.yd_asking.specs.Command.{command_of}
use Rattle.yd_app.specs.Output.{IsMadeOf}
use Rattle.yd_asking.specs.declared.command.Command.{Command as CommandSeen}
use Rattle.yd_app.proofs.commands.output_of.Goals as goal

pub returns-clause-made : goal.returns-clause-made
returns-clause-made c = subst (λ (command : CommandSeen). IsMadeOf (command_of command) (inputs_of c.args.inputs) c.in_ok-generate-in-Generate.field-0.items)
    (sym c.in-Generate.is) (c.in_ok-generate-in-Generate.ensures (inputs_of c.args.inputs))
