use Rattle.std.proofs.Common.{map}
use Rattle.yd_files.specs.Seen.{file_of, inputs_of}
use Rattle.yd_asking.specs.Command.{command_of}
use Rattle.yd_app.proofs.GatheredLemmas.{makes_gathered}
use Rattle.yd_app.proofs.commands.make_gathered.Goals as goal

pub returns-clause-makes : goal.returns-clause-makes
returns-clause-makes g c =
    makes_gathered (command_of c.args.command) (map file_of c.args.files.now) (g.L.Library.told c.args.library.now) (inputs_of c.in_ok-inputs.inputs) c.in_ok-output.output.items
    c.requires.received c.in_ok-inputs.ensures.gathered c.in_ok-output.ensures.made
