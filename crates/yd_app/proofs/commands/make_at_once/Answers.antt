use Rattle.std.proofs.Common.{map, sym, subst}
use Rattle.yd_files.specs.Seen.{file_of}
use Rattle.yd_asking.specs.Command.{command_of}
use Rattle.yd_asking.specs.declared.command.Command.{Command as CommandSeen}
use Rattle.yd_app.specs.Stopping.{MakesOf}
use Rattle.yd_app.proofs.commands.make_at_once.Goals as goal

pub returns-in_ok-part-in-Cut-clause-makes : goal.returns-in_ok-part-in-Cut-clause-makes
returns-in_ok-part-in-Cut-clause-makes g c =
    subst (λ (command : CommandSeen). MakesOf (command_of command) (map file_of c.args.files.now) (g.L.Library.told c.args.library.now) c.in_ok-part-in-Cut.part.items) (sym c.in-Cut.is)
    (c.in_ok-part-in-Cut.ensures.made c.in-Cut.vector.now)
