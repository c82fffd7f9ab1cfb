use Rattle.std.proofs.Common.{[], map, sym}
use Rattle.yd_files.specs.Seen.{file_of}
use Rattle.yd_app.proofs.MakingLemmas.{reaches_files}
use Rattle.yd_app.proofs.commands.vector.vector.Goals as goal

pub returns-clause-made : goal.returns-clause-made
returns-clause-made g c =
    let takes = c.in_ok-take_files.ensures.read in
    reaches_files (g.L.Library.told c.args.library.now) (map file_of c.args.files.now) takes.inputs c.in_ok-reached.reached c.in_ok-written.written.items takes.stand
    (c.in_ok-reached.ensures takes.inputs.updates takes.valid takes.took.updates) c.in_ok-written.ensures.written c.in_ok-written.ensures.read_again
