use Rattle.std.proofs.Common.{map}
use Rattle.yd_files.specs.Seen.{file_of}
use Rattle.yd_app.proofs.MakingLemmas.{packs_files}
use Rattle.yd_app.proofs.commands.pack.pack.Goals as goal

pub returns-clause-made : goal.returns-clause-made
returns-clause-made g c =
    let takes = c.in_ok-take_files.ensures.read in
    packs_files (g.L.Library.told c.args.library.now) (map file_of c.args.files.now) takes.inputs c.finish.result.items takes.stand (rw takes.took.updates c.finish.ensures.written) (rw takes.took.updates c.finish.ensures.read_again)
