use Rattle.yd_app.proofs.commands.cut.cut.Goals as goal

pub returns-in-Ok-clause-made : goal.returns-in-Ok-clause-made
returns-in-Ok-clause-made g c = λ name.
    let takes = c.in_ok-take_files.ensures.read in
    (takes.inputs, takes.stand, c.in-Ok.ensures name takes.inputs takes.took)
