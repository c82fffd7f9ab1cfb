use Rattle.yd_app.proofs.law.run_in_memory.Goals as goal

pub returns-clause-completes : goal.returns-clause-completes
returns-clause-completes c = λ reads writes. (c.run.ensures.completes.calm reads writes).0

pub returns-clause-completes_online : goal.returns-clause-completes_online
returns-clause-completes_online c = λ reads writes links turns. (c.run.ensures.completes.calm_online reads writes links turns).0

pub returns-clause-converges : goal.returns-clause-converges
returns-clause-converges c = c.run.ensures.converges
