use Rattle.yd_making.proofs.AskedLemmas.{fits_front}
use Rattle.yd_making.proofs.basis.Basis.rights.Goals as goal

pub right-right-requires-clause-fits : goal.right-right-requires-clause-fits
right-right-requires-clause-fits c = fits_front c.args.clock c.args.steps.now c.loop-i.i c.requires.fits
