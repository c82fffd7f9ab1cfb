use Rattle.std.proofs.Common.{◌∙◌, arith}
use Rattle.yd_pieces.proofs.FrontLemmas.{front_before}
use Rattle.yd_pieces.proofs.searching.front_of.Goals as goal

pub returns : goal.returns
returns g c =
    c.last-2.ensures.value ∙ rw c.deref.ensures.value (front_before c.args.before.now c.args.items.now c.args.n c.in_ok-last.field-0.now c.requires.filled (omega (arith, c.if-n-gt0.false)) c.in_ok-last.ensures.value)
