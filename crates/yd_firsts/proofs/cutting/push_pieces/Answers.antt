use Rattle.std.proofs.Common.{sym, subst}
use Rattle.yd_firsts.specs.Pieces.{PutsPieces}
use Rattle.yd_firsts.proofs.CutLemmas.{cuts_none, cuts_both, puts_rest}
use Rattle.yd_firsts.proofs.cutting.push_pieces.Goals as goal

pub cut_off-requires : goal.cut_off-requires
cut_off-requires c = c.loop-at.invariant.end c.requires

pub loop-at-init : goal.loop-at-init
loop-at-init c = cuts_none c.args.pieces.now.items c.args.stretch

pub loop-at-preserved : goal.loop-at-preserved
loop-at-preserved c = cuts_both c.args.pieces.now.items c.loop-at.pieces.items c.cut_off.new.pieces.items c.args.stretch c.loop-at.rest c.in_ok-rest.rest
    c.loop-at.invariant c.in_ok-rest.ensures

pub returns : goal.returns
returns c = subst (λ ps. PutsPieces c.args.pieces.now.items ps c.args.stretch) (sym c.in_ok-push_rest.ensures)
    (puts_rest c.args.pieces.now.items c.loop-at.pieces.items c.args.stretch c.loop-at.rest c.loop-at.invariant c.requires)
