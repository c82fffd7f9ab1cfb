use Rattle.std.proofs.Common.{sym, subst, arith}
use Rattle.yd_firsts.specs.Pieces.{CutsOff}
use Rattle.yd_firsts.proofs.CutLemmas.{cuts_front}
use Rattle.yd_firsts.proofs.cutting.cut_off.Goals as goal

pub returns : goal.returns
returns c = subst (CutsOff c.args.pieces.now.items c.push.new.self.items c.args.stretch) (sym c.behind.ensures)
    (cuts_front c.args.pieces.now.items c.push.new.self.items c.args.stretch _ (omega (arith, c.if-id-stretch.false)) c.if-len-stretch.false c.in_ok-push.ensures.items)
