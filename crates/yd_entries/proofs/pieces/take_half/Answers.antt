use Rattle.std.proofs.Common.{length, refl, sym, subst, arith}
use Rattle.yd_entries.specs.Entries.{OnlyAdds}
use Rattle.yd_entries.proofs.FirstLemmas.{adds_one}
use Rattle.yd_entries.proofs.pieces.take_half.Goals as goal

pub returns-clause-adds : goal.returns-clause-adds
returns-clause-adds c =
    subst (OnlyAdds (length c.args.runs.now.items) c.args.taken.now) (sym c.in_ok-insert.ensures.inserted)
    (adds_one (length c.args.runs.now.items) c.args.taken.now c.args.at _ (omega arith) refl)
