use Rattle.std.proofs.Common.{sym, subst}
use Rattle.yd_ops.specs.View.{run_value}
use Rattle.yd_entries.specs.Entries.{OnlyAdds}
use Rattle.yd_entries.proofs.FirstLemmas.{adds_from}
use Rattle.yd_entries.proofs.pieces.take_whole.Goals as goal

pub returns-clause-adds : goal.returns-clause-adds
returns-clause-adds c =
    subst (OnlyAdds c.args.index c.args.taken.now) (sym c.in_ok-put_in.ensures.put)
    (rw c.entry_from-entry.ensures (adds_from c.args.index c.args.taken.now c.args.at c.args.is_gone (run_value c.args.run.now) c.args.from c.args.len))
