use Rattle.yd_scan.proofs.GrowingLemmas as growing
use Rattle.yd_scan.proofs.law.lists_grow.Goals as goal

pub returns : goal.returns
returns c = growing.lists_grow
