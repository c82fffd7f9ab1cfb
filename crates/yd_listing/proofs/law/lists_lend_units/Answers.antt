use Rattle.yd_listing.proofs.LentLemmas as lending
use Rattle.yd_listing.proofs.law.lists_lend_units.Goals as goal

pub returns : goal.returns
returns c = lending.lists_lend_units
