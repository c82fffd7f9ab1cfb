use Rattle.yd_listing.proofs.LawLemmas as lemmas
use Rattle.yd_listing.proofs.law.deletions_go_on.Goals as goal

pub returns : goal.returns
returns c = lemmas.deletions_go_on
