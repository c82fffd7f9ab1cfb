use Rattle.yd_meaning.proofs.HonestLemmas.{honest_set}
use Rattle.yd_meaning.proofs.HonestListLemmas.{honest_list}
use Rattle.yd_meaning.proofs.law.honest_lists_fit.Goals as goal

pub returns : goal.returns
returns c = record { set = honest_set; lists = honest_list }
