use Rattle.yd_meaning.proofs.HonestListLemmas.{grown_in_order, grown_is_list}
use Rattle.yd_meaning.proofs.law.honest_lists_grow_in_order.Goals as goal

pub returns : goal.returns
returns c = λ received written honest list old new closed sorted grows. (
  grown_in_order received written honest list old new closed sorted grows,
  grown_is_list received written honest list old new closed sorted grows,
)
