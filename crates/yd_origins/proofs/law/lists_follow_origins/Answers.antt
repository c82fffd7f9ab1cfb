use Rattle.yd_origins.proofs.ListLemmas.{list_follows}
use Rattle.yd_origins.proofs.ListTableLemmas.{own_member, own_list, in_own}
use Rattle.yd_origins.proofs.law.lists_follow_origins.Goals as goal

pub returns : goal.returns
returns c start = record {
  list = λ names set x t p. list_follows set t x p;
  members = λ names set name x t. ((λ i. (own_member set t name x i, own_list set t name x i)), (λ both. in_own set t name x both.0 both.1));
}
