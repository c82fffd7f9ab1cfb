use Rattle.yd_ids.proofs.UnionLemmas.{insert_alone, insert_one, insert_none, inserts_commute}
use Rattle.yd_ids.proofs.law.insertion_is_union.Goals as goal

pub returns : goal.returns
returns c = record { alone = insert_alone; one = insert_one; none = insert_none; any_order = inserts_commute }
