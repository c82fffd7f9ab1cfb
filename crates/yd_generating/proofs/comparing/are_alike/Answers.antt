use Rattle.yd_generating.proofs.ReplicaLemmas.{tested_alike}
use Rattle.yd_generating.proofs.comparing.are_alike.Goals as goal

pub returns-clause-alike : goal.returns-clause-alike
returns-clause-alike c = tested_alike c.args.one.now c.args.other.now c.requires.plain c.requires.other_plain c.requires.of_three c.requires.other_of_three
    c.own_document_is_replicas.ensures c.own_document_is_replicas-2.ensures c.vector-vector.result.now c.vector-other_vector.result.now c.deletes-deletes.result.now c.deletes-other_deletes.result.now
    c.vector-vector.ensures c.vector-other_vector.ensures c.deletes-deletes.ensures.deleted c.deletes-other_deletes.ensures.deleted
    c.args.list.now c.in_ok-shown.shown c.in_ok-other_shown.other_shown c.requires.list c.in_ok-shown.ensures c.in_ok-other_shown.ensures
    c.is_same_text-same_text.result c.have_same_clocks-same_vector.result c.has_all-has_own.result c.has_all-has_other.result c.all_four.result
    c.is_same_text-same_text.ensures c.have_same_clocks-same_vector.ensures c.has_all-has_own.ensures c.has_all-has_other.ensures c.all_four.ensures
