use Rattle.yd_generator.proofs.LineLemmas.{three_of}
use Rattle.yd_generating.specs.Replicas.{received_by}
use Rattle.yd_generating.proofs.ReplicaLemmas.{tested_equal}
use Rattle.yd_generating.proofs.comparing.are_equal.Goals as goal

pub are_alike-requires-clause-of_three : goal.are_alike-requires-clause-of_three
are_alike-requires-clause-of_three c = (three_of (received_by c.args.first.now c.args.second.now c.args.third.now) c.requires.shared).0

pub are_alike-requires-clause-other_of_three : goal.are_alike-requires-clause-other_of_three
are_alike-requires-clause-other_of_three c = (three_of (received_by c.args.first.now c.args.second.now c.args.third.now) c.requires.shared).1

pub are_alike-requires-2-clause-of_three : goal.are_alike-requires-2-clause-of_three
are_alike-requires-2-clause-of_three c = (three_of (received_by c.args.first.now c.args.second.now c.args.third.now) c.requires.shared).0

pub are_alike-requires-2-clause-other_of_three : goal.are_alike-requires-2-clause-other_of_three
are_alike-requires-2-clause-other_of_three c = (three_of (received_by c.args.first.now c.args.second.now c.args.third.now) c.requires.shared).2

pub returns-clause-equal : goal.returns-clause-equal
returns-clause-equal c = tested_equal c.in_ok-is_second.is_second c.in_ok-is_third.is_third c.both.result c.in_ok-is_second.ensures.alike c.in_ok-is_third.ensures.alike c.both.ensures
    (λ p q. record { second = p; third = q }) (λ r. (r.second, r.third))
