use Rattle.yd_generator.proofs.LineLemmas.{three_of}
use Rattle.yd_generating.specs.Replicas.{received_by}
use Rattle.yd_generating.proofs.ReplicaLemmas.{counted_there}
use Rattle.yd_generating.proofs.generating.line_of.Goals as goal

pub held-requires-clause-of_three : goal.held-requires-clause-of_three
held-requires-clause-of_three c = (three_of (received_by c.args.first.now c.args.second.now c.args.third.now) c.requires.shared).0

pub returns-clause-line : goal.returns-clause-line
returns-clause-line c = record {
  held = c.held.ensures;
  deleted = c.deleted.ensures;
  len = counted_there c.args.first.now c.requires.shared.one_plain c.own_document_is_replicas.ensures c.args.list.now c.requires.list c.length.result c.length.ensures;
  equal = c.in_ok-equal.ensures.equal;
}
