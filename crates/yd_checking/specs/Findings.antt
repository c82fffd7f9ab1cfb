-- What is told of updates: the numbers of what they bring, and the smallest ids that break agreement and the edit rules (own).
use Rattle.std.specs.Prelude.{◌≡◌, List}
use Rattle.yd_ops.specs.Value.{UpdateValue}
use Rattle.yd_ops.specs.Received.{received_set}
use Rattle.yd_grouping.specs.Disagreement.{disagreement_of}
use Rattle.yd_honesty.specs.Dishonest.{dishonest_of}
use Rattle.yd_meaning.specs.Document.{Document, document_of}
use Rattle.yd_meaning.specs.Held.{held_set}
use Rattle.yd_meaning.specs.Replica.{IsReplicaDocument}
use Rattle.yd_checking.specs.Counts.{counts_in}
use Rattle.yd_checking.specs.declared.checking.Findings.{Findings}

-- the numbers of what is received, as a replica with this document has them, the smallest id on which the updates disagree, and
-- the smallest held one that breaks the edit rules
abbrev pub findings_in : Document → List UpdateValue → Findings
findings_in document us = record {
  counts = counts_in document (received_set us);
  disagreement = disagreement_of us;
  dishonest = dishonest_of (held_set (received_set us).operations);
}

-- so with the document that is defined
abbrev pub findings_of : List UpdateValue → Findings
findings_of us = findings_in (document_of (received_set us)) us

-- this is found of the updates: a replica that received them may have a document with which it finds this
pub record IsFound (found : Findings) (us : List UpdateValue) : Type 0 where
  pub document : Document
  pub replica : IsReplicaDocument document (received_set us)
  pub told : found ≡ findings_in document us
