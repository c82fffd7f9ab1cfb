use Rattle.std.proofs.Common.{◌∙◌, List, ap, subst}
use Rattle.yd_ids.specs.declared.id.Span.{Span}
use Rattle.yd_ids.specs.Set.{AreMaximal}
use Rattle.yd_meaning.specs.Document.{AreDeletedIn}
use Rattle.yd_meaning.specs.Held.{count_of_ids, held_set}
use Rattle.yd_meaning.proofs.VectorLemmas.{held_written}
use Rattle.yd_entries.proofs.WrittenLemmas.{taken_written}
use Rattle.yd_meaning.proofs.ReplicaLemmas.{deleted_are_held}
use Rattle.yd_state.specs.State.{received_in, document_in}
use Rattle.yd_state.proofs.LentLemmas.{document_replica}
use Rattle.yd_checking.proofs.SpanCountLemmas.{ids_pass}
use Rattle.yd_checking.proofs.counts.deleted_ids.Goals as goal

pub returns : goal.returns
returns c =
    let s = c.args.state.now in
    let r = received_in s in
    let sound = c.received-received.ensures.sound in
    let own = c.deletes.ensures.own in
    let written = taken_written s.held.received.runs s.held.received.entries sound.holds.in_order in
    c.count_ids.ensures.count ∙ ap count_of_ids own
    ∙ ids_pass (held_set r.operations) (held_written r.operations written) s.deletes (subst AreMaximal own c.count_ids.ensures.maximal) (document_in s).deleted
    (subst (λ (spans : List Span). AreDeletedIn spans (document_in s)) own c.deletes.ensures.deleted)
    (deleted_are_held r (document_in s) (document_replica s sound))
