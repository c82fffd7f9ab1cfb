use Rattle.std.proofs.Common.{◌≡◌, ◌∙◌, length, ap, subst}
use Rattle.yd_editing.specs.TextEdit.{counted_units}
use Rattle.yd_state.specs.State.{document_in}
use Rattle.yd_doc.specs.Kept.{Kept, own_document}
use Rattle.yd_doc.proofs.CountedLemmas.{counted_live}
use Rattle.yd_doc.proofs.replica.Replica.length.Goals as goal

pub returns : goal.returns
returns c =
    let document = document_in c.self.inside.state in
    subst (λ (r : Kept). c.length.result ≡ length (counted_units (own_document r) c.args.list.now)) c.self.view_is
    (c.length.ensures ∙ ap length (counted_live document.deleted (document.units c.args.list.now)))
