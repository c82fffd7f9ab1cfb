use Rattle.std.proofs.Common.{subst, sym}
use Rattle.yd_meaning.specs.Document.{AreDeletedIn}
use Rattle.yd_listing.proofs.LawLemmas.{has_named, named_has}
use Rattle.yd_state.specs.State.{document_in}
use Rattle.yd_state.proofs.state.State.deletes.Goals as goal

pub returns-clause-deleted : goal.returns-clause-deleted
returns-clause-deleted c = subst (λ deleted. AreDeletedIn deleted (document_in c.args.self.now)) (sym c.ids.ensures) (subst (λ s. AreDeletedIn c.self.inside.sets.deletes (document_in s)) c.self.view_is
    (λ x. (has_named c.self.inside.sets.deletes x, named_has c.self.inside.sets.deletes x)))
