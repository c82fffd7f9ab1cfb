use Rattle.std.proofs.Common.{sym, ◌∙◌, None, Some}
use Rattle.yd_state.specs.State.{document_in}
use Rattle.yd_making.proofs.PlaceLemmas.{high_given}
use Rattle.yd_making.proofs.basis.Basis.is_high.Goals as goal

pub returns-in-None : goal.returns-in-None
returns-in-None c =
    let document = document_in c.args.self.now.state.now in
    high_given document.deleted (document.units c.args.list.now) c.args.id None (sym c.in-None.is ∙ c.find.ensures)

pub returns-in-Some : goal.returns-in-Some
returns-in-Some c =
    let document = document_in c.args.self.now.state.now in
    high_given document.deleted (document.units c.args.list.now) c.args.id (Some c.in-Some.found) (sym c.in-Some.is ∙ c.find.ensures)
