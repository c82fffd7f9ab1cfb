use Rattle.std.proofs.Common.{sym, ◌∙◌, None, Some}
use Rattle.yd_state.specs.State.{document_in}
use Rattle.yd_making.proofs.PlaceLemmas.{next_given, front_given}
use Rattle.yd_making.proofs.basis.Basis.behind.Goals as goal

pub returns-in-None : goal.returns-in-None
returns-in-None c =
    let document = document_in c.args.self.now.state.now in
    front_given document.deleted (document.units c.args.list.now) c.args.after c.first_of.result c.in-None.is c.first_of.ensures

pub returns-in-None-find : goal.returns-in-None-find
returns-in-None-find c =
    let document = document_in c.args.self.now.state.now in
    next_given document.deleted (document.units c.args.list.now) c.in-Some.id c.args.after c.in-Some.is None (sym c.in-None-find.is ∙ c.find.ensures)

pub returns-in-Some-find : goal.returns-in-Some-find
returns-in-Some-find c =
    let document = document_in c.args.self.now.state.now in
    next_given document.deleted (document.units c.args.list.now) c.in-Some.id c.args.after c.in-Some.is (Some c.in-Some-find.found) (sym c.in-Some-find.is ∙ c.find.ensures)
