use Rattle.std.proofs.Common.{sym, ◌∙◌}
use Rattle.yd_state.specs.State.{document_in}
use Rattle.yd_making.proofs.PlaceLemmas.{absent_given, present_given}
use Rattle.yd_making.proofs.basis.Basis.after_fault.Goals as goal

pub returns-in-None-find : goal.returns-in-None-find
returns-in-None-find c =
    let document = document_in c.args.self.now.state.now in
    absent_given document.deleted (document.units c.args.list.now) c.in-Some.id c.args.after c.in-Some.is (sym c.in-None-find.is ∙ c.find.ensures)

pub returns-in-Some-find : goal.returns-in-Some-find
returns-in-Some-find c =
    let document = document_in c.args.self.now.state.now in
    present_given document.deleted (document.units c.args.list.now) c.in-Some.id c.args.after c.in-Some.is c.in-Some-find.field-0 (sym c.in-Some-find.is ∙ c.find.ensures)
