use Rattle.std.proofs.Common.{◌≡◌, ◌∙◌, Some, None, is_some, ap, sym}
use Rattle.std.specs.Prelude.{slice_get}
use Rattle.yd_state.specs.State.{document_in}
use Rattle.yd_checking.proofs.ListCountLemmas.{last_used}
use Rattle.yd_checking.proofs.lists.has_units.Goals as goal

pub returns-in-Some : goal.returns-in-Some
returns-in-Some c =
    let s = c.args.state.now in
    let there : slice_get s.held.names c.args.n ≡ Some c.in-Some.name.now = ap (λ names. slice_get names c.args.n) (sym c.names.ensures.names) ∙ c.in-Some.ensures.found in
    rw there (c.is_some.ensures ∙ ap is_some c.last_of.ensures ∙ last_used (document_in s) c.in-Some.name.now)

pub returns-in-None : goal.returns-in-None
returns-in-None c =
    let none : slice_get c.args.state.now.held.names c.args.n ≡ None = ap (λ names. slice_get names c.args.n) (sym c.names.ensures.names) ∙ c.in-None.ensures.none in
    rw none tt
