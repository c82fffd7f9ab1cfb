use Rattle.std.proofs.Common.{sym, subst, ap, ◌∙◌}
use Rattle.yd_held.specs.Numbering.{NumbersName}
use Rattle.yd_held.proofs.CarriedLemmas.{carried_is}
use Rattle.yd_held.proofs.numbering.number_carried.Goals as goal

pub returns-clause-number : goal.returns-clause-number
returns-clause-number c =
    let entry = c.args.entry in
    subst (λ name. NumbersName name c.args.names.now c.number_named.new.names c.in_ok-number-in-Some.number)
    (sym (carried_is c.args.runs.now entry c.index-runs-entry.result c.in-Some.name
    c.requires.entry c.requires.told c.index-runs-entry.is c.requires.left c.requires.right (ap (λ run. run.list) c.index-runs-entry.is ∙ c.in-Some.is)))
    c.in_ok-number-in-Some.ensures.number
