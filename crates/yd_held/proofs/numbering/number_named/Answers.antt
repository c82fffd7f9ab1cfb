use Rattle.std.proofs.Common.{sym, subst, length}
use Rattle.yd_held.specs.Numbering.{NumbersName}
use Rattle.yd_held.proofs.NamingLemmas.{numbers_old, numbers_new}
use Rattle.yd_held.proofs.numbering.number_named.Goals as goal

pub returns-in-Some-clause-number : goal.returns-in-Some-clause-number
returns-in-Some-clause-number c = numbers_old c.args.name.now c.args.names.now c.in-Some.number c.in-Some.ensures.there

pub returns-clause-number : goal.returns-clause-number
returns-clause-number c =
    subst (λ n. NumbersName c.args.name.now c.args.names.now c.push.new.self n) (sym c.len-number.ensures)
    (subst (λ lists. NumbersName c.args.name.now c.args.names.now lists (length c.args.names.now)) (sym c.in_ok-push.ensures.pushed)
    (numbers_new c.args.name.now c.args.names.now c.in_ok-copy.field-0 c.in_ok-copy.ensures c.in_default.ensures.none))
