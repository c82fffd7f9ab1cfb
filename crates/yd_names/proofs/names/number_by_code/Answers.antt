use Rattle.std.proofs.Common.{◌∙◌, ◌<◌, sym, ap, length, subst}
use Rattle.yd_names.specs.Codes.{last_place}
use Rattle.yd_names.specs.Coding.{code_of_list}
use Rattle.yd_names.specs.Slots.{bound_of}
use Rattle.yd_names.proofs.NamesLemmas.{begins, goes_on, goes_down}
use Rattle.yd_names.proofs.FindingLemmas.{IsName, NameLookedFor, found_here, not_here, nowhere}
use Rattle.yd_names.proofs.names.number_by_code.Goals as goal

pub loop-next-init : goal.loop-next-init
loop-next-init c = subst (NameLookedFor c.args.names.now c.args.codes.now c.args.name.now)
    (sym (c.last_of-next.ensures ∙ ap (λ code. last_place code c.args.codes.now) c.code_of_list.ensures))
    (begins c.args.codes.now (IsName c.args.names.now c.args.codes.now c.args.name.now) (code_of_list c.args.name.now) (λ n is. is.0))

pub returns-then-is_same_list-clause-there : goal.returns-then-is_same_list-clause-there
returns-then-is_same_list-clause-there c = found_here c.args.names.now c.args.codes.now c.args.name.now c.in-Some.number c.index-names-number.result
    (subst (λ n. c.in-Some.number < n) c.requires (subst (NameLookedFor c.args.names.now c.args.codes.now c.args.name.now) c.in-Some.is c.loop-next.invariant).inside)
    c.index-names-number.is (sym c.if-is_same_list.ensures)

pub loop-next-smaller : goal.loop-next-smaller
loop-next-smaller c = subst (λ o. bound_of c.before-next.result < bound_of o) (sym c.in-Some.is)
    (goes_down c.args.codes.now (IsName c.args.names.now c.args.codes.now c.args.name.now) (code_of_list c.args.name.now) (λ n is. is.0) (length c.args.codes.now) c.in-Some.number c.before-next.result
    (subst (NameLookedFor c.args.names.now c.args.codes.now c.args.name.now) c.in-Some.is c.loop-next.invariant) c.before-next.ensures)

pub loop-next-preserved : goal.loop-next-preserved
loop-next-preserved c = goes_on c.args.codes.now (IsName c.args.names.now c.args.codes.now c.args.name.now) (code_of_list c.args.name.now) (λ n is. is.0) (length c.args.codes.now) c.in-Some.number c.before-next.result
    (subst (NameLookedFor c.args.names.now c.args.codes.now c.args.name.now) c.in-Some.is c.loop-next.invariant)
    (not_here c.args.names.now c.args.codes.now c.args.name.now c.in-Some.number c.index-names-number.result c.index-names-number.is (sym c.if-is_same_list.ensures)) c.before-next.ensures

pub returns-clause-none : goal.returns-clause-none
returns-clause-none c = nowhere c.args.names.now c.args.codes.now c.args.name.now c.requires
    (subst (NameLookedFor c.args.names.now c.args.codes.now c.args.name.now) c.in_default.is c.loop-next.invariant)
