use Rattle.std.proofs.Common.{◌≡◌, ◌∙◌, ◌<◌, IfSome, length, take, sym, ap, subst}
use Rattle.std.specs.Prelude.{slice_get}
use Rattle.yd_names.specs.Codes.{last_place}
use Rattle.yd_names.specs.Coding.{code_of_parent}
use Rattle.yd_names.specs.Slots.{bound_of}
use Rattle.yd_names.proofs.NamesLemmas.{begins, goes_on, goes_down}
use Rattle.yd_names.proofs.ParentsLemmas.{IsGroupOf, GroupLookedFor, no_group}
use Rattle.yd_names.proofs.parents.Parents.last_by_code.Goals as goal

pub loop-next-init : goal.loop-next-init
loop-next-init c = subst (GroupLookedFor c.args.names.now c.args.self.now.groups c.args.parent.now)
    (sym (c.last_of-next.ensures ∙ ap (λ codes. last_place c.code_of_parent.result codes) c.codes.ensures ∙ ap (λ code. last_place code c.args.self.now.groups.codes) c.code_of_parent.ensures.code))
    (begins c.args.self.now.groups.codes (IsGroupOf c.args.names.now c.args.self.now.groups c.args.parent.now) (code_of_parent c.args.parent.now) (λ n is. is.coded))

pub loop-next-smaller : goal.loop-next-smaller
loop-next-smaller c = subst (λ o. bound_of c.before-next.result < bound_of o) (sym c.in-Some.is)
    (goes_down c.args.self.now.groups.codes (IsGroupOf c.args.names.now c.args.self.now.groups c.args.parent.now) (code_of_parent c.args.parent.now) (λ n is. is.coded)
    (length c.args.self.now.groups.codes) c.in-Some.number c.before-next.result
    (subst (GroupLookedFor c.args.names.now c.args.self.now.groups c.args.parent.now) c.in-Some.is c.loop-next.invariant)
    (subst (λ codes. IfSome (slice_get codes c.in-Some.number) (λ code. c.before-next.result ≡ last_place code (take c.in-Some.number codes))) c.codes-in-Some.ensures c.before-next.ensures))

pub loop-next-preserved : goal.loop-next-preserved
loop-next-preserved c = goes_on c.args.self.now.groups.codes (IsGroupOf c.args.names.now c.args.self.now.groups c.args.parent.now) (code_of_parent c.args.parent.now) (λ n is. is.coded)
    (length c.args.self.now.groups.codes) c.in-Some.number c.before-next.result
    (subst (GroupLookedFor c.args.names.now c.args.self.now.groups c.args.parent.now) c.in-Some.is c.loop-next.invariant)
    (λ is. c.in_default-last_in_group.ensures.none is.place is.numbered is.own)
    (subst (λ codes. IfSome (slice_get codes c.in-Some.number) (λ code. c.before-next.result ≡ last_place code (take c.in-Some.number codes))) c.codes-in-Some.ensures c.before-next.ensures)

pub returns-clause-none : goal.returns-clause-none
returns-clause-none c = no_group c.args.names.now c.args.self.now.groups c.args.self.now.crowd.items c.requires c.args.parent.now
    (subst (GroupLookedFor c.args.names.now c.args.self.now.groups c.args.parent.now) c.in_default.is c.loop-next.invariant)
