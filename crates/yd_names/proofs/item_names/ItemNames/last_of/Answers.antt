use Rattle.std.proofs.Common.{IfSome, sym, subst}
use Rattle.yd_names.specs.Names.{IsOf, IsLastOf, top_of}
use Rattle.yd_names.proofs.ParentsLemmas.{is_last_before}
use Rattle.yd_names.proofs.item_names.ItemNames.last_of.Goals as goal

pub returns-in-Some : goal.returns-in-Some
returns-in-Some c = subst (λ before. IsLastOf c.args.self.now c.args.parent.now (top_of c.args.self.now before) c.before-in-Some.result) (sym c.in-Some.is)
    (subst (λ names. IsLastOf names c.args.parent.now c.in-Some.number c.before-in-Some.result) c.self.view_is
    (is_last_before c.self.inside.names c.self.inside.parents.groups c.self.inside.parents.crowd.items c.self.invariant.2 c.args.parent.now c.in-Some.number c.before-in-Some.result
    (subst (λ names. IsOf names c.args.parent.now c.in-Some.number) (sym c.self.view_is)
    (subst (λ before. IfSome before (λ n. IsOf c.args.self.now c.args.parent.now n)) c.in-Some.is c.requires))
    c.before-in-Some.ensures))
