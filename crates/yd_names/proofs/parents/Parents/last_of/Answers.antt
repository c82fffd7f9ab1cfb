use Rattle.std.proofs.Common.{ℕ, subst}
use Rattle.yd_names.specs.Crowds.{IsTied}
use Rattle.yd_names.specs.Order.{list_of, own_cmp}
use Rattle.yd_names.proofs.ParentsLemmas.{is_last_of_all, tied_is, has_no_list}
use Rattle.yd_names.proofs.parents.Parents.last_of.Goals as goal

pub returns-in-Some-number_in_crowd : goal.returns-in-Some-number_in_crowd
returns-in-Some-number_in_crowd c = is_last_of_all c.args.names.now c.args.self.now.groups c.args.self.now.crowd.items c.requires c.args.parent.now c.number_of.result c.last_of.result
    c.in-Some-number_in_crowd.first
    (tied_is c.args.names.now c.args.self.now.groups c.args.self.now.crowd.items c.requires c.args.parent.now c.in-Some-number_in_crowd.first
    (subst (λ crowd. IsTied own_cmp c.args.names.now crowd (list_of c.args.parent.now) c.in-Some-number_in_crowd.first) c.deref.ensures.value c.in-Some-number_in_crowd.ensures.there))
    c.number_of.ensures.number c.last_of.ensures

pub returns-in-None : goal.returns-in-None
returns-in-None c = has_no_list c.args.names.now c.args.self.now.groups c.args.self.now.crowd.items c.requires c.args.parent.now c.in_default.ensures.none
    (subst (λ crowd. (n : ℕ) → IsTied own_cmp c.args.names.now crowd (list_of c.args.parent.now) n → ⊥) c.deref.ensures.value c.in-None.ensures.none)
