use Rattle.std.proofs.Common.{◌∙◌, ◌++◌, ◌∷◌, [], sym, ap, subst}
use Rattle.yd_names.specs.Groups.{KeepsGroups}
use Rattle.yd_names.proofs.GroupsLemmas.{one_group}
use Rattle.yd_names.proofs.groups.open.Goals as goal

pub returns-clause-kept : goal.returns-clause-kept
returns-clause-kept c = subst (λ cs. KeepsGroups c.args.codes.now cs c.args.heads.now.items c.push_reserved.new.self.items) (sym c.in_ok-push.ensures.pushed)
    (subst (λ hs. KeepsGroups c.args.codes.now (c.args.codes.now ++ c.args.code ∷ []) c.args.heads.now.items hs)
    (sym (c.push_reserved.ensures.items ∙ ap (λ hs. hs ++ 0 ∷ []) c.reserve.ensures.items))
    (one_group c.args.codes.now c.args.heads.now.items c.args.code))
