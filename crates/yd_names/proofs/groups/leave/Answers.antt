use Rattle.std.proofs.Common.{◌∙◌, subst, sym, arith}
use Rattle.yd_names.specs.Groups.{KeepsGroups}
use Rattle.yd_names.proofs.GroupsLemmas.{left_group}
use Rattle.yd_names.proofs.groups.leave.Goals as goal

pub returns-then-index-eq0 : goal.returns-then-index-eq0
returns-then-index-eq0 c = subst (λ cs. KeepsGroups c.args.codes.now cs c.args.heads.now.items c.pop.new.self.items) (sym c.pop-then-index-eq0.ensures)
    (left_group c.args.codes.now c.args.heads.now.items c.pop.new.self.items c.args.number c.index.result.now c.pop.result c.requires
    (c.if-number-len.true ∙ c.len.ensures ∙ c.args.heads.now.ok.0) c.index.ensures c.if-index-eq0.true c.pop.ensures.items
    (c.pop.ensures.variant.1 (omega (arith, c.requires, c.args.heads.now.ok.0))))
