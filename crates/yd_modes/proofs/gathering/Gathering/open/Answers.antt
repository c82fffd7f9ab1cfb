use Rattle.std.proofs.Common.{sym, ap, ◌∙◌}
use Rattle.yd_any.specs.Same.{same_fields}
use Rattle.yd_any.proofs.SameLemmas.{fields_is}
use Rattle.yd_modes.specs.Marks.{marks_fields}
use Rattle.yd_modes.proofs.GatheringLemmas.{opened}
use Rattle.yd_modes.proofs.gathering.Gathering.open.Goals as goal

pub returns-then-are_same-clause-open : goal.returns-then-are_same-clause-open
returns-then-are_same-clause-open c =
    let asked = c.are_same.ensures ∙ ap (λ ms. same_fields (marks_fields ms) (marks_fields c.deref-2.result.now)) c.deref.ensures.value
    ∙ ap (λ ms. same_fields (marks_fields c.args.self.now.under.items) (marks_fields ms)) c.deref-2.ensures.value in
    fields_is (marks_fields c.args.self.now.under.items) (marks_fields c.args.self.now.marks.items) (sym asked ∙ c.if-are_same.true)

pub returns-clause-pieces : goal.returns-clause-pieces
returns-clause-pieces c = λ way show id unit us.
    let asked = c.are_same.ensures ∙ ap (λ ms. same_fields (marks_fields ms) (marks_fields c.deref-2.result.now)) c.deref.ensures.value
    ∙ ap (λ ms. same_fields (marks_fields c.args.self.now.under.items) (marks_fields ms)) c.deref-2.ensures.value in
    opened way show c.args.self.now c.close.new.self (marks_fields c.in_ok-self.field-0.items) id unit us c.in_ok-close.ensures c.requires (sym asked ∙ c.if-are_same.false)
