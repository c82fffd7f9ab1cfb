use Rattle.std.proofs.Common.{List, [], ◌∷◌, ◌++◌, ap, ◌∙◌, subst}
use Rattle.yd_ops.specs.View.{content_value}
use Rattle.yd_editing.specs.Refused.{refusal_of}
use Rattle.yd_making.specs.declared.step.Step.{Step as StepGiven}
use Rattle.yd_making.specs.declared.step.Step.TheVariants.{Make, Remove}
use Rattle.yd_making.specs.Steps.{steps_value, IsCause}
use Rattle.yd_doc.specs.Editing.{own_basis}
use Rattle.yd_doc.specs.Kept.{own_document}
use Rattle.yd_text.proofs.StepLemmas.{set_steps_are}
use Rattle.yd_text.proofs.maps.map_set.Goals as goal

pub returns-in-Err-clause-refused : goal.returns-in-Err-clause-refused
returns-in-Err-clause-refused c =
    subst (λ steps. IsCause c.in-Err.fault (refusal_of (own_basis c.args.replica.now) steps))
    (ap steps_value (c.in_ok-push-2.ensures.appended ∙ ap (λ (xs : List StepGiven). xs ++ (Remove c.in_ok-ids.ids ∷ []))
    (c.in_ok-push.ensures.appended ∙ ap (λ (xs : List StepGiven). xs ++ (Make c.in_ok-list.list c.id_of.result c.args.content ∷ [])) c.new-steps.ensures))
    ∙ set_steps_are (own_document c.args.replica.now) c.args.parent.now c.args.key.now (content_value c.args.content) c.last_in-last.result c.in_ok-list.list
    c.id_of.result c.live_id.result c.in_ok-ids.ids c.in_ok-list.ensures.list c.last_in-last.ensures.last c.id_of.ensures.id c.live_id.ensures.id c.in_ok-ids.ensures)
    c.in-Err.ensures.refused
