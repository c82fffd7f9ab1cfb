use Rattle.std.proofs.Common.{sym, ◌∙◌, subst}
use Rattle.yd_ops.specs.View.{update_value}
use Rattle.yd_editing.specs.Refused.{refusal_of}
use Rattle.yd_making.specs.Given.{basis_in}
use Rattle.yd_making.specs.Steps.{steps_value, IsCause}
use Rattle.yd_doc.specs.Editing.{own_basis, IsPrepared}
use Rattle.yd_doc.specs.Kept.{Kept}
use Rattle.yd_doc.proofs.CauseLemmas.{cause_given, accepted_given}
use Rattle.yd_doc.proofs.replica.Replica.prepare.Goals as goal

pub returns-in-Some-clause-refused : goal.returns-in-Some-clause-refused
returns-in-Some-clause-refused c = subst (λ (r : Kept). IsCause c.in-Some.fault (refusal_of (own_basis r) (steps_value c.args.steps))) c.self.view_is
    (cause_given c.in-Some.fault (refusal_of (basis_in c.self.inside.client c.self.inside.state) (steps_value c.args.steps)) (sym c.in-Some.is ∙ c.refusal.ensures))

pub returns-clause-made : goal.returns-clause-made
returns-clause-made c =
    let r : Kept = record { client = c.self.inside.client; is_behind = c.self.inside.is_behind; state = c.self.inside.state } in
    let is : IsPrepared r (steps_value c.args.steps) (update_value c.in_ok-update.update) = record {
      accepted = accepted_given (refusal_of (own_basis r) (steps_value c.args.steps)) (sym c.in_default.is ∙ c.refusal.ensures);
      made = c.in_ok-update.ensures.made;
      valid = c.in_ok-update.ensures.valid;
    } in
    subst (λ (s : Kept). IsPrepared s (steps_value c.args.steps) (update_value c.in_ok-update.update)) c.self.view_is is
