use Rattle.std.proofs.Common.{ap, ◌∙◌, sym}
use Rattle.std.specs.Prelude.{option_map}
use Rattle.yd_shown.specs.Shown.{field_before}
use Rattle.yd_value.specs.View.{shown_fields, shown_tree}
use Rattle.yd_modes.specs.Roles.{joined_fields}
use Rattle.yd_modes.proofs.MarkLemmas.{joined_last}
use Rattle.yd_modes.proofs.inserts.push_value.Goals as goal

pub returns-in_ok-push-in-Some : goal.returns-in_ok-push-in-Some
returns-in_ok-push-in-Some c = λ rest.
    ap (λ fs. joined_fields fs rest) c.in_ok-push-in-Some.ensures.appended
    ∙ joined_last (shown_fields c.args.fields.now) c.args.key (shown_tree c.in-Some.value) rest
    ∙ ap (λ v. joined_fields (shown_fields c.args.fields.now) (field_before c.args.key (option_map shown_tree v) rest)) (sym c.in-Some.is)
