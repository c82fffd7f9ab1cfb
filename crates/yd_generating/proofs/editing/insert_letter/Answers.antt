use Rattle.std.proofs.Common.{◌%◌, ◌+◌, sym, subst}
use Rattle.yd_ops.specs.declared.lists.List.{List as DocList}
use Rattle.yd_ops.specs.Valid.{IsParent, IsValidContent}
use Rattle.yd_ops.specs.Value.{ContentValue}
use Rattle.yd_editing.specs.Law.{IsMakeable}
use Rattle.yd_generator.proofs.EditLemmas.{letter_units, small}
use Rattle.yd_ops.specs.View.{content_value, update_value}
use Rattle.yd_generating.proofs.DrawnLemmas.{letter_made, letter_refused}
use Rattle.yd_generating.proofs.editing.insert_letter.Goals as goal

pub insert_content-requires-clause-parent : goal.insert_content-requires-clause-parent
insert_content-requires-clause-parent c = subst (λ (l : DocList). IsParent l.parent) (sym c.requires) tt

pub insert_content-requires-clause-valid : goal.insert_content-requires-clause-valid
insert_content-requires-clause-valid c = subst (λ (content : ContentValue). IsValidContent content) (sym c.in_ok-content.ensures.content) (letter_units (0x61 + c.args.z % 26) (small c.args.z))

pub insert_content-requires-clause-makeable : goal.insert_content-requires-clause-makeable
insert_content-requires-clause-makeable c = subst (λ (content : ContentValue). IsMakeable content) (sym c.in_ok-content.ensures.content) (letter_units (0x61 + c.args.z % 26) (small c.args.z))

pub returns-in-Ok-clause-done : goal.returns-in-Ok-clause-done
returns-in-Ok-clause-done c = letter_made c.args.replica.now c.insert_content.new.replica c.args.list.now c.requires c.args.index (content_value c.in_ok-content.content) c.args.z c.in_ok-content.ensures.content
    (update_value c.in-Ok._update) c.in-Ok.ensures.done

pub returns-in-Err-clause-refused : goal.returns-in-Err-clause-refused
returns-in-Err-clause-refused c = letter_refused c.args.replica.now c.args.list.now c.requires c.args.index (content_value c.in_ok-content.content) c.args.z c.in_ok-content.ensures.content
    c.in-Err.fault c.in-Err.ensures.refused
