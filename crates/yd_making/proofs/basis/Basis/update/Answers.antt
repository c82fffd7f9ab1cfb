use Rattle.std.proofs.Common.{[], map, sym, ap, ◌∙◌, subst}
use Rattle.yd_ids.specs.Set.{AreMaximal}
use Rattle.yd_ops.specs.Valid.{IsValidUpdate}
use Rattle.yd_ops.specs.View.{struct_value, block_value}
use Rattle.yd_editing.specs.Made.{removed_by}
use Rattle.yd_making.specs.Given.{basis_of_given}
use Rattle.yd_making.specs.Rights.{rights_from, runs_with}
use Rattle.yd_making.specs.Steps.{steps_value}
use Rattle.yd_making.proofs.StructLemmas.{items_of}
use Rattle.yd_making.proofs.UpdateLemmas.{made_update, made_valid}
use Rattle.yd_making.proofs.basis.Basis.update.Goals as goal

pub returns-clause-made : goal.returns-clause-made
returns-clause-made c =
    let client = c.args.self.now.client in
    let clock = c.next_clock-clock.result in
    let units = (basis_of_given c.args.self.now).document.units in
    made_update client c.args.self.now.state.now c.received-received.ensures.sound (steps_value c.args.steps) c.requires.proper c.requires.accepted
    clock c.in_ok-rights.rights.items (map struct_value c.in_ok-structs.structs) (map block_value c.in_ok-blocks.blocks) c.in_ok-deletes.deletes
    c.next_clock-clock.ensures.clock
    (c.in_ok-rights.ensures ∙ ap (λ xs. rights_from client clock units [] (steps_value xs)) c.as_slice.ensures)
    (c.in_ok-structs.ensures ∙ ap (λ xs. items_of (runs_with client clock c.in_ok-rights.rights.items (steps_value xs))) c.steps.view_is)
    c.in_ok-blocks.ensures
    (c.in_ok-deletes.ensures ∙ ap (λ xs. removed_by (steps_value xs)) c.as_slice-2.ensures)

pub returns-clause-valid : goal.returns-clause-valid
returns-clause-valid c = subst IsValidUpdate (sym (returns-clause-made c)) (made_valid c.args.self.now.client c.args.self.now.state.now c.received-received.ensures.sound
    (steps_value c.args.steps) c.requires.proper c.requires.accepted c.requires.client
    (subst AreMaximal (c.deletes.view_is ∙ c.in_ok-deletes.ensures ∙ ap (λ xs. removed_by (steps_value xs)) c.as_slice-2.ensures) c.deletes.invariant))
