use Rattle.std.proofs.Common.{map, ap, sym, subst, ◌∙◌}
use Rattle.yd_ops.specs.Operation.{Operation}
use Rattle.yd_kept.specs.Marking.{DeletesEach}
use Rattle.yd_kept.proofs.MarkingLemmas.{parting_and_marking_deletes}
use Rattle.yd_received.specs.Received.{held_of}
use Rattle.yd_state.specs.Settling.{grown_to, DeletesOn, MarksOn}
use Rattle.yd_state.proofs.CameLemmas.{written}
use Rattle.yd_state.proofs.GrowingLemmas.{lists_grow}
use Rattle.yd_state.proofs.MarkingLemmas.{marked_keeps, marked_units, marks_on, marks_told}
use Rattle.yd_state.proofs.SettlingLemmas.{deletes_on, own_still}
use Rattle.yd_state.proofs.TellingLemmas.{can_placed, leaves_marked, told_ids}
use Rattle.yd_state.proofs.UndoingLemmas.{still_out, still_undone}
use Rattle.yd_state.proofs.settling.settle_on.Goals as goal

pub parted_then-requires-clause-less : goal.parted_then-requires-clause-less
parted_then-requires-clause-less c = can_placed c.args.held.now c.received.ensures.holds c.args.told.now c.args.kept.now c.place.new.kept c.in_ok-place.ensures.placed c.requires.less

pub parted_then-requires-clause-store : goal.parted_then-requires-clause-store
parted_then-requires-clause-store c = record { lists = c.store.ensures.lists; told = c.store.ensures.told }

pub parted_then-requires-clause-came : goal.parted_then-requires-clause-came
parted_then-requires-clause-came c = c.in_ok-place.ensures.out.can

pub put_out-requires : goal.put_out-requires
put_out-requires c = still_out c.args.held.now c.args.order.now c.place.new.kept c.parted_then.new.kept c.parted_then.ensures.kept c.parted_then.ensures.names
    c.parted_then.ensures.count c.in_ok-place.ensures.out.can

pub tell-requires-clause-ids : goal.tell-requires-clause-ids
tell-requires-clause-ids c =
    let each : DeletesEach c.place.new.kept c.mark_each.new.self c.in-Ok.field-0.fallen.besides =
    parting_and_marking_deletes c.place.new.kept c.parted_then.new.kept c.mark_each.new.self c.in-Ok.field-0.fallen.besides c.parted_then.ensures.kept
    c.parted_then.ensures.names c.parted_then.ensures.count c.mark_each.ensures in
    marked_keeps (held_of c.args.held.now.received) (written c.args.held.now c.received.ensures.holds c.place.new.kept c.in_ok-place.ensures.ids)
    c.place.new.kept c.mark_each.new.self c.in_ok-place.ensures.ids c.in-Ok.field-0.fallen.besides each

pub tell-requires-clause-less : goal.tell-requires-clause-less
tell-requires-clause-less c = leaves_marked c.args.held.now c.in-Ok.field-0.less.items c.parted_then.new.kept.store c.mark_each.new.self.store c.in-Ok.field-0.fallen.besides
    c.mark_each.ensures.units c.in-Ok.ensures.less

pub returns-in-Ok-clause-store : goal.returns-in-Ok-clause-store
returns-in-Ok-clause-store c = record { lists = c.store-in-Ok-2.ensures.lists; told = c.store-in-Ok-2.ensures.told }

pub returns-in-Ok-clause-deletes : goal.returns-in-Ok-clause-deletes
returns-in-Ok-clause-deletes c =
    let each : DeletesEach c.place.new.kept c.mark_each.new.self c.in-Ok.field-0.fallen.besides =
    parting_and_marking_deletes c.place.new.kept c.parted_then.new.kept c.mark_each.new.self c.in-Ok.field-0.fallen.besides c.parted_then.ensures.kept
    c.parted_then.ensures.names c.parted_then.ensures.count c.mark_each.ensures in
    let w = written c.args.held.now c.received.ensures.holds c.place.new.kept c.in_ok-place.ensures.ids in
    let ids = marked_keeps (held_of c.args.held.now.received) w c.place.new.kept c.mark_each.new.self c.in_ok-place.ensures.ids c.in-Ok.field-0.fallen.besides each in
    subst (DeletesOn c.args.held.now c.args.deletes.now c.args.waiting.now c.args.more.now c.args.kept.now c.tell.new.kept) (sym (c.put.ensures ∙ ap (λ deleted. grown_to deleted c.in-Ok.field-0.fallen.grown) c.parted_then.ensures.as_it_was))
    (own_still c.args.held.now c.args.kept.now c.place.new.kept c.tell.new.kept
    (λ list. told_ids (held_of c.args.held.now.received) c.mark_each.new.self c.tell.new.kept c.tell.ensures.less ids
    (record { lists = c.store-in-Ok.ensures.lists; told = c.store-in-Ok.ensures.told })
    (record { lists = c.store-in-Ok-2.ensures.lists; told = c.store-in-Ok-2.ensures.told }) list
    ∙ ap (map (λ (o : Operation). o.id)) (marked_units (held_of c.args.held.now.received) w c.place.new.kept c.mark_each.new.self c.in_ok-place.ensures.ids c.in-Ok.field-0.fallen.besides each list))
    c.args.deletes.now c.args.waiting.now c.args.more.now _
    (deletes_on c.args.held.now c.received.ensures.holds c.args.kept.now c.place.new.kept c.args.order.now c.requires.placed c.in_ok-place.ensures.placed
    c.in_ok-place.ensures.ids (record { lists = c.store.ensures.lists; told = c.store.ensures.told })
    c.args.deletes.now c.args.waiting.now c.args.more.now c.in-Ok.field-0.fallen.besides _ c.in-Ok.ensures.deletes))

pub returns-in-Ok-clause-marks : goal.returns-in-Ok-clause-marks
returns-in-Ok-clause-marks c =
    let each : DeletesEach c.place.new.kept c.mark_each.new.self c.in-Ok.field-0.fallen.besides =
    parting_and_marking_deletes c.place.new.kept c.parted_then.new.kept c.mark_each.new.self c.in-Ok.field-0.fallen.besides c.parted_then.ensures.kept
    c.parted_then.ensures.names c.parted_then.ensures.count c.mark_each.ensures in
    subst (MarksOn c.args.held.now c.args.kept.now c.tell.new.kept c.args.deletes.now) (sym (c.put.ensures ∙ ap (λ deleted. grown_to deleted c.in-Ok.field-0.fallen.grown) c.parted_then.ensures.as_it_was))
    (marks_told c.args.held.now c.args.kept.now c.mark_each.new.self c.tell.new.kept c.args.deletes.now _ c.tell.ensures.less
    (marks_on c.args.held.now c.args.kept.now c.place.new.kept c.mark_each.new.self c.in_ok-place.ensures.placed c.args.deletes.now c.in-Ok.field-0.fallen.besides _
    each c.in-Ok.ensures.deletes.grown))

pub returns-in-Err-clause-unchanged : goal.returns-in-Err-clause-unchanged
returns-in-Err-clause-unchanged c =
    (still_undone c.args.held.now c.args.order.now c.place.new.kept c.parted_then.new.kept c.parted_then.ensures.kept c.parted_then.ensures.names
    c.parted_then.ensures.count c.args.kept.now c.in_ok-place.ensures.out).undone c.put_out.new.kept c.put_out.ensures.sound c.put_out.ensures.taken

pub returns-in-Ok-clause-grows : goal.returns-in-Ok-clause-grows
returns-in-Ok-clause-grows c =
    let each : DeletesEach c.place.new.kept c.mark_each.new.self c.in-Ok.field-0.fallen.besides =
    parting_and_marking_deletes c.place.new.kept c.parted_then.new.kept c.mark_each.new.self c.in-Ok.field-0.fallen.besides c.parted_then.ensures.kept
    c.parted_then.ensures.names c.parted_then.ensures.count c.mark_each.ensures in
    let w = written c.args.held.now c.received.ensures.holds c.place.new.kept c.in_ok-place.ensures.ids in
    let ids = marked_keeps (held_of c.args.held.now.received) w c.place.new.kept c.mark_each.new.self c.in_ok-place.ensures.ids c.in-Ok.field-0.fallen.besides each in
    lists_grow c.args.held.now c.args.kept.now c.place.new.kept c.tell.new.kept c.requires.placed.filled c.in_ok-place.ensures.placed.further
    (record { lists = c.store.ensures.lists; told = c.store.ensures.told })
    (λ list. told_ids (held_of c.args.held.now.received) c.mark_each.new.self c.tell.new.kept c.tell.ensures.less ids
    (record { lists = c.store-in-Ok.ensures.lists; told = c.store-in-Ok.ensures.told })
    (record { lists = c.store-in-Ok-2.ensures.lists; told = c.store-in-Ok-2.ensures.told }) list
    ∙ ap (map (λ (o : Operation). o.id)) (marked_units (held_of c.args.held.now.received) w c.place.new.kept c.mark_each.new.self c.in_ok-place.ensures.ids c.in-Ok.field-0.fallen.besides each list))
