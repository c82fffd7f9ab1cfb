use Rattle.std.proofs.Common.{◌∙◌, ◌++◌, ap}
use Rattle.std.specs.Option.{option_to_list}
use Rattle.yd_store.proofs.JoiningLemmas.{told_joined, told_kept}
use Rattle.yd_store.proofs.joining.join_told.Goals as goal

pub returns-in-Ok-true-clause-joined : goal.returns-in-Ok-true-clause-joined
returns-in-Ok-true-clause-joined c = λ _.
    told_joined c.args.runs.now.items c.pop.new.self.items c.in-Some.next c.index_mut.result.now c.args.place
    (c.pop.ensures.items ∙ ap (λ o. c.pop.new.self.items ++ option_to_list o) c.in-Some.is) c.requires c.index_mut.ensures.value c.join_slots.new.slot (c.in-Ok-true.ensures.joined c.in-Ok-true.field-0-test)

pub returns-in-Ok-false-clause-kept : goal.returns-in-Ok-false-clause-kept
returns-in-Ok-false-clause-kept c = λ _.
    told_kept c.args.runs.now.items c.pop.new.self.items c.in-Some.next c.index_mut.result.now c.args.place
    (c.pop.ensures.items ∙ ap (λ o. c.pop.new.self.items ++ option_to_list o) c.in-Some.is) c.requires c.index_mut.ensures.value c.join_slots.new.slot
    c.push_told.new.runs.items (c.in-Ok-false.ensures.kept c.in-Ok-false.field-0-test) c.push_told.ensures.items

pub returns-in-Err-clause-unchanged : goal.returns-in-Err-clause-unchanged
returns-in-Err-clause-unchanged c =
    told_kept c.args.runs.now.items c.pop.new.self.items c.in-Some.next c.index_mut.result.now c.args.place
    (c.pop.ensures.items ∙ ap (λ o. c.pop.new.self.items ++ option_to_list o) c.in-Some.is) c.requires c.index_mut.ensures.value c.join_slots.new.slot
    c.push_told-in-Err.new.runs.items c.in-Err.ensures.unchanged c.push_told-in-Err.ensures.items
