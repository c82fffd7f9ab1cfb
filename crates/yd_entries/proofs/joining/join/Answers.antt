use Rattle.std.proofs.Common.{◌≡◌, ◌∙◌, ◌<◌, ◌+◌, ◌-◌, ◌++◌, suc, length, set, take, drop, refl, ap, arith, tests}
use Rattle.std.specs.Prelude.{remove}
use Rattle.std.proofs.lemmas.Option.{slice_get_read}
use Rattle.yd_entries.specs.Joining.{joined_entry}
use Rattle.yd_entries.proofs.JoiningLemmas.{joins_same, joins_one}
use Rattle.yd_entries.proofs.joining.join.Goals as goal

pub returns-clause-same : goal.returns-clause-same
returns-clause-same c =
    let ts = c.args.taken.now in
    let front = c.get-front.result in
    let back = c.get-back.result in
    let zs = set ts (c.args.at - 1) (joined_entry front back) in
    let next : suc c.args.at ≡ c.args.at + 1 = omega arith in
    let removed : c.remove.new.self ≡ take c.args.at zs ++ drop (c.args.at + 1) zs =
    c.remove.ensures ∙ ap (λ xs. remove xs c.args.at) c.set.ensures ∙ ap (λ k. take c.args.at zs ++ drop k zs) next in
    let some : 0 < c.args.at = grind (arith, tests, c.if-at-eq0.false) in
    joins_same c.args.runs.now.items c.move_text.new.runs.items ts c.remove.new.self c.args.at front back c.requires.taken c.requires.single some
    (slice_get_read ts (length ts) (c.args.at - 1) front refl (omega (arith, c.requires.single.inside)) c.get-front.ensures)
    (slice_get_read ts (length ts) c.args.at back refl c.requires.single.inside c.get-back.ensures)
    c.if-not-can_join.ensures.goes_on (rw c.deref.ensures.value at c.if-not-can_join.ensures.at_ends) c.if-not-move_text.ensures.moved removed

pub returns-clause-joined : goal.returns-clause-joined
returns-clause-joined c =
    let ts = c.args.taken.now in
    let front = c.get-front.result in
    let back = c.get-back.result in
    let zs = set ts (c.args.at - 1) (joined_entry front back) in
    let next : suc c.args.at ≡ c.args.at + 1 = omega arith in
    let removed : c.remove.new.self ≡ take c.args.at zs ++ drop (c.args.at + 1) zs =
    c.remove.ensures ∙ ap (λ xs. remove xs c.args.at) c.set.ensures ∙ ap (λ k. take c.args.at zs ++ drop k zs) next in
    let some : 0 < c.args.at = grind (arith, tests, c.if-at-eq0.false) in
    joins_one c.args.runs.now.items c.move_text.new.runs.items ts c.remove.new.self c.args.at front back c.requires.taken c.requires.single some
    (slice_get_read ts (length ts) (c.args.at - 1) front refl (omega (arith, c.requires.single.inside)) c.get-front.ensures)
    (slice_get_read ts (length ts) c.args.at back refl c.requires.single.inside c.get-back.ensures)
    c.if-not-can_join.ensures.goes_on (rw c.deref.ensures.value at c.if-not-can_join.ensures.at_ends) c.if-not-move_text.ensures.moved removed
