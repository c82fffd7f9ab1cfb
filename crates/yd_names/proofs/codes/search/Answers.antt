use Rattle.std.proofs.Common.{◌∙◌, ◌<◌, Some, None, sym, ap, length, map, subst, arith}
use Rattle.std.proofs.lemmas.Grind.{common_steps}
use Rattle.std.proofs.lemmas.Option.{slice_get-get_or, get_or_from_slice_get}
use Rattle.yd_names.specs.Slots.{bound_of, slot_of}
use Rattle.yd_names.proofs.NamesLemmas.{goes_on, goes_down}
use Rattle.yd_names.proofs.SearchLemmas.{IsPlaceOf, IsSearching, slot_there, search_begins, search_ends, place_inside, next_is}
use Rattle.yd_names.proofs.codes.search.Goals as goal

pub loop-next-init : goal.loop-next-init
loop-next-init c = search_begins c.args.codes.now c.args.before.now c.args.code c.args.from c.place_of-next.result c.place_of-next.ensures

pub bounds-codes-place : goal.bounds-codes-place
bounds-codes-place c = place_inside c.args.codes.now c.args.before.now c.args.code c.args.from c.requires c.in-Some.place
    (subst (IsSearching c.args.codes.now c.args.before.now c.args.code c.args.from) c.in-Some.is c.loop-next.invariant)

pub offset_bounds-codes-place : goal.offset_bounds-codes-place
offset_bounds-codes-place c =
    let lt : c.in-Some.place < length c.args.codes.now = place_inside c.args.codes.now c.args.before.now c.args.code c.args.from c.requires c.in-Some.place
    (subst (IsSearching c.args.codes.now c.args.before.now c.args.code c.args.from) c.in-Some.is c.loop-next.invariant) in
    grind (arith, common_steps)

pub bounds-before-place : goal.bounds-before-place
bounds-before-place c = subst (λ n. c.in-Some.place < n) (sym c.requires.each)
    (place_inside c.args.codes.now c.args.before.now c.args.code c.args.from c.requires c.in-Some.place
    (subst (IsSearching c.args.codes.now c.args.before.now c.args.code c.args.from) c.in-Some.is c.loop-next.invariant))

pub offset_bounds-before-place : goal.offset_bounds-before-place
offset_bounds-before-place c =
    let lt : c.in-Some.place < length c.args.codes.now = place_inside c.args.codes.now c.args.before.now c.args.code c.args.from c.requires c.in-Some.place
    (subst (IsSearching c.args.codes.now c.args.before.now c.args.code c.args.from) c.in-Some.is c.loop-next.invariant) in
    grind (arith, common_steps)

pub returns-then-codes-place : goal.returns-then-codes-place
returns-then-codes-place c = λ it. search_ends c.args.codes.now c.args.before.now c.args.code c.args.from it (Some c.in-Some.place)
    (subst (IsSearching c.args.codes.now c.args.before.now c.args.code c.args.from) c.in-Some.is c.loop-next.invariant it)
    (slice_get-get_or c.args.codes.now c.in-Some.place 0 (place_inside c.args.codes.now c.args.before.now c.args.code c.args.from c.requires c.in-Some.place
    (subst (IsSearching c.args.codes.now c.args.before.now c.args.code c.args.from) c.in-Some.is c.loop-next.invariant)) ∙ ap (λ n. Some n) c.if-codes-place.true)

pub loop-next-smaller : goal.loop-next-smaller
loop-next-smaller c = subst (λ o. bound_of c.place_of-next-in-Some.result < bound_of o) (sym c.in-Some.is)
    (goes_down (map (slot_of c.requires.size) c.args.codes.now) (IsPlaceOf c.args.codes.now c.args.code) (slot_of c.requires.size c.args.code)
    (slot_there c.args.codes.now c.requires.size c.args.code) c.requires.top c.in-Some.place
    c.place_of-next-in-Some.result (subst (IsSearching c.args.codes.now c.args.before.now c.args.code c.args.from) c.in-Some.is c.loop-next.invariant c.requires)
    (next_is c.args.codes.now c.args.before.now c.args.code c.args.from c.requires c.in-Some.place _ c.place_of-next-in-Some.result
    (slice_get-get_or c.args.before.now c.in-Some.place 0 (subst (λ n. c.in-Some.place < n) (sym c.requires.each)
    (place_inside c.args.codes.now c.args.before.now c.args.code c.args.from c.requires c.in-Some.place
    (subst (IsSearching c.args.codes.now c.args.before.now c.args.code c.args.from) c.in-Some.is c.loop-next.invariant)))) c.place_of-next-in-Some.ensures))

pub loop-next-preserved : goal.loop-next-preserved
loop-next-preserved c = λ it. goes_on (map (slot_of it.size) c.args.codes.now) (IsPlaceOf c.args.codes.now c.args.code) (slot_of it.size c.args.code)
    (slot_there c.args.codes.now it.size c.args.code) it.top c.in-Some.place
    c.place_of-next-in-Some.result (subst (IsSearching c.args.codes.now c.args.before.now c.args.code c.args.from) c.in-Some.is c.loop-next.invariant it)
    (λ e. c.if-codes-place.false (get_or_from_slice_get c.args.codes.now c.in-Some.place c.args.code 0 e))
    (next_is c.args.codes.now c.args.before.now c.args.code c.args.from it c.in-Some.place _ c.place_of-next-in-Some.result
    (slice_get-get_or c.args.before.now c.in-Some.place 0 (subst (λ n. c.in-Some.place < n) (sym c.requires.each)
    (place_inside c.args.codes.now c.args.before.now c.args.code c.args.from c.requires c.in-Some.place
    (subst (IsSearching c.args.codes.now c.args.before.now c.args.code c.args.from) c.in-Some.is c.loop-next.invariant)))) c.place_of-next-in-Some.ensures)

pub returns : goal.returns
returns c = λ it. search_ends c.args.codes.now c.args.before.now c.args.code c.args.from it None
    (subst (IsSearching c.args.codes.now c.args.before.now c.args.code c.args.from) c.in_default.is c.loop-next.invariant it) cc
