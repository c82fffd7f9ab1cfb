use Rattle.std.proofs.Common.{◌<◌, Some, None, refl, sym, subst}
use Rattle.yd_ids.specs.declared.id.Id.{Id}
use Rattle.yd_ids.specs.declared.id.Span.{Span}
use Rattle.yd_names.specs.Items.{IsFirstItem, IsFirstClock, IsKnown}
use Rattle.yd_names.proofs.ItemsLemmas.{looking_begins, looking_ends, looking_finds, looking_goes_on, looking_smaller}
use Rattle.yd_names.proofs.item_names.ItemNames.first_item.Goals as goal

pub loop-clock-init : goal.loop-clock-init
loop-clock-init c = looking_begins c.self.inside.names c.args.span c.requires

pub first_clock-requires-clause-span : goal.first_clock-requires-clause-span
first_clock-requires-clause-span c = c.loop-clock.invariant.is_span

pub span_behind-rest-requires-clause-is_span : goal.span_behind-rest-requires-clause-is_span
span_behind-rest-requires-clause-is_span c = c.loop-clock.invariant.is_span

pub span_behind-rest-requires-clause-inside : goal.span_behind-rest-requires-clause-inside
span_behind-rest-requires-clause-inside c = (subst (IsFirstClock (IsKnown c.self.inside.items.rising.items c.self.inside.items.others) c.loop-clock.rest) c.in-Some.is c.first_clock.ensures).1

pub returns-then-has_list : goal.returns-then-has_list
returns-then-has_list c =
    let item : Id = record { client = c.loop-clock.rest.client; clock = c.in-Some.clock } in
    subst (λ names. IsFirstItem names c.args.span (Some item)) c.self.view_is
    (looking_finds c.self.inside.names (IsKnown c.self.inside.items.rising.items c.self.inside.items.others) c.self.invariant.0 c.args.span c.loop-clock.rest c.loop-clock.invariant item refl
    (subst (IsFirstClock (IsKnown c.self.inside.items.rising.items c.self.inside.items.others) c.loop-clock.rest) c.in-Some.is c.first_clock.ensures)
    (rw (← c.self.view_is) at c.has_list.ensures.here c.if-has_list.true))

pub loop-clock-preserved : goal.loop-clock-preserved
loop-clock-preserved c = looking_goes_on c.self.inside.names (IsKnown c.self.inside.items.rising.items c.self.inside.items.others) c.self.invariant.0 c.args.span c.loop-clock.rest c.loop-clock.invariant
    c.in-Some.clock c.span_behind-rest.result (subst (IsFirstClock (IsKnown c.self.inside.items.rising.items c.self.inside.items.others) c.loop-clock.rest) c.in-Some.is c.first_clock.ensures)
    (rw (← c.self.view_is) at c.has_list.ensures.other c.if-has_list.false) c.span_behind-rest.ensures

pub loop-clock-smaller : goal.loop-clock-smaller
loop-clock-smaller c = let first = subst (IsFirstClock (IsKnown c.self.inside.items.rising.items c.self.inside.items.others) c.loop-clock.rest) c.in-Some.is c.first_clock.ensures in
    subst (λ (s : Span). s.len < c.loop-clock.rest.len) (sym c.span_behind-rest.ensures) (looking_smaller c.loop-clock.rest c.in-Some.clock first.0 first.1)

pub returns : goal.returns
returns c = subst (λ names. IsFirstItem names c.args.span None) c.self.view_is
    (looking_ends c.self.inside.names (IsKnown c.self.inside.items.rising.items c.self.inside.items.others) c.self.invariant.0 c.args.span c.loop-clock.rest c.loop-clock.invariant
    (subst (IsFirstClock (IsKnown c.self.inside.items.rising.items c.self.inside.items.others) c.loop-clock.rest) c.in_default.is c.first_clock.ensures))
