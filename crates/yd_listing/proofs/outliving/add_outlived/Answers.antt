use Rattle.std.proofs.Common.{◌<◌, ◌∙◌, Some, sym, ap, subst}
use Rattle.yd_ids.specs.declared.id.Id.{Id}
use Rattle.yd_ids.specs.declared.id.Span.{Span}
use Rattle.yd_ids.specs.Id.{IsSpan}
use Rattle.yd_ids.specs.Span.{InSpan}
use Rattle.yd_chains.proofs.LinkLemmas.{last_has}
use Rattle.yd_listing.proofs.WalkLemmas.{place_told}
use Rattle.yd_arena.specs.Arena.{places_in}
use Rattle.yd_listing.specs.Falling.{units_of_list}
use Rattle.yd_listing.specs.Steps.{last_of_span, IsOther}
use Rattle.yd_listing.proofs.AddingLemmas.{adds_both}
use Rattle.yd_listing.proofs.RunLemmas.{run_is_span}
use Rattle.yd_listing.proofs.OutlivingLemmas.{list_ends, other_end, none_there, others_added, end_is}
use Rattle.yd_listing.proofs.outliving.add_outlived.Goals as goal

pub span_at-requires-clause-place : goal.span_at-requires-clause-place
span_at-requires-clause-place c = rw c.store-store.ensures.value (c.store-store.ensures.lists.within c.args.list c.in-Some.place c.requires.list
    (last_has (places_in c.args.kept.now.store.placed c.args.list) c.in-Some.place (sym (rw c.store-store.ensures.value at c.last.ensures) ∙ c.in-Some.is)))

pub span_at-requires-clause-told : goal.span_at-requires-clause-told
span_at-requires-clause-told c = rw c.store-store.ensures.value (place_told c.args.kept.now.store c.args.list c.in-Some.place c.store-store.ensures.lists c.requires.list
    (last_has (places_in c.args.kept.now.store.placed c.args.list) c.in-Some.place (sym (rw c.store-store.ensures.value at c.last.ensures) ∙ c.in-Some.is))
    (c.requires.told.told c.args.list c.requires.list))

pub last_id-last-requires-clause-is_span : goal.last_id-last-requires-clause-is_span
last_id-last-requires-clause-is_span c = subst IsSpan (sym (rw c.store-store.ensures.value at c.span_at.ensures))
    (run_is_span c.args.kept.now c.args.list c.in-Some.place c.requires.told c.store-store.ensures.arena c.store-store.ensures.lists c.requires.list
    (last_has (places_in c.args.kept.now.store.placed c.args.list) c.in-Some.place (sym (rw c.store-store.ensures.value at c.last.ensures) ∙ c.in-Some.is)))

pub last_id-last-requires-clause-some : goal.last_id-last-requires-clause-some
last_id-last-requires-clause-some c = subst (λ (s : Span). 0 < s.len) (sym (rw c.store-store.ensures.value at c.span_at.ensures))
    (c.store-store.ensures.lists.filled c.args.list c.in-Some.place c.requires.list
    (last_has (places_in c.args.kept.now.store.placed c.args.list) c.in-Some.place (sym (rw c.store-store.ensures.value at c.last.ensures) ∙ c.in-Some.is)))

pub add_back-requires-clause-last : goal.add_back-requires-clause-last
add_back-requires-clause-last c = (list_ends c.args.kept.now c.args.list c.in-Some.place c.store-store.ensures.lists c.requires.list
    (sym (rw c.store-store.ensures.value at c.last.ensures) ∙ c.in-Some.is) (last_has (places_in c.args.kept.now.store.placed c.args.list) c.in-Some.place (sym (rw c.store-store.ensures.value at c.last.ensures) ∙ c.in-Some.is))
    ∙ ap (λ (x : Id). Some x) (sym (c.last_id-last.ensures ∙ ap last_of_span (rw c.store-store.ensures.value at c.span_at.ensures))))

pub returns-in_default-clause-keys : goal.returns-in_default-clause-keys
returns-in_default-clause-keys c = λ x i other. absurd (none_there c.args.kept.now c.args.list x
    (sym (rw c.store-store.ensures.value at c.last.ensures) ∙ c.in_default.is) (c.requires.there x i))

pub returns-in_default-clause-outlived : goal.returns-in_default-clause-outlived
returns-in_default-clause-outlived c = λ x i end. absurd (none_there c.args.kept.now c.args.list x
    (sym (rw c.store-store.ensures.value at c.last.ensures) ∙ c.in_default.is) (c.requires.there x i))

pub returns-in_ok-add_back-clause-adds : goal.returns-in_ok-add_back-clause-adds
returns-in_ok-add_back-clause-adds c = adds_both (IsOther (units_of_list c.args.kept.now c.args.list)) c.args.spans.now.items c.add_but.new.spans.items c.add_back.new.spans.items
    (others_added (units_of_list c.args.kept.now c.args.list) c.args.span c.last_id-last.result c.args.spans.now.items c.add_but.new.spans.items
    (list_ends c.args.kept.now c.args.list c.in-Some.place c.store-store.ensures.lists c.requires.list
    (sym (rw c.store-store.ensures.value at c.last.ensures) ∙ c.in-Some.is) (last_has (places_in c.args.kept.now.store.placed c.args.list) c.in-Some.place (sym (rw c.store-store.ensures.value at c.last.ensures) ∙ c.in-Some.is))
    ∙ ap (λ (x : Id). Some x) (sym (c.last_id-last.ensures ∙ ap last_of_span (rw c.store-store.ensures.value at c.span_at.ensures))))
    c.requires.there c.in_ok-add_but.ensures.adds) c.in_ok-add_back.ensures.adds

pub returns-in_ok-add_back-clause-keys : goal.returns-in_ok-add_back-clause-keys
returns-in_ok-add_back-clause-keys c = λ x i other. c.in_ok-add_back.ensures.adds.kept x (c.in_ok-add_but.ensures.all x (
  i,
  other_end
      (units_of_list c.args.kept.now c.args.list) c.last_id-last.result x
      (list_ends c.args.kept.now c.args.list c.in-Some.place c.store-store.ensures.lists c.requires.list
      (sym (rw c.store-store.ensures.value at c.last.ensures) ∙ c.in-Some.is) (last_has (places_in c.args.kept.now.store.placed c.args.list) c.in-Some.place (sym (rw c.store-store.ensures.value at c.last.ensures) ∙ c.in-Some.is))
      ∙ ap (λ (x : Id). Some x) (sym (c.last_id-last.ensures ∙ ap last_of_span (rw c.store-store.ensures.value at c.span_at.ensures)))) other,
))

pub returns-else-is_in-clause-adds : goal.returns-else-is_in-clause-adds
returns-else-is_in-clause-adds c = others_added (units_of_list c.args.kept.now c.args.list) c.args.span c.last_id-last.result c.args.spans.now.items c.add_but.new.spans.items
    (list_ends c.args.kept.now c.args.list c.in-Some.place c.store-store.ensures.lists c.requires.list
    (sym (rw c.store-store.ensures.value at c.last.ensures) ∙ c.in-Some.is) (last_has (places_in c.args.kept.now.store.placed c.args.list) c.in-Some.place (sym (rw c.store-store.ensures.value at c.last.ensures) ∙ c.in-Some.is))
    ∙ ap (λ (x : Id). Some x) (sym (c.last_id-last.ensures ∙ ap last_of_span (rw c.store-store.ensures.value at c.span_at.ensures))))
    c.requires.there c.in_ok-add_but.ensures.adds

pub returns-else-is_in-clause-keys : goal.returns-else-is_in-clause-keys
returns-else-is_in-clause-keys c = λ x i other. c.in_ok-add_but.ensures.all x (
  i,
  other_end
      (units_of_list c.args.kept.now c.args.list) c.last_id-last.result x
      (list_ends c.args.kept.now c.args.list c.in-Some.place c.store-store.ensures.lists c.requires.list
      (sym (rw c.store-store.ensures.value at c.last.ensures) ∙ c.in-Some.is) (last_has (places_in c.args.kept.now.store.placed c.args.list) c.in-Some.place (sym (rw c.store-store.ensures.value at c.last.ensures) ∙ c.in-Some.is))
      ∙ ap (λ (x : Id). Some x) (sym (c.last_id-last.ensures ∙ ap last_of_span (rw c.store-store.ensures.value at c.span_at.ensures)))) other,
)

pub returns-else-is_in-clause-outlived : goal.returns-else-is_in-clause-outlived
returns-else-is_in-clause-outlived c = λ x i end. absurd (c.is_in.ensures.other c.if-is_in.false (subst (InSpan c.args.span)
    (end_is (units_of_list c.args.kept.now c.args.list) c.last_id-last.result x
    (list_ends c.args.kept.now c.args.list c.in-Some.place c.store-store.ensures.lists c.requires.list
    (sym (rw c.store-store.ensures.value at c.last.ensures) ∙ c.in-Some.is) (last_has (places_in c.args.kept.now.store.placed c.args.list) c.in-Some.place (sym (rw c.store-store.ensures.value at c.last.ensures) ∙ c.in-Some.is))
    ∙ ap (λ (x : Id). Some x) (sym (c.last_id-last.ensures ∙ ap last_of_span (rw c.store-store.ensures.value at c.span_at.ensures)))) end) i))
