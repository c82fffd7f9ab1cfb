use Rattle.std.proofs.Common.{◌<◌, subst}
use Rattle.std.specs.Prelude.{IfSome}
use Rattle.yd_words.specs.Member.{IsIn}
use Rattle.yd_ids.specs.declared.id.Id.{Id}
use Rattle.yd_ids.specs.Span.{InSpan}
use Rattle.yd_arena.specs.Arena.{count_of}
use Rattle.yd_listing.specs.Falling.{units_of_list}
use Rattle.yd_listing.proofs.TakingLemmas.{lost_taken, item_is, takes_listed}
use Rattle.yd_listing.proofs.arriving.add_came.Goals as goal

pub returns-in_default : goal.returns-in_default
returns-in_default c = lost_taken c.args.kept.now c.args.deleted.now c.args.one c.args.spans.now.items c.add_span.new.spans.items c.add_span.result c.in_default.is
    c.add_span.ensures.adds c.add_span.ensures.all

pub add_under-requires-clause-item : goal.add_under-requires-clause-item
add_under-requires-clause-item c = item_is c.args.kept.now c.args.one c.in-Some.number c.in-Some-name_at.name.now c.requires.told c.requires.came c.in-Some.is
    (rw c.names.ensures at c.in-Some-name_at.ensures.found)

pub returns : goal.returns
returns c = takes_listed c.args.kept.now c.args.deleted.now c.args.one c.in-Some.number c.in-Some.is c.in-Some-name_at.name.now
    (rw c.names.ensures at c.in-Some-name_at.ensures.found)
    (subst (λ z. IfSome z (λ n. (n < count_of c.args.kept.now.store.placed) × ((x : Id) → InSpan c.args.one.span x → IsIn x (units_of_list c.args.kept.now n))))
    c.in-Some.is c.requires.came.list).1
    c.args.spans.now.items c.add_under.new.spans.items c.add_keyed.new.spans.items c.in_ok-add_under.ensures.adds c.in_ok-add_under.ensures.all
    c.in_ok-add_keyed.ensures.adds c.in_ok-add_keyed.ensures.keys c.in_ok-add_keyed.ensures.outlived
