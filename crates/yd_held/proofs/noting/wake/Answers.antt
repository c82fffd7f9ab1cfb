use Rattle.std.proofs.Common.{◌∙◌, ◌++◌, ◌∷◌, [], map, sym, ap}
use Rattle.std.specs.Prelude.{slice_range}
use Rattle.yd_held.specs.declared.noting.Lack.{Lack}
use Rattle.yd_held.proofs.LackLemmas.{places_ascend, met_are, unmet_are}
use Rattle.yd_held.proofs.noting.wake.Goals as goal

pub try_between-requires : goal.try_between-requires
try_between-requires c = (
  places_ascend c.args.held c.args.lacks.now.items c.place-first.result c.place-last.result
      (rw c.deref.ensures.value at c.place-first.ensures.bound) (rw c.deref-2.ensures.value at c.place-last.ensures.bound)
      (rw (c.deref.ensures.value, c.first_lack.ensures) at c.place-first.ensures.before) (rw (c.deref.ensures.value, c.first_lack.ensures) at c.place-first.ensures.behind)
      (rw (c.deref-2.ensures.value, c.first_lack-2.ensures) at c.place-last.ensures.before) (rw (c.deref-2.ensures.value, c.first_lack-2.ensures) at c.place-last.ensures.behind),
  rw c.deref-3.ensures.value (rw c.deref-2.ensures.value at c.place-last.ensures.bound),
)

pub take_out-requires : goal.take_out-requires
take_out-requires c = (
  places_ascend c.args.held c.args.lacks.now.items c.place-first.result c.place-last.result
      (rw c.deref.ensures.value at c.place-first.ensures.bound) (rw c.deref-2.ensures.value at c.place-last.ensures.bound)
      (rw (c.deref.ensures.value, c.first_lack.ensures) at c.place-first.ensures.before) (rw (c.deref.ensures.value, c.first_lack.ensures) at c.place-first.ensures.behind)
      (rw (c.deref-2.ensures.value, c.first_lack-2.ensures) at c.place-last.ensures.before) (rw (c.deref-2.ensures.value, c.first_lack-2.ensures) at c.place-last.ensures.behind),
  rw c.deref-2.ensures.value at c.place-last.ensures.bound,
)

pub returns : goal.returns
returns c =
    let lacks = c.args.lacks.now.items in
    record {
      stays = c.take_out.ensures ∙ sym (unmet_are c.args.held lacks c.place-first.result c.place-last.result
          (rw c.deref.ensures.value at c.place-first.ensures.bound) (rw c.deref-2.ensures.value at c.place-last.ensures.bound)
          (rw (c.deref.ensures.value, c.first_lack.ensures) at c.place-first.ensures.before) (rw (c.deref.ensures.value, c.first_lack.ensures) at c.place-first.ensures.behind)
          (rw (c.deref-2.ensures.value, c.first_lack-2.ensures) at c.place-last.ensures.before) (rw (c.deref-2.ensures.value, c.first_lack-2.ensures) at c.place-last.ensures.behind));
      tried = c.in_ok-push-2.ensures.items ∙ ap (λ tries. tries ++ c.args.held.id.client ∷ []) (c.in_ok-try_between.ensures
          ∙ ap (λ ls. c.args.tries.now.items ++ map (λ (l : Lack). l.client) ls) (ap (λ ls. slice_range ls c.place-first.result c.place-last.result) c.deref-3.ensures.value
          ∙ sym (met_are c.args.held lacks c.place-first.result c.place-last.result
          (rw c.deref.ensures.value at c.place-first.ensures.bound) (rw c.deref-2.ensures.value at c.place-last.ensures.bound)
          (rw (c.deref.ensures.value, c.first_lack.ensures) at c.place-first.ensures.before) (rw (c.deref.ensures.value, c.first_lack.ensures) at c.place-first.ensures.behind)
          (rw (c.deref-2.ensures.value, c.first_lack-2.ensures) at c.place-last.ensures.before) (rw (c.deref-2.ensures.value, c.first_lack-2.ensures) at c.place-last.ensures.behind))));
    }
