use Rattle.std.proofs.Common.{◌∙◌, None, map, set, ap}
use Rattle.std.proofs.lemmas.List.{map-set, set-get_or}
use Rattle.yd_index.proofs.LinesLemmas.{on_err}
use Rattle.yd_store.specs.Contents.{told, told_before}
use Rattle.yd_store.proofs.StoreLemmas.{told_at}
use Rattle.yd_store.proofs.cutting.rest_at.Goals as goal

pub returns-in_err-rest-clause-unchanged : goal.returns-in_err-rest-clause-unchanged
returns-in_err-rest-clause-unchanged c =
    let items = c.args.runs.now.items in
    on_err c.from_residual.result _ (map-set told items c.args.place c.rest_in.new.slot
    ∙ ap (λ z. set (map told items) c.args.place z) (c.in_err-rest.ensures.unchanged ∙ told_at items c.args.place c.index_mut.result.now c.requires.place c.index_mut.ensures.value)
    ∙ set-get_or (map told items) c.args.place None)

pub returns-clause-front : goal.returns-clause-front
returns-clause-front c =
    let items = c.args.runs.now.items in
    map-set told items c.args.place c.rest_in.new.slot
    ∙ ap (λ z. set (map told items) c.args.place z) (c.in_ok-rest.ensures.front ∙ ap (told_before c.args.n) (told_at items c.args.place c.index_mut.result.now c.requires.place c.index_mut.ensures.value))
