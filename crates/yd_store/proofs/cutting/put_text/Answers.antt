use Rattle.std.proofs.Common.{◌∙◌, map, set, ap}
use Rattle.std.proofs.lemmas.List.{map-set}
use Rattle.yd_store.specs.Contents.{told}
use Rattle.yd_store.specs.Halves.{told_as}
use Rattle.yd_store.proofs.StoreLemmas.{told_at}
use Rattle.yd_store.proofs.cutting.put_text.Goals as goal

pub returns-clause-items : goal.returns-clause-items
returns-clause-items c =
    let items = c.args.runs.now.items in
    map-set told items c.args.place c.put_text_in.new.slot
    ∙ ap (λ z. set (map told items) c.args.place z) (c.put_text_in.ensures ∙ ap (told_as c.args.units) (told_at items c.args.place c.index_mut.result.now c.requires c.index_mut.ensures.value))
