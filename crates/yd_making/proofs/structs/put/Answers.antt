use Rattle.std.proofs.Common.{◌++◌, ◌∷◌, [], List, map, sym, ap, ◌∙◌}
use Rattle.std.proofs.lemmas.List.{map-append}
use Rattle.yd_ops.specs.declared.updates.Struct.{Struct}
use Rattle.yd_ops.specs.declared.updates.Struct.TheVariants.{Item}
use Rattle.yd_ops.specs.Value.{item}
use Rattle.yd_ops.specs.View.{struct_value}
use Rattle.yd_making.specs.Rights.{runs_with}
use Rattle.yd_making.specs.Steps.{step_value}
use Rattle.yd_making.proofs.StructLemmas.{items_of}
use Rattle.yd_making.proofs.structs.put.Goals as goal

pub returns-in_ok-push-in-Make : goal.returns-in_ok-push-in-Make
returns-in_ok-push-in-Make c =
    let old = c.args.structs.now in
    ap (map struct_value) c.in_ok-push-in-Make.ensures.appended ∙ map-append struct_value old (Item c.made.result ∷ [])
    ∙ ap (λ run. map struct_value old ++ item run ∷ []) c.made.ensures
    ∙ ap (λ s. map struct_value old ++ items_of (runs_with c.args.id.client c.args.id.clock (c.args.right ∷ []) (step_value s ∷ []))) (sym c.in-Make.is)
