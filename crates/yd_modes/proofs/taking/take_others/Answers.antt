use Rattle.std.proofs.Common.{refl, sym, ◌∙◌, subst}
use Rattle.std.proofs.lemmas.Result.{on_ok_weaker}
use Rattle.yd_state.specs.Lent.{units_of_view}
use Rattle.yd_modes.specs.Roles.{Delta}
use Rattle.yd_modes.specs.Gathering.{Gathers}
use Rattle.yd_modes.proofs.RoleLemmas.{content_values, content_idle}
use Rattle.yd_modes.proofs.TakingLemmas.{view_is, idle_view}
use Rattle.yd_modes.proofs.taking.take_others.Goals as goal

pub returns-then-gives_values : goal.returns-then-gives_values
returns-then-gives_values c = on_ok_weaker c.take_values.result (λ gathers show plain.
    subst (λ us. Gathers Delta show c.args.gathering.now c.take_values.new.gathering us) (sym (view_is c.args.piece.now c.args.piece.now.content.now c.requires.live refl))
    (gathers Delta show plain (content_values Delta c.args.piece.now.content.now (sym c.gives_values.ensures ∙ c.if-gives_values.true)))) c.take_values.ensures

pub returns : goal.returns
returns c = on_ok_weaker c.take_idle.result (λ gathers show plain.
    let idle = idle_view c.args.piece.now Delta c.requires.live c.requires.some c.requires.within
    (content_idle Delta c.args.piece.now.content.now (sym c.gives_values.ensures ∙ c.if-gives_values.false) c.requires.other) in
    gathers Delta show (units_of_view c.args.piece.now) idle.0 idle.1) c.take_idle.ensures
