use Rattle.std.proofs.Common.{refl, sym, ◌∙◌, subst}
use Rattle.std.proofs.lemmas.Result.{on_ok_weaker}
use Rattle.yd_state.specs.Lent.{units_of_view}
use Rattle.yd_modes.specs.Roles.{Values}
use Rattle.yd_modes.specs.Listed.{Lists}
use Rattle.yd_modes.proofs.RoleLemmas.{content_values}
use Rattle.yd_modes.proofs.TakingLemmas.{view_is, idle_view}
use Rattle.yd_modes.proofs.ListedLemmas.{listed_idle}
use Rattle.yd_modes.proofs.values.list_others.Goals as goal

pub returns-then-gives_values : goal.returns-then-gives_values
returns-then-gives_values c = on_ok_weaker c.list_values.result (λ lists show plain.
    subst (Lists show c.args.listed.now c.list_values.new.listed) (sym (view_is c.args.piece.now c.args.piece.now.content.now c.requires.live refl))
    (lists show plain (content_values Values c.args.piece.now.content.now (sym c.gives_values.ensures ∙ c.if-gives_values.true)))) c.list_values.ensures

pub returns : goal.returns
returns c = on_ok_weaker c.take_idle.result (λ lists show plain.
    let idle = idle_view c.args.piece.now Values c.requires.live c.requires.some c.requires.within
    (listed_idle c.args.piece.now.content.now (sym c.gives_values.ensures ∙ c.if-gives_values.false) c.requires.text c.requires.plain) in
    lists show (units_of_view c.args.piece.now) idle.0 idle.1) c.take_idle.ensures
