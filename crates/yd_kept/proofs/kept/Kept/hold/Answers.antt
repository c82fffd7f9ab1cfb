use Rattle.yd_ops.specs.View.{run_value}
use Rattle.yd_kept.specs.Kept.{KeptValue}
use Rattle.yd_kept.proofs.HoldingLemmas.{is_ready, holds_run}
use Rattle.yd_kept.proofs.ChangeLemmas.{on_err, units_keep, held_both}
use Rattle.yd_kept.proofs.kept.Kept.hold.Goals as goal

pub integrate-requires-clause-ready : goal.integrate-requires-clause-ready
integrate-requires-clause-ready c =
    let it : KeptValue = record { store = c.self.inside.store; names = c.self.inside.names } in
    is_ready c.args.self.now it (run_value c.args.run) c.in-Ok.list (rw (← c.self.view_is) at c.list_for.ensures.kept) (rw (← c.self.view_is) at c.in-Ok.ensures.list)
    c.is_sound.ensures.lists c.requires.comes c.requires.fits

pub returns-in_err-integrate-clause-unchanged : goal.returns-in_err-integrate-clause-unchanged
returns-in_err-integrate-clause-unchanged c =
    let it : KeptValue = record { store = c.self.inside.store; names = c.self.inside.names } in
    let now : KeptValue = record { store = c.integrate.new.self; names = c.self.inside.names } in
    on_err _ (held_both c.args.self.now it now (rw (← c.self.view_is) at c.list_for.ensures.kept) (units_keep c.self.inside.names c.self.inside.store c.integrate.new.self c.in_err-integrate.ensures.unchanged))

pub returns-clause-done : goal.returns-clause-done
returns-clause-done c =
    let it : KeptValue = record { store = c.self.inside.store; names = c.self.inside.names } in
    holds_run c.args.self.now it (run_value c.args.run) c.in-Ok.list (rw (← c.self.view_is) at c.list_for.ensures.kept) (rw (← c.self.view_is) at c.in-Ok.ensures.list)
    c.integrate.new.self c.in_ok-integrate.ensures.done c.in_ok-integrate.ensures.units
