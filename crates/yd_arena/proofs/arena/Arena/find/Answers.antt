use Rattle.std.proofs.Common.{sym, ◌∙◌}
use Rattle.yd_arena.proofs.ArenaLemmas.{entry_has, none_above, if_none}
use Rattle.yd_arena.proofs.arena.Arena.find.Goals as goal

pub returns-in_err-entry-clause-missing : goal.returns-in_err-entry-clause-missing
returns-in_err-entry-clause-missing c =
    if_none c.from_residual.result _ (rw (← c.self.view_is) (none_above c.self.inside.index c.self.inside.lists.stretches c.self.invariant.holds c.args.id (sym c.entry.ensures ∙ c.in_err-entry.was)))

pub overflow_sub-result : goal.overflow_sub-result
overflow_sub-result c =
    (entry_has c.self.inside.index c.self.inside.lists.stretches c.self.invariant.holds c.args.id c.in_ok-entry.entry (sym c.entry.ensures ∙ c.in_ok-entry.was)).0

pub returns-clause-found : goal.returns-clause-found
returns-clause-found c =
    rw (← c.self.view_is) (entry_has c.self.inside.index c.self.inside.lists.stretches c.self.invariant.holds c.args.id c.in_ok-entry.entry (sym c.entry.ensures ∙ c.in_ok-entry.was)).1
