use Rattle.std.proofs.Common.{sym, ◌∙◌, subst}
use Rattle.yd_hub.specs.Sessions.{AreSessions}
use Rattle.yd_hub.proofs.OpenLemmas.{without_sessions}
use Rattle.yd_hub.proofs.PlaceLemmas.{not_there_at, removed_at}
use Rattle.yd_hub.proofs.sessions.remove_in.Goals as goal

pub returns-then-is_at-clause-removed : goal.returns-then-is_at-clause-removed
returns-then-is_at-clause-removed c = c.remove.ensures.items ∙ sym (removed_at c.args.numbers.now.items c.deref.result.now c.deref-2.result.now c.place-at.result c.args.session
    c.requires c.deref.ensures.value c.deref-2.ensures.value c.place-at.ensures.before (sym c.is_at.ensures ∙ c.if-is_at.true))

pub returns-then-is_at-clause-kept : goal.returns-then-is_at-clause-kept
returns-then-is_at-clause-kept c = subst (λ l. AreSessions l) (sym (returns-then-is_at-clause-removed c)) (without_sessions c.args.session c.args.numbers.now.items c.requires)

pub returns-else-is_at-clause-removed : goal.returns-else-is_at-clause-removed
returns-else-is_at-clause-removed c = sym (not_there_at c.args.numbers.now.items c.deref.result.now c.deref-2.result.now c.place-at.result c.args.session
    c.requires c.deref.ensures.value c.deref-2.ensures.value c.place-at.ensures.before c.place-at.ensures.behind (sym c.is_at.ensures ∙ c.if-is_at.false))
