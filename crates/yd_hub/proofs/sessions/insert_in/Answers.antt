use Rattle.std.proofs.Common.{sym, ◌∙◌, subst}
use Rattle.yd_hub.specs.Sessions.{AreSessions}
use Rattle.yd_hub.proofs.OpenLemmas.{with_sessions}
use Rattle.yd_hub.proofs.PlaceLemmas.{inserted_at, there_at}
use Rattle.yd_hub.proofs.sessions.insert_in.Goals as goal

pub returns-in_ok-insert-clause-added : goal.returns-in_ok-insert-clause-added
returns-in_ok-insert-clause-added c = c.in_ok-insert.ensures.items ∙ sym (inserted_at c.args.numbers.now.items c.deref.result.now c.deref-2.result.now c.place-at.result c.args.session
    c.requires c.deref.ensures.value c.deref-2.ensures.value c.place-at.ensures.before c.place-at.ensures.behind (sym c.is_at.ensures ∙ c.if-not-is_at.true))

pub returns-in_ok-insert-clause-kept : goal.returns-in_ok-insert-clause-kept
returns-in_ok-insert-clause-kept c = subst (λ l. AreSessions l) (sym (returns-in_ok-insert-clause-added c)) (with_sessions c.args.session c.args.numbers.now.items c.requires)

pub returns-else-not-is_at-clause-added : goal.returns-else-not-is_at-clause-added
returns-else-not-is_at-clause-added c = sym (there_at c.args.numbers.now.items c.deref.result.now c.deref-2.result.now c.place-at.result c.args.session
    c.deref.ensures.value c.deref-2.ensures.value c.place-at.ensures.before (sym c.is_at.ensures ∙ c.if-not-is_at.false))
