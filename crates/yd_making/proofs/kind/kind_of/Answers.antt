use Rattle.std.proofs.Common.{◌≡◌, ◌≢◌, None, Some, sym, subst}
use Rattle.std.specs.Prelude.{IfSome, IfNone}
use Rattle.yd_words.specs.Each.{Each}
use Rattle.yd_entries.specs.declared.entry.Entry.{Entry}
use Rattle.yd_making.proofs.KindLemmas.{no_kind, kind_found}
use Rattle.yd_making.proofs.kind.kind_of.Goals as goal

pub returns-in_err-at-clause-none : goal.returns-in_err-at-clause-none
returns-in_err-at-clause-none c =
    let none : Each (λ (t : Entry). t.id ≢ c.args.id) c.args.state.now.held.received.entries = rw (sym c.received-received.ensures.received) c.in_err-at.ensures.none in
    rw c.from_residual.ensures (no_kind c.args.state.now c.received-received.ensures.sound c.args.id none)

pub returns-clause-found : goal.returns-clause-found
returns-clause-found c = subst (λ k. IfSome c.kind_told.result (λ kind. k ≡ Some kind.now))
    (sym (kind_found c.args.state.now c.received-received.ensures.sound c.args.id c.received-received.result.now c.received-received.ensures.received
    c.runs.result.now c.entries.result.now c.runs.ensures c.entries.ensures.entries c.in_ok-at.at c.get.result c.get.ensures c.in_ok-at.ensures.found.0 (c.in_ok-at.ensures.found.1 c.get.result)))
    c.kind_told.ensures.found

pub returns-clause-none : goal.returns-clause-none
returns-clause-none c = subst (λ k. IfNone c.kind_told.result (k ≡ None))
    (sym (kind_found c.args.state.now c.received-received.ensures.sound c.args.id c.received-received.result.now c.received-received.ensures.received
    c.runs.result.now c.entries.result.now c.runs.ensures c.entries.ensures.entries c.in_ok-at.at c.get.result c.get.ensures c.in_ok-at.ensures.found.0 (c.in_ok-at.ensures.found.1 c.get.result)))
    c.kind_told.ensures.none
