use Rattle.std.proofs.Common.{refl, sym, ap, ◌∙◌}
use Rattle.yd_sync.specs.Table.{raised}
use Rattle.yd_aware.specs.declared.taking.Was.TheVariants.{At}
use Rattle.yd_aware.specs.Rows.{seat_in}
use Rattle.yd_aware.specs.Undoing.{restored}
use Rattle.yd_aware.proofs.UndoingLemmas.{noted, raise_nothing, raise_undone}
use Rattle.yd_aware.proofs.taking.raise_own.Goals as goal

pub returns-in-Some-clause-kept : goal.returns-in-Some-clause-kept
returns-in-Some-clause-kept c =
    noted c.args.changes.now.items c.reserve.new.self.items c.note.new.changes.items (record { client = c.args.client; was = At c.in-Some.was })
    c.args.rows.now.entries c.raise.new.rows.entries c.in_ok-reserve.ensures.items c.note.ensures
    (ap (raised c.args.client c.in-Some.was) c.raise.ensures.raised
    ∙ raise_undone c.args.client c.args.clock c.in-Some.was c.args.rows.now.entries (seat_in c.args.rows.now.entries c.args.client) refl
    (sym c.in-Some.is ∙ c.raise.ensures.was))

pub returns-in_default-clause-kept : goal.returns-in_default-clause-kept
returns-in_default-clause-kept c =
    ap (λ changes. restored changes c.raise.new.rows.entries) c.in_ok-reserve.ensures.items
    ∙ ap (restored c.args.changes.now.items) (c.raise.ensures.raised
    ∙ raise_nothing c.args.client c.args.clock c.args.rows.now.entries (seat_in c.args.rows.now.entries c.args.client) refl
    (sym c.in_default.is ∙ c.raise.ensures.was))
