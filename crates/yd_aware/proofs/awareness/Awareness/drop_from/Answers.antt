use Rattle.std.proofs.Common.{◌≡◌, sym, ap, ◌∙◌, subst}
use Rattle.yd_words.specs.Each.{Each}
use Rattle.yd_sync.specs.Entry.{IsEntry}
use Rattle.yd_sync.specs.Table.{is_from, without_states}
use Rattle.yd_aware.specs.declared.ending.Ending.TheVariants.{From}
use Rattle.yd_aware.specs.Ending.{ended_each, ends}
use Rattle.yd_aware.proofs.EndingLemmas.{ended_each-ended}
use Rattle.yd_aware.proofs.KeptLemmas.{emptied_kept, ended_told}
use Rattle.yd_aware.proofs.awareness.Awareness.drop_from.Goals as goal

pub invariant_of-self : goal.invariant_of-self
invariant_of-self c =
    let all : c.end_each.new.rows.entries ≡ without_states (ends (From c.args.source)) c.self.inside.rows.entries =
    c.end_each.ensures
    ∙ ap (λ es. ended_each es c.self.inside.rows.entries) (c.as_slice.ensures ∙ c.in_ok-ended.ensures)
    ∙ ended_each-ended (ends (From c.args.source)) c.self.inside.rows.entries c.self.invariant.kept.ascend in
    record { owner = c.self.invariant.owner; kept = rw all (emptied_kept (ends (From c.args.source)) c.self.inside.rows.entries c.self.invariant.kept) }

pub returns-clause-valid : goal.returns-clause-valid
returns-clause-valid c =
    subst (Each IsEntry) (sym c.in_ok-ended.ensures) (ended_told (ends (From c.args.source)) c.self.inside.rows.entries c.self.invariant.kept.told)

pub returns-clause-after : goal.returns-clause-after
returns-clause-after c =
    let all : c.end_each.new.rows.entries ≡ without_states (is_from c.args.source) c.self.inside.rows.entries =
    c.end_each.ensures
    ∙ ap (λ es. ended_each es c.self.inside.rows.entries) (c.as_slice.ensures ∙ c.in_ok-ended.ensures)
    ∙ ended_each-ended (ends (From c.args.source)) c.self.inside.rows.entries c.self.invariant.kept.ascend in
    rw (← c.self.view_is) (ap (λ rows. record { own = c.self.inside.own; rows = rows }) all)
