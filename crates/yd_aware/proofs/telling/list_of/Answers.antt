use Rattle.std.proofs.Common.{[], ◌∷◌, ◌++◌, sym, ap, ◌∙◌}
use Rattle.yd_aware.specs.Telling.{entry_of_client}
use Rattle.yd_aware.proofs.SeatLemmas.{standing_in-seat}
use Rattle.yd_aware.proofs.telling.list_of.Goals as goal

pub returns : goal.returns
returns c =
    c.in_ok-push.ensures.appended
    ∙ ap (λ told. told ++ c.in_ok-entry.entry ∷ []) c.new-told.ensures
    ∙ ap (λ e. e ∷ []) (c.in_ok-entry.ensures ∙ ap (entry_of_client c.args.client) (sym (standing_in-seat c.args.rows.now.entries c.args.client.0)))
