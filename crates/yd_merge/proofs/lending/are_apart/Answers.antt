use Rattle.std.proofs.Common.{map, ap, sym, ◌∙◌, ◌++◌}
use Rattle.yd_ops.specs.View.{update_value}
use Rattle.yd_merge.specs.Lending.{updates_groups}
use Rattle.yd_merge.proofs.TurnLemmas.{lent_alike, updates-append}
use Rattle.yd_merge.proofs.lending.are_apart.Goals as goal

pub returns : goal.returns
returns c = λ there.
    let us = map update_value c.args.updates.now in
    let vs = map update_value c.args.others.now in
    lent_alike (us ++ vs) c.lend_updates.new.lents.items c.in_turn.result c.lend_updates.ensures.lent
    (c.in_ok-lend_updates.ensures.groups ∙ ap (λ gs. gs ++ updates_groups vs) c.in_ok-lents.ensures.groups ∙ sym (updates-append us vs))
    c.in_turn.ensures.same c.in_turn.ensures.in_turn (sym c.is_some-apart.ensures ∙ there)
