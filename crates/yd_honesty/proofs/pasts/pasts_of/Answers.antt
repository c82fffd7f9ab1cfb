use Rattle.std.proofs.Common.{[], ◌∙◌, ap, length, replicate}
use Rattle.yd_honesty.proofs.NotingLemmas.{sound_none}
use Rattle.yd_honesty.proofs.pasts.pasts_of.Goals as goal

pub loop-init : goal.loop-init
loop-init c = sound_none c.args.received.now c.requires c.in_ok-pasts.pasts.items
    (c.in_ok-pasts.ensures ∙ ap (λ n. replicate n []) (c.len.ensures ∙ ap length c.entries.ensures.entries))
