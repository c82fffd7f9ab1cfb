use Rattle.std.proofs.Common.{◌∙◌}
use Rattle.yd_hub.proofs.PlaceLemmas.{first_is_open}
use Rattle.yd_hub.proofs.sessions.has_in.Goals as goal

pub returns : goal.returns
returns c = c.is_at-found.ensures ∙ first_is_open c.args.numbers.now c.place-at.result c.args.session c.requires c.place-at.ensures.before c.place-at.ensures.behind
