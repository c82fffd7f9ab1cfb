use Rattle.yd_agreement.proofs.ContentLemmas.{no_embed}
use Rattle.yd_agreement.proofs.same_unit.is_embed.Goals as goal

pub returns-in_default : goal.returns-in_default
returns-in_default c = no_embed c.args.value.now c.args.content.now c.args.j c.in_default.not-Embed c.requires
