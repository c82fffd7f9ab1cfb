use Rattle.yd_agreement.proofs.ContentLemmas.{no_format}
use Rattle.yd_agreement.proofs.same_unit.is_format.Goals as goal

pub returns-in_default : goal.returns-in_default
returns-in_default c = no_format c.args.key.now c.args.value.now c.args.content.now c.args.j c.in_default.not-Format c.requires
