use Rattle.yd_agreement.proofs.ContentLemmas.{no_binary}
use Rattle.yd_agreement.proofs.same_unit.is_binary.Goals as goal

pub returns-in_default : goal.returns-in_default
returns-in_default c = no_binary c.args.blob.now c.args.content.now c.args.j c.in_default.not-Binary c.requires
