use Rattle.yd_agreement.proofs.ContentLemmas.{no_text}
use Rattle.yd_agreement.proofs.same_unit.is_text_at.Goals as goal

pub returns-in_default : goal.returns-in_default
returns-in_default c = no_text c.args.unit c.args.content.now c.args.j c.in_default.not-Str c.requires
