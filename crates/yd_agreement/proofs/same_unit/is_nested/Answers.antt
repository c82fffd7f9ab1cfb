use Rattle.yd_agreement.proofs.ContentLemmas.{no_nested}
use Rattle.yd_agreement.proofs.same_unit.is_nested.Goals as goal

pub returns-in_default : goal.returns-in_default
returns-in_default c = no_nested c.args.kind.now c.args.content.now c.args.j c.in_default.not-Nested c.requires
