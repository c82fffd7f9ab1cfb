use Rattle.yd_making.proofs.FindingLemmas.{no_text}
use Rattle.yd_making.proofs.finding.is_high_at.Goals as goal

pub returns-in_default : goal.returns-in_default
returns-in_default c = no_text c.args.content.now c.args.place c.in_default.not-Str
