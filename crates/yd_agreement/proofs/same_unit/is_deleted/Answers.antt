use Rattle.yd_agreement.proofs.ContentLemmas.{deleted_is, no_deleted}
use Rattle.yd_agreement.proofs.same_unit.is_deleted.Goals as goal

pub returns-in-Deleted : goal.returns-in-Deleted
returns-in-Deleted c = deleted_is c.args.content.now c.in-Deleted.field-0 c.args.j c.in-Deleted.is c.requires

pub returns-in_default : goal.returns-in_default
returns-in_default c = no_deleted c.args.content.now c.args.j c.in_default.not-Deleted c.requires
