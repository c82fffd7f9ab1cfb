use Rattle.yd_parts.proofs.AlikeLemmas.{expected_leads}
use Rattle.yd_fields.proofs.UpdateAlikeLemmas.{update_wants}
use Rattle.yd_fields.proofs.law.places_do_not_matter.Goals as goal

pub returns : goal.returns
returns c = record {
  wanted = update_wants;
  leads = expected_leads;
}
